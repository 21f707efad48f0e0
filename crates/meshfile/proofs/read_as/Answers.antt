-- `meshfile::read_as` meets its contract: what `read_ids` found, and the vertices' words. Assumes nothing.
use native.Mathlib.Omega.{arith}
use Rattle.ids.proofs.PassedOn.{passed_on}
use Rattle.meshfile.proofs.Gives.{unread, room, filled}
use Rattle.meshfile.proofs.read_as.Goals as goal

pub fill-requires : goal.fill-requires
fill-requires g c =
    let r = room g.U.FromWord.of_word c.read_ids.ensures c.in_ok-m.was in
    (omega (arith, r.0), r.1)

pub returns-in_err-m : goal.returns-in_err-m
returns-in_err-m g c = rw (passed_on _ _ c.from_residual.ensures) (unread g.U.FromWord.of_word c.read_ids.ensures c.in_err-m.was)

pub returns : goal.returns
returns g c = filled g.U.FromWord.of_word c.read_ids.ensures c.in_ok-m.was c.fill.ensures
