-- `meshfile::read_ids` meets its contract: by the layout that was found, in the areas' room. Assumes nothing.
use mathlib.Core.List.{map-id}
use native.Mathlib.Omega.{arith}
use Rattle.ids.proofs.PassedOn.{passed_on}
use Rattle.meshfile.specs.inner.Steps.{contents_at}
use Rattle.meshfile.proofs.Gives.{refused, fits, given}
use Rattle.meshfile.proofs.read_ids.Goals as goal

pub overflow_add-p : goal.overflow_add-p
overflow_add-p g c = omega (arith, (fits g.U.FromWord.of_word c.args.bytes.now c.args.v c.args.ids.now _ c.in_ok-p.ensures).0)

pub overflow_mul-p : goal.overflow_mul-p
overflow_mul-p g c = omega (arith, (fits g.U.FromWord.of_word c.args.bytes.now c.args.v c.args.ids.now _ c.in_ok-p.ensures).0)

pub fill-requires : goal.fill-requires
fill-requires g c =
    let r = fits g.U.FromWord.of_word c.args.bytes.now c.args.v c.args.ids.now _ c.in_ok-p.ensures in
    (omega (arith, r.0), r.1)

pub beside-requires : goal.beside-requires
beside-requires g c = (fits g.U.FromWord.of_word c.args.bytes.now c.args.v c.args.ids.now _ c.in_ok-p.ensures).0

pub returns-in_err-p : goal.returns-in_err-p
returns-in_err-p g c = rw (passed_on _ _ c.from_residual.ensures) (refused g.U.FromWord.of_word _ _ _ _ c.in_err-p.ensures)

pub returns : goal.returns
unfolding contents_at
returns g c =
    given g.U.FromWord.of_word _ _ _ _ c.in_ok-p.ensures _ _ c.beside.ensures (rw (map-id _) at c.fill.ensures)
