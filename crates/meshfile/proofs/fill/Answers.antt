-- `meshfile::fill` meets its contract: the part lies within the bytes, and is as long as what is lent. Assumes nothing.
use mathlib.Core.Path.{sym}
use Prim.Native.Nat.{◌*◌}
use native.Mathlib.Omega.{arith}
use lib.ListN.{length-take, length-drop}
use lib.Seq.{length-take-le}
use Rattle.words.proofs.Parts.{part_is}
use Rattle.meshfile.proofs.fill.Goals as goal

pub slice_bounds-put_words-end-3 : goal.slice_bounds-put_words-end-3
slice_bounds-put_words-end-3 g c = sym (length-take-le _ _ c.requires.1)

pub put_words-requires : goal.put_words-requires
put_words-requires g c = simp (length-take, length-drop) (omega (arith, c.requires))

pub returns : goal.returns
returns g c =
    let a = c.args in
    rw (c.put_words.ensures, part_is a.at (4 * a.n) a.bytes.now)
