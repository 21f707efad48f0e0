-- `spelling::put` meets its contract: the text stands between what was there. Assumes nothing.
use mathlib.Core.Path.{refl}
use native.Mathlib.Omega.{arith}
use Prim.Native.Nat.{◌+◌}
use lib.ListN.{length}
use borrow.Rule.Slice.PartMut.{Post-is}
use Rattle.spelling.specs.inner.Steps.{written}
use Rattle.spelling.proofs.put.Goals as goal

pub returns : goal.returns
unfolding written
returns c =
    let a = c.args in
    record {
      place = refl;
      later = rw (c.copy_from_slice.ensures.after, Post-is a.at (a.at + length a.text.now) a.out.now (omega arith));
    }
