-- `words::put_u32` meets its contract: the library's four bytes are the definition's, and stand between what was there. Assumes nothing.
use Prim.Native.Nat.{◌+◌}
use native.Mathlib.Omega.{arith}
use borrow.Rule.Slice.PartMut.{Post-is}
use Rattle.words.specs.Words.{bytes_of}
use Rattle.words.proofs.put_u32.Goals as goal

pub returns : goal.returns
unfolding bytes_of
returns c =
    let a = c.args in
    rw (c.copy_from_slice.ensures.after, c.to_le_bytes.ensures, Post-is a.at (a.at + 4) a.area.now (omega arith))
