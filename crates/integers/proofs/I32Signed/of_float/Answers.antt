-- `of_float` for `i32` meets its contract. Assumes nothing.
use Rattle.std.proofs.Common.{◌≡◌, lit≤, w32, w64, to_z, of_z}
use lib.Ieee.{to_signed}
use Rattle.ieee.proofs.Order.Ranges.{signed_fits, signed_read}
use Rattle.integers.proofs.I32Signed.of_float.Goals as goal
use Rattle.integers.proofs.I32Signed.of_float.Goals.{After-to_signed}

given : (c : After-to_signed) → to_z w64 (of_z w64 c.to_signed.result) ≡ to_signed 31 c.args.x
given c =
    signed_read w64 31 (lit≤ tt) c.args.x c.to_signed.result
    c.to_signed.ensures

pub overflow_cast-result : goal.overflow_cast-result
overflow_cast-result c = rw (given c) (signed_fits w32 _)

pub returns : goal.returns
returns c = signed_read w32 31 (lit≤ tt) _ _ (given c)
