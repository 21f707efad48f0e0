-- A size of less than half of the smallest `f32` is narrowed to 0. Assumes nothing.
use mathlib.Core.Path.{◌≡◌}
use Prim.Native.Nat.{ℕ, ◌/◌, ◌%◌, ◌^◌, ◌<◌}
use native.Mathlib.Omega.{arith}
use Rattle.ieee.proofs.Patterns.Narrowed.{narrow_tiny}
use Rattle.rounding.specs.inner.Sizes.{narrow_size}

pub tiny_is_none : (m : ℕ) → m < 0x35f0000000000000 → 0 ≡ narrow_size m
tiny_is_none m l = narrow_tiny (m / 2 ^ 52) (m % 2 ^ 52) (omega arith) (omega arith)
