-- An infinity or a NaN in a file is refused by 4, whatever the digits of its pattern: reading keeps it one, and it is no number up to 2^33.
use mathlib.Core.Path.{◌≡◌, refl}
use Prim.Native.Nat.{ℕ, ◌%◌, ◌^◌, ◌≤◌, ◌<◌}
use mathlib.Core.Bool.{Bool, false}
use native.Mathlib.Omega.{arith}
use native.Mathlib.Decide.{dec_lt}
use lib.Ieee.{nan, inf, binary32, le, of_bits}
use Rattle.ieee.specs.Magnitude.{magnitude}
use Rattle.ieee.proofs.Patterns.Fields.{read_inf}
use Rattle.ieee.proofs.Patterns.Nan.{above_inf}
use Rattle.sums.specs.Fine.{fine}
use Rattle.program.specs.Promises.{NotFiniteRefused}

nan_refused : fine nan ≡ false
unfolding magnitude le
nan_refused = refl

inf_refused : (s : Bool) → fine (inf s) ≡ false
unfolding magnitude le of_bits
inf_refused s = refl

by_pattern : (w : ℕ) → 0x7f80_0000 ≤ w % 2 ^ 31 → Dec (0x7f80_0000 < w % 2 ^ 31) → fine (of_bits binary32 w) ≡ false
by_pattern w h (yes above) = rw (above_inf binary32 w above) nan_refused
by_pattern w h (no not_above) = rw (read_inf binary32 w (omega arith) (omega arith)) (inf_refused _)

pub not_finite_refused : NotFiniteRefused
not_finite_refused w h = by_pattern w h (dec_lt 0x7f80_0000 (w % 2 ^ 31))
