-- Each defect has the number that names it, and every number from 4 names the last one.
use Rattle.std.specs.Prelude.{Some}
use mathlib.Core.Path.{◌≡◌, refl}
use Prim.Native.Nat.{ℕ, zero, suc, ◌≤◌}
use native.Mathlib.Omega.{arith}
use Rattle.record.specs.declared.ProfileDefect.{ProfileDefect}
use Rattle.record.specs.Numbers.{profile_at}

pub profile_from_four : (n : ℕ) → 4 ≤ n → Some ProfileDefect.Overlapping ≡ profile_at n
unfolding profile_at
profile_from_four zero h = absurd (omega arith)
profile_from_four (suc zero) h = absurd (omega arith)
profile_from_four (suc (suc zero)) h = absurd (omega arith)
profile_from_four (suc (suc (suc zero))) h = absurd (omega arith)
profile_from_four (suc (suc (suc (suc n)))) h = refl
