-- The floor of a float as an integer: from zero up it is the float without its fraction, below zero it is not above 0. Assumes nothing.
use mathlib.Core.Path.{◌≡◌, refl, sym}
use mathlib.Core.Bool.{Bool, true, false, cond, true≢false}
use Prim.Native.Nat.{ℕ, ◌-◌, ◌*◌, ◌/◌, ◌^◌, ◌<◌, min}
use native.Mathlib.Nat.{div-eq_of_lt}
use native.Mathlib.Omega.{arith}
use borrow.Author.Tests.{ltb-true}
use lib.Dec.{T, lit<}
use lib.IntN.{ℤ, pos, neg_ℤ}
use lib.Ieee.{Float, nan, inf, fin, Format, up, down, fits, lt, to_signed, to_unsigned}
use lib.Ieee.Exact.{HasValue}
use Rattle.ieee.specs.Integral.{away, cut, floor, to_whole}
use Rattle.ieee.proofs.Nearest.Whole.{integral_exact}
use Rattle.ieee.proofs.Order.Ranges.{same_size}

-- a size q in the range of h bits and a sign
abbrev ended : ℕ → Bool → ℕ → ℤ
ended h s q = cond s (neg_ℤ (pos (min q (2 ^ h)))) (pos (min q (2 ^ h - 1)))

to_signed_at : (h : ℕ) (x : Float) (s : Bool) (n : ℕ) → HasValue x s n 1 → to_signed h x ≡ ended h s n
unfolding to_signed
to_signed_at h nan s n v = absurd v
to_signed_at h (inf t) s n v = absurd v
to_signed_at h (fin t m e) s n v = let one : n / 1 ≡ n = omega arith in rw (v.0, same_size m e s t n 1 (lit< tt) v, one)

module _ (f : Format) (h m : ℕ) (e : ℤ) where
  pub floor_up : T (fits f (fin false m e)) → to_signed h (floor f (fin false m e)) ≡ pos (min (m * up e / down e) (2 ^ h - 1))
  floor_up t = to_signed_at h (floor f (fin false m e)) false (m * up e / down e) (integral_exact f cut away false m e t)

  pub floor_down : T (fits f (fin true m e)) → (k : ℕ) × (to_signed h (floor f (fin true m e)) ≡ neg_ℤ (pos k))
  floor_down t =
      let n = to_whole away (m * up e) (down e) in
      (min n (2 ^ h), to_signed_at h (floor f (fin true m e)) true n (integral_exact f cut away true m e t))

-- ---- without its fraction what is below 1 is 0
pub unsigned_below_one : (w : ℕ) (x : Float) → lt x (fin false 1 (pos 0)) ≡ true → to_unsigned w x ≡ 0
unfolding lt to_unsigned
unsigned_below_one w nan h = refl
unsigned_below_one w (inf true) h = refl
unsigned_below_one w (inf false) h = absurd (true≢false (sym h))
unsigned_below_one w (fin true m e) h = refl
unsigned_below_one w (fin false m e) h =
    let l : m * up e < down e = omega (arith, ltb-true (m * up e * 1) (1 * 1 * down e) h) in rw (div-eq_of_lt l) (none (2 ^ w - 1))
  where
    none : (n : ℕ) → min 0 n ≡ 0
    none n = omega arith
