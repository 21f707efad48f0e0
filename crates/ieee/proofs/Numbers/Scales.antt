-- Two numbers compare as their multiples do, and as a quotient does: so a common factor goes away, and powers of two go to one side.
-- Assumes nothing.
use mathlib.Core.Path.{◌≡◌, sym, ap, ◌∙◌}
use Prim.Native.Nat.{ℕ, ◌+◌, ◌-◌, ◌*◌, ◌/◌, ◌%◌, ◌^◌, ◌≤◌, ◌<◌}
use native.Mathlib.Decide.{dec_lt, ℕ_discrete}
use native.Mathlib.Nat.{add-zero, div-add-mod', eq_of_mul-eq-mul_right, mod-lt, mul_assoc, mul_comm, mul-le-mul_right, mul-sub}
use native.Mathlib.Nat.{sub-add_cancel}
use native.Mathlib.Omega.{arith}
use borrow.Author.Tests.{eq-eqb, le-ltb, lt-ltb, ne_eqb}
use lib.Dec.{eqb, ltb}
use lib.Pow.{pow-add, pow_pos}

-- less than one multiple more does not count
pub lt_multiple : (q rest d n : ℕ) → rest < d → ltb q n ≡ ltb (q * d + rest) (n * d)
lt_multiple q rest d n r =
    elim (dec_lt q n) [
      | yes h ↦ lt-ltb q n h ∙ sym (lt-ltb (q * d + rest) (n * d) (omega (arith, mul-le-mul_right d h)))
      | no h ↦ let k : n ≤ q = omega arith in le-ltb q n k ∙ sym (le-ltb (q * d + rest) (n * d) (omega (arith, mul-le-mul_right d k)))
    ]

pub ltb_scaled : (m n d : ℕ) → 0 < d → ltb (m * d) (n * d) ≡ ltb m n
ltb_scaled m n d h = sym (lt_multiple m 0 d n h ∙ rw (add-zero (m * d)))

pub eqb_scaled : (m n d : ℕ) → 0 < d → eqb (m * d) (n * d) ≡ eqb m n
eqb_scaled m n d h =
    elim (ℕ_discrete m n) [
      | yes e ↦ eq-eqb (m * d) (n * d) (rw e) ∙ sym (eq-eqb m n e)
      | no g ↦ ne_eqb (m * d) (n * d) (λ e. g (eq_of_mul-eq-mul_right d h m n e)) ∙ sym (ne_eqb m n g)
    ]

pub sub_scaled : (m n d : ℕ) → m * d - n * d ≡ (m - n) * d
sub_scaled m n d = rw (mul_comm m d, mul_comm n d, mul_comm (m - n) d) (sym (mul-sub d m n))

lt_quotient : (m n d : ℕ) → 0 < d → ltb (m / d) n ≡ ltb m (n * d)
lt_quotient m n d h = lt_multiple (m / d) (m % d) d n (mod-lt m h) ∙ rw (div-add-mod' m d)

-- ---- m * 2 ^ k < n * 2 ^ l
power_apart : (n k l : ℕ) → k ≤ l → n * 2 ^ (l - k) * 2 ^ k ≡ n * 2 ^ l
power_apart n k l h =
    mul_assoc n (2 ^ (l - k)) (2 ^ k) ∙ ap (λ (z : ℕ). n * z) (sym (pow-add 2 (l - k) k) ∙ ap (λ (z : ℕ). 2 ^ z) (sub-add_cancel h))

pub lt_power_left : (m n k l : ℕ) → l ≤ k → ltb (m * 2 ^ (k - l)) n ≡ ltb (m * 2 ^ k) (n * 2 ^ l)
lt_power_left m n k l h = sym (ltb_scaled (m * 2 ^ (k - l)) n (2 ^ l) (pow_pos l)) ∙ rw (power_apart m l k h)

pub lt_power_right : (m n k l : ℕ) → k ≤ l → ltb (m / 2 ^ (l - k)) n ≡ ltb (m * 2 ^ k) (n * 2 ^ l)
lt_power_right m n k l h =
    lt_quotient m n (2 ^ (l - k)) (pow_pos (l - k)) ∙ sym (ltb_scaled m (n * 2 ^ (l - k)) (2 ^ k) (pow_pos k)) ∙ rw (power_apart n k l h)
