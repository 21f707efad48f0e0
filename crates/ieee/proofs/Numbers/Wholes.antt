-- A fraction as a whole number, by each way: it goes by the fraction's value alone, and leaves what is whole. Assumes nothing.
use mathlib.Core.Path.{◌≡◌, refl, sym, ◌∙◌, subst}
use Prim.Native.Nat.{ℕ, zero, suc, ◌+◌, ◌-◌, ◌*◌, ◌/◌, ◌<◌, ◌≤◌, min}
use native.Mathlib.Nat.{div-eq_of_lt, div-eq_of_lt-le, div-lt_iff_lt-mul, div-mul-le_self, le-div_iff_mul-le, mul_comm, mul-div-mul_right}
use native.Mathlib.Nat.{mul-le-mul_left, mul-le-mul_right, zero-mul}
use native.Mathlib.Omega.{arith}
use Rattle.ieee.specs.Integral.{Way, cut, away, half, to_whole}
use Rattle.ieee.specs.Whole.{HalfAway}
use Rattle.ieee.proofs.Numbers.Basic.{lt_next}

-- ---- the value alone counts
-- q is the quotient of a + p by p + 1
away_lo : (a p c q : ℕ) → 0 < c → q * suc p ≤ a + p → q * (suc p * c) ≤ a * c + (suc p * c - 1)
away_lo a p c q C h = omega (arith, mul-le-mul_right c h)

away_hi : (a p c q : ℕ) → 0 < c → a + p < (q + 1) * suc p → a * c + (suc p * c - 1) < (q + 1) * (suc p * c)
away_hi a p c q C h = omega (arith, mul-le-mul_right c h)

pub scaled : (w : Way) (a b c : ℕ) → 0 < b → 0 < c → to_whole w (a * c) (b * c) ≡ to_whole w a b
scaled cut a b c B C = mul-div-mul_right a b C
scaled away a zero c B C = absurd (omega arith)
scaled away a (suc p) c B C =
    let n = a + (suc p - 1) in
    let lo : n / suc p * suc p ≤ a + p = omega (arith, div-mul-le_self n (suc p)) in
    let hi : a + p < (n / suc p + 1) * suc p = omega (arith, lt_next n (suc p) B) in
    div-eq_of_lt-le (suc p * c) (away_lo a p c (n / suc p) C lo) (away_hi a p c (n / suc p) C hi)
scaled half a b c B C =
    let e : 2 * (a * c) + b * c ≡ (2 * a + b) * c = omega arith in
    let d : 2 * (b * c) ≡ 2 * b * c = omega arith in
    rw (e, d) (mul-div-mul_right (2 * a + b) (2 * b) C)

pub whole_same : (w : Way) (a b c d : ℕ) → 0 < b → 0 < d → a * d ≡ c * b → to_whole w a b ≡ to_whole w c d
whole_same w a b c d B D e = sym (scaled w a b d B D) ∙ rw (e, mul_comm b d) (scaled w c d b D B)

-- ---- bounds
div_le : (a b c : ℕ) → 0 < b → a < (c + 1) * b → a / b ≤ c
div_le a b c B h = let l : a / b < c + 1 = (div-lt_iff_lt-mul B).1 h in omega arith

pub whole_le : (w : Way) (a b : ℕ) → 0 < b → to_whole w a b ≤ a / b + 1
whole_le cut a b B = omega arith
whole_le away a b B = div_le (a + (b - 1)) b (a / b + 1) B (omega (arith, lt_next a b B))
whole_le half a b B = div_le (2 * a + b) (2 * b) (a / b + 1) (omega arith) (omega (arith, lt_next a b B))

-- below a half there is nothing
pub half_none : (a b : ℕ) → 2 * a < b → to_whole half a b ≡ 0
half_none a b h = div-eq_of_lt (omega arith)

-- far below a half it only counts whether there is anything
some : Way → ℕ → ℕ
some cut a = 0
some away a = min a 1
some half a = 0

tiny : (w : Way) (a b : ℕ) → 2 * a < b → to_whole w a b ≡ some w a
unfolding some
tiny cut a b h = div-eq_of_lt (omega arith)
tiny away zero b h = div-eq_of_lt (omega arith)
tiny away (suc a) b h = let one : 1 ≡ min (suc a) 1 = omega arith in div-eq_of_lt-le {k = 1} b (omega arith) (omega arith) ∙ one
tiny half a b h = half_none a b h

pub whole_tiny : (w : Way) (a b c d : ℕ) → 2 * a < b → 2 * c < d → min a 1 ≡ min c 1 → to_whole w a b ≡ to_whole w c d
unfolding some
whole_tiny w a b c d h k e = tiny w a b h ∙ same w ∙ sym (tiny w c d k)
  where
    same : (w : Way) → some w a ≡ some w c
    same cut = refl
    same away = e
    same half = refl

-- ---- a whole number has no fraction
pub whole_one : (w : Way) (a : ℕ) → to_whole w a 1 ≡ a
whole_one cut a = omega arith
whole_one away a = omega arith
whole_one half a = omega arith

-- ---- what each way is worth
-- the fraction dropped: the greatest that is not above
pub cut_iff : (a b p : ℕ) → 0 < b → ((p * b ≤ a) → p ≤ to_whole cut a b) × (p ≤ to_whole cut a b → p * b ≤ a)
cut_iff a b p B = ((le-div_iff_mul-le B).1, (le-div_iff_mul-le B).0)

-- counted as one more: the least that is not below
pub away_iff : (a b p : ℕ) → 0 < b → ((a ≤ p * b) → to_whole away a b ≤ p) × (to_whole away a b ≤ p → a ≤ p * b)
away_iff a b p B = (
  λ h. div_le (a + (b - 1)) b p B (omega arith),
  λ h. omega (arith, lt_next (a + (b - 1)) b B, mul-le-mul_right b h),
)

-- where that is 0 there was nothing
pub none_iff : (a b p : ℕ) → 0 < b → ((p * b ≡ 0) × (a ≡ 0) → (p ≡ 0) × (to_whole away a b ≡ 0))
    × ((p ≡ 0) × (to_whole away a b ≡ 0) → (p * b ≡ 0) × (a ≡ 0))
none_iff a b p B = (
  λ h. (omega (arith, h.0, mul-le-mul_left p B), omega (arith, (away_iff a b 0 B).0 (omega (arith, h.1)))),
  λ h. (rw h.0 (zero-mul b), omega (arith, (away_iff a b 0 B).1 (omega (arith, h.1)))),
)

pub half_away_lem : (a b : ℕ) → 0 < b → HalfAway a b (to_whole half a b)
half_away_lem a b B =
    let D : 0 < 2 * b = omega arith in
    record {
      at_most = omega (arith, lt_next (2 * a + b) (2 * b) D);
      at_least = λ p e.
          let l : (p + 1) * (2 * b) ≤ 2 * a + b = subst (λ (z : ℕ). z * (2 * b) ≤ 2 * a + b) e (div-mul-le_self (2 * a + b) (2 * b)) in
          omega arith;
    }
