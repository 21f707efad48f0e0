-- Rounding does not pass a fraction that the format has: so a sum, a square and a root stay at least what they were at least. And the
-- greatest power of two within a fraction. Assumes nothing.
use Rattle.std.proofs.Common.{◌≡◌, ℕ, zero, suc, ◌+◌, ◌-◌, ◌*◌, ◌/◌, ◌^◌, ◌<◌, ◌≤◌, true, false, T, ◌⊎◌, refl, ap, subst, ⊎_elim, mul-le-mul_right, div-lt_iff_lt-mul, mul-le-mul, mul-pos, le-div_iff_mul-le, le_of_mul-le-mul_right, arith, lt→ltb, pow_pos, pow-add}
use native.Mathlib.Decide.{dec_lt}
use native.Mathlib.Nat.{pow-succ'}
use lib.Pow.{pow-lt}
use lib.Ieee.{Float, nan, inf, fin, Format, emax, low, up, down, size as digits, fits, round, sum, add, mul}
use lib.Ieee.Exact.{HasValue, round_exact}
use lib.Ieee.Digits.{size-lt, size_reaches}
use lib.Ieee.Fits.{down_pos, round-fits, two}
use lib.Ieee.Order.{round_mono}
use lib.Ieee.Positive.{num, den, positive, den_pos, above}
use lib.Ieee.Positive.{first_pos, positive-finite, positive_of_value, value→cross}
use lib.Ieee.Scale.{finite}
use Rattle.ieee.specs.Root.{root}
use Rattle.ieee.proofs.Numbers.Basic.{pow_le_back}
use Rattle.ieee.proofs.Nearest.Root.{root_nearest}
use Rattle.ieee.proofs.Order.Signed.{AtMost, at_most_of_le}
use Rattle.sums.specs.inner.Plus.{plus}
use Rattle.sums.proofs.Plus.{plus_round}

-- ---- a fraction that the format has

-- a / b is a value
abbrev pub Has : Format → ℕ → ℕ → Type 0
Has f a b = HasValue (round f false a b) false a b

-- a power of two over another
in_units : (k h l n : ℕ) → h + l ≡ n → 2 ^ k * 2 ^ n ≡ 1 * 2 ^ (k + l) * 2 ^ h
in_units k h l n e = rw (← e, pow-add 2 h l, pow-add 2 k l) (omega arith)

pub has_powers : (f : Format) (k h : ℕ) → k ≤ emax f → h ≤ low f → Has f (2 ^ k) (2 ^ h)
has_powers f k h K H =
    let l = low f - h in
    round_exact f false (2 ^ k) (2 ^ h) 1 (k + l) (pow_pos h) (pow-lt {i = 0} (omega (arith, two f)))
    (let one : 1 * 2 ^ (k + l) ≡ 2 ^ (k + l) = omega arith in rw one (pow-lt (omega arith)))
    (in_units k h l (low f) (omega arith))

-- a float from zero up is its own fraction
own : (x : Float) → T (plus x) → T (finite x) → HasValue x false (num x) (den x)
own nan p g = absurd p
own (inf s) p g = absurd g
own (fin true m e) p g = absurd p
own (fin false m e) p g = (refl, refl)

-- rounding does not pass it from above, nor from below
module _ (f : Format) (a b c d : ℕ) (B : 0 < b) (D : 0 < d) (has : Has f a b) (g : T (finite (round f false c d))) where
  abbrev y : Float
  y = round f false c d

  pub not_under : a * d ≤ c * b → a * den y ≤ num y * b
  unfolding AtMost
  not_under h =
      at_most_of_le false false a b (num y) (den y) B (den_pos y) (round f false a b) y has (own y (plus_round f c d) g)
      (round_mono f a b c d B D h)

  pub not_over : c * b ≤ a * d → num y * b ≤ a * den y
  unfolding AtMost
  not_over h =
      at_most_of_le false false (num y) (den y) a b (den_pos y) B y (round f false a b) (own y (plus_round f c d) g) has
      (round_mono f c d a b D B h)

-- ---- a root

-- with p = v / w at most the root of x / c, which r / d is nearest to: r / d is at least v / w
not_short : (r d v w x c : ℕ) → v * v * c ≤ x * (w * w) → r * w < v * d
    → 4 * x * (d * w * (d * w)) < (r * w + v * d) * (r * w + v * d) * c → ⊥
not_short r d v w x c h l g =
    let m : r * w + v * d ≤ 2 * (v * d) = omega arith in
    let s = mul-le-mul_right c (mul-le-mul m m) in
    let t = mul-le-mul_right (4 * (d * d)) h in
    omega arith

module _ (f : Format) (a b : ℕ) (A : 0 < a) (B : 0 < b) (has : Has f a b) where
  abbrev v : Float
  v = round f false a b

  v_finite : T (finite v)
  v_finite = positive-finite v (positive_of_value v a b has A)

  pub root_least : (x : Float) → T (fits f x) → T (positive x) → a * a * den x ≤ num x * (b * b) → a * den (root f x) ≤ num (root f x) * b
  root_least x t p h =
      let r = root f x in
      let cross : num v * b ≡ a * den v = value→cross v a b has in
      let near = root_nearest f x t p v (round-fits f false a b) v_finite in
      elim (dec_lt (num r * den v) (num v * den r)) [
        | yes l ↦ (let least = scaled (num v) (den v) (num x) (den x) cross h in
            absurd (not_short (num r) (den r) (num v) (den v) (num x) (den x) least l (near.above l)))
        | no l ↦ back (num r) (den r) (num v) (den v) (den_pos v) cross (omega arith)
      ]
    where
      -- a / b is v / w, so the squares compare alike
      scaled : (n w x c : ℕ) → n * b ≡ a * w → a * a * c ≤ x * (b * b) → n * n * c ≤ x * (w * w)
      scaled n w x c e h =
          let l = mul-le-mul_right (w * w) h in
          let same : n * n * c * (b * b) ≡ a * a * c * (w * w) =
          (let q : n * b * (n * b) * c ≡ a * w * (a * w) * c = rw e in omega arith) in
          let g : n * n * c * (b * b) ≤ x * (w * w) * (b * b) = omega arith in
          le_of_mul-le-mul_right g (mul-pos B B)

      back : (r d n w : ℕ) → 0 < w → n * b ≡ a * w → n * d ≤ r * w → a * d ≤ r * b
      back r d n w W e h =
          let l = mul-le-mul_right b h in
          let same : n * d * b ≡ a * d * w = (let q : n * b * d ≡ a * w * d = rw e in omega arith) in
          let g : a * d * w ≤ r * b * w = omega arith in
          le_of_mul-le-mul_right g W

-- ---- a sum, and a square
module _ (f : Format) (a b : ℕ) (B : 0 < b) (has : Has f a b) where
  -- x and y are from zero up, and one of them is at least a / b
  pub more_sum : (x y : Float) → T (plus x) → T (plus y) → T (finite x) → T (finite y) → T (finite (add f x y))
      → a * den x ≤ num x * b ⊎ a * den y ≤ num y * b → a * den (add f x y) ≤ num (add f x y) * b
  unfolding add sum
  more_sum nan y p q g k z h = absurd g
  more_sum (inf s) y p q g k z h = absurd g
  more_sum (fin true m e) y p q g k z h = absurd p
  more_sum (fin false m e) nan p q g k z h = absurd k
  more_sum (fin false m e) (inf t) p q g k z h = absurd k
  more_sum (fin false m e) (fin true n d) p q g k z h = absurd q
  more_sum (fin false m e) (fin false n d) p q g k z h =
      not_under f a b (m * up e * down d + n * up d * down e) (down e * down d) B (mul-pos (down_pos e) (down_pos d)) has z
      (⊎_elim (λ l. let c = mul-le-mul_right (down d) l in omega arith) (λ l. let c = mul-le-mul_right (down e) l in omega arith) h)

module _ (f : Format) (a b : ℕ) (B : 0 < b) (has : Has f (a * a) (b * b)) where
  squared : (m c : ℕ) → 0 < c → T (finite (round f false (m * m) (c * c))) → a * c ≤ m * b
      → a * a * den (round f false (m * m) (c * c)) ≤ num (round f false (m * m) (c * c)) * (b * b)
  squared m c C z h =
      not_under f (a * a) (b * b) (m * m) (c * c) (mul-pos B B) (mul-pos C C) has z (let k = mul-le-mul h h in omega arith)

  pub more_square : (x : Float) → T (finite x) → T (finite (mul f x x)) → a * den x ≤ num x * b
      → a * a * den (mul f x x) ≤ num (mul f x x) * (b * b)
  unfolding mul
  more_square nan g z h = absurd g
  more_square (inf s) g z h = absurd g
  more_square (fin true m e) g z h = squared (m * up e) (down e) (down_pos e) z h
  more_square (fin false m e) g z h = squared (m * up e) (down e) (down_pos e) z h

-- ---- above zero, and powers of two

pub finite_above : (x : Float) → T (above x) → T (finite x) → T (positive x)
finite_above nan a g = absurd g
finite_above (inf s) a g = absurd g
finite_above (fin true m e) a g = absurd a
finite_above (fin false m e) a g = a

pub positive_num : (x : Float) → T (plus x) → T (finite x) → 0 < num x → T (positive x)
positive_num nan p g h = absurd g
positive_num (inf s) p g h = absurd g
positive_num (fin true m e) p g h = absurd p
positive_num (fin false m e) p g h = lt→ltb 0 m (first_pos m (up e) h)

-- a fraction that is at least one above zero is above zero
pub num_some : (a b m c : ℕ) → 0 < a → 0 < c → a * c ≤ m * b → 0 < m
num_some a b zero c A C h = let some = mul-pos A C in absurd (omega arith)
num_some a b (suc m) c A C h = omega arith

pub power_below : (k j i m c : ℕ) → 0 < c → 2 ^ k * c ≤ m * 2 ^ i → m ≤ 2 ^ j * c → k ≤ j + i
power_below k j i m c C h g =
    let z = mul-le-mul_right (2 ^ i) g in
    let l : 2 ^ k * c ≤ 2 ^ (j + i) * c = rw (pow-add 2 j i) (omega arith) in
    pow_le_back k (j + i) (le_of_mul-le-mul_right l C)

-- the greatest power of two within a / c, for a c that is not above a
pub record Power (a c : ℕ) : Type 0 where
  pub at : ℕ
  pub reached : 2 ^ at * c ≤ a
  pub passed : a ≤ 2 * 2 ^ at * c

pub power : (a c : ℕ) → 0 < c → c ≤ a → Power a c
power a c C h = go (digits (a / c)) refl
  where
    some : 1 ≤ a / c
    some = (le-div_iff_mul-le C).1 (omega arith)

    go : (d : ℕ) → digits (a / c) ≡ d → Power a c
    go zero e = let l : a / c < 2 ^ 0 = subst (λ (z : ℕ). a / c < 2 ^ z) e (size-lt (a / c)) in absurd (omega (arith, some))
    go (suc k) e =
        let under : a / c < 2 ^ suc k = subst (λ (z : ℕ). a / c < 2 ^ z) e (size-lt (a / c)) in
        let under_a : a < 2 ^ suc k * c = (div-lt_iff_lt-mul C).0 under in
        let twice : 2 ^ suc k ≡ 2 * 2 ^ k = pow-succ' 2 k in
        record {
          at = k;
          reached = (le-div_iff_mul-le C).0 (size_reaches (a / c) k (omega (arith, e)));
          passed = omega (arith, under_a, ap (λ (z : ℕ). z * c) twice);
        }
