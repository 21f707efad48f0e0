-- Two whole numbers up to 2 ^ 24 share a weld cell just where they are one number: 1/ε is 2 at least, so two integers lie between their
-- multiples by it, and rounding keeps each
-- multiple on its side of an integer. Assumes nothing.
use mathlib.Core.Path.{◌≡◌, sym, ap}
use mathlib.Core.Bool.{Bool, true, false, not, decide}
use Prim.Native.Nat.{ℕ, zero, suc, ◌+◌, ◌*◌, ◌/◌, ◌^◌, ◌≤◌, ◌<◌, zero-le}
use native.Mathlib.Decide.{dec_lt}
use native.Mathlib.Nat.{div-mul-le_self, le_of_mul-le-mul_right, mul-le-mul, mul-le-mul_right, mul-one}
use native.Mathlib.Omega.{arith}
use lib.Dec.{T, lit<, lit≤, lt→ltb}
use lib.IntN.{ℤ, pos, negsuc, nat_abs, ℤ_discrete}
use lib.Signed.{◌<ℤ◌, ◌≤ℤ◌, <ℤ-≤ℤ_trans, clash_ℤ, le_z_yes, lt_z_yes, non_neg}
use lib.Ieee.{Float, binary64, round, to_signed}
use lib.Ieee.Back.{round_whole}
use lib.Ieee.Bits.{is_true}
use lib.Ieee.Fits.{round-fits}
use lib.Ieee.Positive.{den, den_pos, num, own_value}
use Rattle.ieee.specs.Integral.{half, half_away}
use Rattle.ieee.specs.WholeNumber.{IsWhole}
use Rattle.ieee.specs.inner.Wholes.{signed}
use Rattle.ieee.proofs.Integers.Floats.{to_signed_value}
use Rattle.ieee.proofs.Integers.Sums.{mul_whole}
use Rattle.ieee.proofs.Numbers.Basic.{lt_next}
use Rattle.ieee.proofs.Order.Casts.{to_signed_mono}
use Rattle.ieee.proofs.Order.Monotone.{integral_mono, rises}
use Rattle.ieee.proofs.Order.Ranks.{same_test}
use Rattle.ieee.proofs.Order.Signed.{AtMost}
use Rattle.ieee.proofs.Values.Unchanged.{integral_own}
use Rattle.cells.specs.Cells.{cell_of}
use Rattle.ieee.specs.SameInteger.{same_integer}
use Rattle.cells.proofs.Codes.{integer_eq, integer_refl}
use Rattle.weld.specs.Weld.{epsilon_of, inverse}
use Rattle.refusals.specs.Refusals.{unit_fits}
use Rattle.qto.specs.Full.{distance}
use Rattle.place.specs.Moved.{unit_enough}
use Rattle.place.proofs.Epsilon.{Wide, wide}

-- ---- the cell of ±a / c
abbrev cell : Bool → ℕ → ℕ → ℤ
cell s a c = to_signed 63 (half_away binary64 (round binary64 s a c))

cell_rises : (s : Bool) (a c : ℕ) (t : Bool) (b d : ℕ) → 0 < c → 0 < d → AtMost s (a * d) t (b * c) → cell s a c ≤ℤ cell t b d
cell_rises s a c t b d C D h =
    let x = round binary64 s a c in
    let y = round binary64 t b d in
    le_z_yes (to_signed_mono 63 (half_away binary64 x) (half_away binary64 y)
    (integral_mono binary64 half half x y (rises binary64 s a c t b d C D h)))

cell_whole : (s : Bool) (k : ℕ) → k ≤ 2 ^ 53 → cell s k 1 ≡ signed s k
cell_whole s k l =
    let x = round binary64 s k 1 in
    let v = round_whole binary64 s k l in
    rw (integral_own binary64 half half x s k (round-fits binary64 s k 1) v) (to_signed_value 63 x s k (omega arith) v)

-- ±a / c ≤ ±k < ±l ≤ ±b / c
cells_apart : (s : Bool) (a : ℕ) (u : Bool) (k : ℕ) (v : Bool) (l : ℕ) (t : Bool) (b c : ℕ) → 0 < c → k ≤ 2 ^ 53 → l ≤ 2 ^ 53
    → AtMost s a u (k * c) → signed u k <ℤ signed v l → AtMost v (l * c) t b → cell s a c ≡ cell t b c → ⊥
cells_apart s a u k v l t b c C K L under less over e =
    let low : cell s a c ≤ℤ signed u k = rw (← cell_whole u k K) (cell_rises s a c u k 1 C (lit< tt) (rw (mul-one a) under)) in
    let high : signed v l ≤ℤ cell t b c = rw (← cell_whole v l L) (cell_rises v l 1 t b c (lit< tt) C (rw (mul-one b) over)) in
    clash_ℤ (<ℤ-≤ℤ_trans less high) (rw e at low)

-- ---- neighbouring integers
next : (k : ℕ) → pos k <ℤ pos (suc k)
next k = lt_z_yes (lt→ltb k (suc k) (omega arith))

next_minus : (k : ℕ) → negsuc k <ℤ signed true k
next_minus zero = lt_z_yes tt
next_minus (suc k) = lt_z_yes (lt→ltb k (suc k) (omega arith))

-- k and k + 1 lie between n * p / q and m * p / q
record Gap (p q n m : ℕ) : Type 0 where
  pub k : ℕ
  pub under : n * p ≤ k * q
  pub over : suc k * q ≤ m * p
  pub small : suc k ≤ 2 ^ 53

module _ (i : Float) (w : Wide i) where
  gap : (n m : ℕ) → n < m → m ≤ 2 ^ 24 → Gap (num i) (den i) n m
  gap n m h l =
      let k = n * num i / den i + 1 in
      let over : suc k * den i ≤ m * num i = omega (arith, div-mul-le_self (n * num i) (den i), mul-le-mul_right (num i) h) in
      record {
        k = k;
        under = omega (arith, lt_next (n * num i) (den i) (den_pos i));
        over = over;
        small = le_of_mul-le-mul_right (omega (arith, mul-le-mul l w.high)) (den_pos i);
      }

  -- ---- the cell of ±n, with i for 1/ε, and of a
  abbrev cell_by : Bool → ℕ → ℤ
  cell_by s n = cell s (n * num i) (den i)

  abbrev cell_for : ℤ → ℤ
  cell_for a = cell_by (not (non_neg a)) (nat_abs a)

  sizes_apart : (s : Bool) (n m : ℕ) → n < m → m ≤ 2 ^ 24 → cell_by s n ≡ cell_by s m → ⊥
  unfolding AtMost
  sizes_apart false n m h l e =
      let g = gap n m h l in
      cells_apart false (n * num i) false g.k false (suc g.k) false (m * num i) (den i) (den_pos i) (omega arith) g.small
      g.under (next g.k) g.over e
  sizes_apart true n m h l e =
      let g = gap n m h l in
      cells_apart true (m * num i) true (suc g.k) true g.k true (n * num i) (den i) (den_pos i) g.small (omega arith)
      g.over (next_minus g.k) g.under (sym e)

  signs_apart : (n m : ℕ) → cell_by true (suc n) ≡ cell_by false m → ⊥
  unfolding AtMost
  signs_apart n m e =
      cells_apart true (suc n * num i) true 1 false 0 false (m * num i) (den i) (den_pos i) (lit≤ tt) zero-le (omega arith)
      (next_minus 0) (omega arith) e

  same_size : (s : Bool) (n m : ℕ) → n ≤ 2 ^ 24 → m ≤ 2 ^ 24 → cell_by s n ≡ cell_by s m → n ≡ m
  same_size s n m N M e =
      elim (dec_lt n m) [
        | yes h ↦ absurd (sizes_apart s n m h M e)
        | no h ↦ elim (dec_lt m n) [ yes g ↦ absurd (sizes_apart s m n g N (sym e)) | no g ↦ omega arith ]
      ]

  same_number : (a b : ℤ) → nat_abs a ≤ 2 ^ 24 → nat_abs b ≤ 2 ^ 24 → cell_for a ≡ cell_for b → a ≡ b
  same_number (pos n) (pos m) l r e = ap pos (same_size false n m l r e)
  same_number (pos n) (negsuc m) l r e = absurd (signs_apart m n (sym e))
  same_number (negsuc n) (pos m) l r e = absurd (signs_apart n m e)
  same_number (negsuc n) (negsuc m) l r e = ap negsuc (omega (arith, same_size true (suc n) (suc m) l r e))

  cell_is : (x : Float) (a : ℤ) → IsWhole x a → cell_of i x ≡ cell_for a
  unfolding cell_of
  cell_is x (pos n) h = rw (mul_whole binary64 x i (pos n) false (num i) (den i) (den_pos i) h (own_value i w.is_positive))
  cell_is x (negsuc n) h = rw (mul_whole binary64 x i (negsuc n) false (num i) (den i) (den_pos i) h (own_value i w.is_positive))

  shared : (a b : ℤ) → nat_abs a ≤ 2 ^ 24 → nat_abs b ≤ 2 ^ 24 → (d : Dec (a ≡ b)) → same_integer (cell_for a) (cell_for b) ≡ decide d
  unfolding decide
  shared a b l r (yes e) = rw e (integer_refl (cell_for b))
  shared a b l r (no h) =
      let c = same_integer (cell_for a) (cell_for b) in
      same_test c false (λ t. h (same_number a b l r (integer_eq (cell_for a) (cell_for b) (is_true c t)))) (λ t. absurd t)

-- ---- coordinates x and y that are a and b
pub same_cell_lem : (u x y : Float) (a b : ℤ) → T (unit_enough u) → T (unit_fits u) → IsWhole x a → IsWhole y b → nat_abs a ≤ 2 ^ 24
    → nat_abs b ≤ 2 ^ 24
    → same_integer (cell_of (inverse (epsilon_of distance u)) x) (cell_of (inverse (epsilon_of distance u)) y) ≡ decide (ℤ_discrete a b)
same_cell_lem u x y a b lo fits h k l r =
    let i = inverse (epsilon_of distance u) in
    let w = wide u lo fits in
    rw (cell_is i w x a h, cell_is i w y b k) (shared i w a b l r (ℤ_discrete a b))
