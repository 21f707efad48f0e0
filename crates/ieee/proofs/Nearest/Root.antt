-- The root of a positive value of a format is positive, and of the format's values the nearest. Assumes nothing.
use mathlib.Core.Path.{◌≡◌, sym, ap, ◌∙◌, subst}
use mathlib.Core.Logic.{inr}
use mathlib.Core.Bool.{false}
use Prim.Native.Nat.{ℕ, suc, ◌+◌, ◌-◌, ◌*◌, ◌/◌, ◌%◌, ◌^◌, ◌≤◌, ◌<◌, compare}
use native.Mathlib.Decide.{dec_lt}
use native.Mathlib.Nat.{div-div-eq-div-mul, div-lt_iff_lt-mul, eq_of_mul-eq-mul_right, le-div_iff_mul-le, le_of_eq, le_of_lt, le_trans}
use native.Mathlib.Nat.{lt_of_le_of_lt, lt_of_lt_of_le, mul_assoc, mul-div_cancel, mul-le-mul, mul-le-mul_left, mul-le-mul_right}
use native.Mathlib.Nat.{mul-lt-mul_of_pos_right, mul-pos, mul_right_comm, one-mul}
use native.Mathlib.Omega.{arith}
use lib.Arith.{lt_of_le-ne}
use lib.Dec.{T, lit≤}
use lib.Pow.{pow-add, pow-lt, pow_mono, pow_pos}
use lib.Ieee.{Float, Format, binary32, binary64, prec, emax, low, nearest, fits}
use lib.Ieee.Digits.{size_reaches}
use lib.Ieee.Exact.{HasValue, units_val}
use lib.Ieee.Fits.{two}
use lib.Ieee.Nearest.{nearest-ge}
use lib.Ieee.Positive.{num, den, den_pos, first_pos, own_value, positive, positive-finite, positive_of_value, value_pos}
use lib.Ieee.Scale.{finite, overflow}
use Rattle.ieee.specs.Nearest.{NearerRoot}
use Rattle.ieee.specs.Root.{floor_root, root, root_round}
use Rattle.ieee.proofs.Numbers.Basic.{pow_half, pow_lt_back, size_gt}
use Rattle.ieee.proofs.Nearest.Neighbours.{Sided, gap, in_fractions, sided, sum_over}
use Rattle.ieee.proofs.Values.Root.{dropped, keeps, keeps_le, root_above, root_round_is, square, squared}
use Rattle.ieee.proofs.Numbers.Squares.{closest_root_is, floor_root_is, past, square_lt}
use Rattle.ieee.proofs.Values.OneFloat.{InUnits, in_units, value_cross}

-- an exponent reaches as far as a significand has digits
wide : (f : Format) → prec f ≤ emax f
wide binary32 = lit≤ tt
wide binary64 = lit≤ tt

square_grows : (b : ℕ) → 0 < b → (x y : ℕ) → x < y → x * x * b < y * y * b
square_grows b B x y h =
    mul-lt-mul_of_pos_right (lt_of_le_of_lt (mul-le-mul_left x (le_of_lt h)) (mul-lt-mul_of_pos_right h (omega arith))) B

-- t is odd and above m: so no power of two takes the one to the other
no_tie : (m t i j : ℕ) → m < t → t % 2 ≡ 1 → m * 2 ^ i ≡ t * 2 ^ j → ⊥
no_tie m t i j h o e =
    elim (dec_lt j i) [
      | yes g ↦
          let x : i - j + j ≡ i = omega arith in
          let y = fewer m t (i - j) j (subst (λ (z : ℕ). m * 2 ^ z ≡ t * 2 ^ j) (sym x) e) in
          let z = ap (λ (w : ℕ). m * w) (pow_half (i - j) (omega arith)) in
          omega arith
      | no g ↦
          let x : j - i + i ≡ j = omega arith in
          let y = fewer t m (j - i) i (subst (λ (z : ℕ). t * 2 ^ z ≡ m * 2 ^ i) (sym x) (sym e)) in
          omega (arith, mul-le-mul_left t (pow_pos (j - i)))
    ]
  where
    fewer : (m t d j : ℕ) → m * 2 ^ (d + j) ≡ t * 2 ^ j → m * 2 ^ d ≡ t
    fewer m t d j e = eq_of_mul-eq-mul_right (2 ^ j) (pow_pos j) (m * 2 ^ d) t (mul_assoc m (2 ^ d) (2 ^ j) ∙ rw (← pow-add 2 d j) e)

-- ---- the root of a / b, where a / b is m * 2 ^ j units
module _ (f : Format) (a b : ℕ) (B : 0 < b) (A : 0 < a) (u : InUnits f a b) where
  abbrev l : ℕ
  l = 2 ^ low f

  abbrev n : ℕ
  n = squared f a

  abbrev k : ℕ
  k = dropped f a b

  abbrev c : ℕ
  c = 2 ^ k

  abbrev q : ℕ
  q = floor_root (n / (b * (c * c)))

  -- ---- how large it is
  n_is : n ≡ u.m * 2 ^ u.j * l * b
  n_is = sym (mul_assoc a l l) ∙ rw u.is (mul_right_comm (u.m * 2 ^ u.j) b l)

  whole_is : n / b ≡ u.m * 2 ^ u.j * l
  whole_is = rw n_is (mul-div_cancel (u.m * 2 ^ u.j * l) B)

  some : 0 < u.m * 2 ^ u.j
  some = first_pos (u.m * 2 ^ u.j) b (subst (λ (z : ℕ). 0 < z) u.is (mul-pos A (pow_pos (low f))))

  -- of its whole part all the digits that the format keeps are there: n / b is 4 ^ (prec - 1) at least
  first_digit : 2 ^ (prec f - 1) ≤ floor_root (n / b)
  first_digit =
      let places : prec f - 1 + (prec f - 1) ≤ low f = omega (arith, two f, wide f) in
      let least : 2 ^ (prec f - 1) * 2 ^ (prec f - 1) ≤ l =
      le_trans (le_of_eq (sym (pow-add 2 (prec f - 1) (prec f - 1)))) (pow_mono places) in
      let one : l ≤ n / b = rw whole_is (le_trans (le_of_eq (sym (one-mul l))) (mul-le-mul_right l some)) in
      omega (arith, square_lt (2 ^ (prec f - 1)) (floor_root (n / b) + 1) (lt_of_le_of_lt (le_trans least one) (floor_root_is (n / b)).1))

  digits : 2 ^ (prec f - 1) * 2 ^ (prec f - 1) * (c * c) ≤ n / b
  digits =
      let r = floor_root (n / b) in
      let all : 2 ^ (prec f - 1 + k) ≤ r = size_reaches r (prec f - 1 + k) (omega (arith, two f, size_gt r (prec f - 1) first_digit)) in
      rw (square (prec f - 1) k) (le_trans (mul-le-mul all all) (floor_root_is (n / b)).0)

  leading : 2 ^ (prec f - 1) ≤ q
  leading =
      let h = 2 ^ (prec f - 1) in
      let some : h * h ≤ n / (b * (c * c)) =
      subst (λ (z : ℕ). h * h ≤ z) (div-div-eq-div-mul n b (c * c)) ((le-div_iff_mul-le (mul-pos (pow_pos k) (pow_pos k))).1 digits) in
      omega (arith, square_lt h (q + 1) (lt_of_le_of_lt some (floor_root_is (n / (b * (c * c)))).1))

  room : keeps f a b * c < overflow f
  room =
      let p = prec f - 1 + k in
      let top : 2 ^ (p + p) < 2 ^ (low f + suc (emax f) + low f) =
      rw (pow-add 2 p p, pow-add 2 (low f + suc (emax f)) (low f), ← square (prec f - 1) k)
      (lt_of_le_of_lt (le_trans digits (le_of_eq whole_is)) (mul-lt-mul_of_pos_right u.room (pow_pos (low f)))) in
      let places : prec f + k < low f + suc (emax f) =
      omega (arith, two f, wide f, pow_lt_back (p + p) (low f + suc (emax f) + low f) top) in
      lt_of_le_of_lt (mul-le-mul_right c (keeps_le f a b B)) (subst (λ (z : ℕ). z < overflow f) (pow-add 2 (prec f) k) (pow-lt places))

  value : HasValue (root_round f a b) false (keeps f a b * c) l
  value = rw (root_round_is f a b) (units_val f false (keeps f a b) k room)

  -- ---- against the middle of its neighbours
  abbrev mid : ℕ
  mid = (2 * q + 1) * c * ((2 * q + 1) * c) * b

  keeps_is : keeps f a b ≡ nearest q (compare (4 * n) mid)
  keeps_is = let e : past q * (b * (c * c)) ≡ mid = omega arith in closest_root_is n (b * (c * c)) ∙ rw e

  kept_pos : 0 < keeps f a b
  kept_pos = rw keeps_is (lt_of_lt_of_le (pow_pos (prec f - 1)) (le_trans leading (nearest-ge q (compare (4 * n) mid))))

  not_mid : 4 * n ≡ mid → ⊥
  not_mid e =
      let v = u.m * 2 ^ u.j * l in
      let even : 4 * v ≡ past q * (c * c) = eq_of_mul-eq-mul_right b B (4 * v) (past q * (c * c)) (omega (arith, n_is)) in
      let places : u.m * 2 ^ (u.j + low f + 2) ≡ 4 * v = rw (pow-add 2 (u.j + low f) 2, pow-add 2 u.j (low f)) (omega arith) in
      let less : u.m < past q = omega (arith, u.few, leading, pow_half (prec f) (omega (arith, two f))) in
      no_tie u.m (past q) (u.j + low f + 2) (k + k) less (omega arith) (places ∙ even ∙ rw (pow-add 2 k k))

  near : (m j : ℕ) → m < 2 ^ prec f
      → Sided ((keeps f a b * c + m * 2 ^ j) * (keeps f a b * c + m * 2 ^ j) * b) (4 * n) (4 * n ≡ mid) (keeps f a b * c) (m * 2 ^ j)
  near m j h =
      let K : 0 < b * (c * c) = mul-pos B (mul-pos (pow_pos k) (pow_pos k)) in
      let is = floor_root_is (n / (b * (c * c))) in
      rw keeps_is
      (sided (λ s. s * s * b) (square_grows b B) (4 * n) c q (m * 2 ^ j) (gap (prec f) m j q k (omega (arith, two f)) h (inr leading))
      (omega (arith, (le-div_iff_mul-le K).0 is.0)) (omega (arith, (div-lt_iff_lt-mul K).0 is.1)))

-- ---- the root of x
squares : (s l r d b : ℕ) → s * l ≡ r * d → s * s * b * (l * l) ≡ r * r * b * (d * d)
squares s l r d b e = let z : s * l * (s * l) ≡ r * d * (r * d) = rw e in omega (arith, ap (λ (y : ℕ). y * b) z)

regroup : (a d l : ℕ) → 4 * a * d * l ≡ 4 * (a * l) * d
regroup a d l = omega arith

module _ (f : Format) (x : Float) (t : T (fits f x)) (p : T (positive x)) where
  abbrev a : ℕ
  a = num x

  abbrev b : ℕ
  b = den x

  A : 0 < a
  A = value_pos x a b p (den_pos x) (own_value x p)

  u : InUnits f a b
  u = in_units f x t (positive-finite x p)

  abbrev R : ℕ
  R = keeps f a b * 2 ^ dropped f a b

  root_value : HasValue (root f x) false R (2 ^ low f)
  root_value = rw (root_above f x a b (den_pos x) A (own_value x p)) (value f a b (den_pos x) A u)

  pub root_positive : T (positive (root f x))
  root_positive = positive_of_value (root f x) R (2 ^ low f) root_value (mul-pos (kept_pos f a b (den_pos x) A u) (pow_pos (dropped f a b)))

  pub root_nearest : (v : Float) → T (fits f v) → T (finite v) → NearerRoot x (root f x) v
  root_nearest v g h =
      let r = root f x in
      let l = 2 ^ low f in
      let L : 0 < l = pow_pos (low f) in
      let at_r : num r * l ≡ R * den r = value_cross r false R l root_value in
      let w = in_units f v g h in
      let W = w.m * 2 ^ w.j in
      let d = den r * den v in
      let D : 0 < d = mul-pos (den_pos r) (den_pos v) in
      let sum = num r * den v + num v * den r in
      let scaled = squares sum l (R + W) d b (sum_over r v l R W L at_r w.is) in
      let Tie = 4 * squared f a ≡ mid f a b (den_pos x) A u in
      let side =
      in_fractions r v l R W L at_r w.is (l * l) (d * d) (sum * sum * b) ((R + W) * (R + W) * b) (4 * a * (d * d)) (4 * squared f a) Tie
      (mul-pos L L) (mul-pos D D) scaled (regroup a (d * d) (l * l)) (near f a b (den_pos x) A u w.m w.j w.few) in
      let never = not_mid f a b (den_pos x) A u in
      record {
        below = λ c. lt_of_le-ne (side.below c) (λ e. never (side.tie (λ z. omega arith) (sym e)));
        above = λ c. lt_of_le-ne (side.above c) (λ e. never (side.tie (λ z. omega arith) e));
      }
