-- The whole part of a root, and the whole number nearest to one. Assumes nothing.
use mathlib.Core.Path.{◌≡◌, refl, sym, ◌∙◌, subst}
use mathlib.Core.Bool.{Bool, true, false, not, cond}
use Prim.Native.Nat.{ℕ, zero, suc, ◌+◌, ◌*◌, ◌/◌, ◌%◌, ◌^◌, ◌≤◌, ◌<◌, compare, Ordering, zero-le}
use native.Mathlib.Decide.{dec_lt}
use native.Mathlib.Nat.{div-lt_iff_lt-mul, div-one, le-div_iff_mul-le, le_of_eq, le_of_lt, le_trans, lt_of_le_of_lt, lt_of_lt_of_le}
use native.Mathlib.Nat.{lt_of_not-le, mul_assoc, mul-le-mul, mul-le-mul_left, mul-lt-mul_of_pos_right, mul-one, mul_right_comm}
use native.Mathlib.Nat.{not-le_of_lt, pow-succ'}
use native.Mathlib.Numerals.{add-one}
use native.Mathlib.Omega.{arith}
use lib.Dec.{T, compare_is_eq, is_le, eqb→eq, leb, leb→le, nleb→lt}
use lib.Pow.{pow_pos}
use lib.Ieee.{nearest, size}
use lib.Ieee.Digits.{size-lt}
use lib.Ieee.Fits.{nearest-le}
use lib.Ieee.Nearest.{div_same, nearest-ge}
use Rattle.ieee.specs.Root.{closest_root, digits, floor_root}
use Rattle.ieee.specs.Nearest.{NearestRoot}
use Rattle.ieee.proofs.Numbers.Basic.{cmp_eq, cmp_gt, cmp_lt}

-- ---- the whole part q of the root of n
abbrev pub IsRoot : ℕ → ℕ → Type 0
IsRoot n q = (q * q ≤ n) × (n < (q + 1) * (q + 1))

digits_root : (d n : ℕ) → n < 2 ^ d * 2 ^ d → IsRoot n (digits d n)
unfolding digits
digits_root zero n h = (zero-le, h)
digits_root (suc d) n h =
    let r = digits d (n / 4) in
    let quarter : n / 4 < 2 ^ d * 2 ^ d = omega (arith, subst (λ (x : ℕ). n < x * x) (pow-succ' 2 d) h) in
    go r (digits_root d (n / 4) quarter) (leb ((2 * r + 1) * (2 * r + 1)) n) (leb→le ((2 * r + 1) * (2 * r + 1)) n)
    (nleb→lt ((2 * r + 1) * (2 * r + 1)) n)
  where
    go : (r : ℕ) → IsRoot (n / 4) r → (b : Bool) → (T b → (2 * r + 1) * (2 * r + 1) ≤ n) → (T (not b) → n < (2 * r + 1) * (2 * r + 1))
        → IsRoot n (cond b (2 * r + 1) (2 * r))
    go r ih true y z = (y tt, omega arith)
    go r ih false y z = (omega arith, z tt)

pub square_lt : (a b : ℕ) → a * a < b * b → a < b
square_lt a b h = lt_of_not-le (λ (g : b ≤ a). not-le_of_lt h (mul-le-mul g g))

pub floor_root_is : (n : ℕ) → IsRoot n (floor_root n)
unfolding floor_root
floor_root_is n =
    digits_root (size n) n
    (lt_of_lt_of_le (size-lt n) (le_trans (le_of_eq (sym (mul-one (2 ^ size n)))) (mul-le-mul_left (2 ^ size n) (pow_pos (size n)))))

pub floor_root_at : (n q : ℕ) → IsRoot n q → q ≡ floor_root n
floor_root_at n q p =
    let r = floor_root_is n in
    let x = square_lt q (floor_root n + 1) (lt_of_le_of_lt p.0 r.1) in
    let y = square_lt (floor_root n) (q + 1) (lt_of_le_of_lt r.0 p.1) in
    omega arith

-- ---- the nearest whole number
abbrev pub past : ℕ → ℕ
past q = (2 * q + 1) * (2 * q + 1)

pub closest_root_is : (a b : ℕ) → closest_root a b ≡ nearest (floor_root (a / b)) (compare (4 * a) (past (floor_root (a / b)) * b))
unfolding closest_root
closest_root_is a b = refl

cmp_scale : (x y d : ℕ) → 0 < d → compare (x * d) (y * d) ≡ compare x y
cmp_scale x y d D =
    elim (dec_lt x y) [
      | yes h ↦ rw (cmp_lt (x * d) (y * d) (mul-lt-mul_of_pos_right h D), cmp_lt x y h)
      | no h ↦
          elim (dec_lt y x) [
            | yes k ↦ rw (cmp_gt (x * d) (y * d) (mul-lt-mul_of_pos_right k D), cmp_gt x y k)
            | no k ↦ let e : x ≡ y = omega arith in rw (e, cmp_eq (y * d) (y * d) refl, cmp_eq y y refl)
          ]
    ]

-- the value alone counts
pub closest_root_same : (a b c d : ℕ) → 0 < b → 0 < d → a * d ≡ c * b → closest_root a b ≡ closest_root c d
closest_root_same a b c d B D e =
    let q = floor_root (c / d) in
    let left : 4 * a * d ≡ 4 * c * b = mul_assoc 4 a d ∙ rw e (sym (mul_assoc 4 c b)) in
    closest_root_is a b
    ∙ rw (div_same a b c d B D e, ← cmp_scale (4 * a) (past q * b) d D, left)
    (rw (mul_right_comm (past q) b d, cmp_scale (4 * c) (past q * d) b B) (sym (closest_root_is c d)))

by_floor : (n q : ℕ) → IsRoot n q → closest_root n 1 ≡ nearest q (compare (4 * n) (past q * 1))
by_floor n q h = closest_root_is n 1 ∙ rw (div-one n, ← floor_root_at n q h)

-- s where n lies between s * s - s and s * s + s; √n is never half way
pub closest_root_at : (n s : ℕ) → s * s < n + s → n ≤ s * s + s → s ≡ closest_root n 1
closest_root_at n zero h k = absurd (omega arith)
closest_root_at n (suc p) h k =
    elim (dec_lt n (suc p * suc p)) [
      | yes l ↦ sym (by_floor n p (omega arith, omega arith) ∙ rw (cmp_gt (4 * n) (past p * 1) (omega arith)))
      | no l ↦ sym (by_floor n (suc p) (omega arith, omega arith) ∙ rw (cmp_lt (4 * n) (past (suc p) * 1) (omega arith)))
    ]

-- bounds
pub closest_root_ge : (n h : ℕ) → h * h ≤ n → h ≤ closest_root n 1
closest_root_ge n h g =
    let r = floor_root n in
    let x = square_lt h (r + 1) (lt_of_le_of_lt g (floor_root_is n).1) in
    rw (by_floor n r (floor_root_is n)) (le_trans (omega arith) (nearest-ge r (compare (4 * n) (past r * 1))))

pub closest_root_le : (a b h : ℕ) → 0 < b → a / b < h * h → closest_root a b ≤ h
closest_root_le a b h B g =
    let r = floor_root (a / b) in
    rw (closest_root_is a b) (le_trans (nearest-le r (compare (4 * a) (past r * b)))
    (square_lt r h (lt_of_le_of_lt (floor_root_is (a / b)).0 g)))

-- what `closest_root` is worth, by the three answers of its comparison
pub closest_root_nearest : (a b : ℕ) → 0 < b → NearestRoot a b (closest_root a b)
closest_root_nearest a b B =
    let q = floor_root (a / b) in
    let r = floor_root_is (a / b) in
    rw (closest_root_is a b)
    (go q ((le-div_iff_mul-le B).0 r.0) ((div-lt_iff_lt-mul B).0 r.1) (compare (4 * a) (past q * b))
    (leb→le (4 * a) (past q * b)) (nleb→lt (4 * a) (past q * b)) (eqb→eq (4 * a) (past q * b)))
  where
    this : (q : ℕ) → q * q * b ≤ a → 4 * a ≤ past q * b → NearestRoot a b q
    this q l h = record {
      at_most = h;
      at_least = λ p e. let m : (p + 1) * (p + 1) * b ≤ a = subst (λ (z : ℕ). z * z * b ≤ a) e l in omega arith;
    }

    next : (q : ℕ) → a < (q + 1) * (q + 1) * b → past q * b ≤ 4 * a → NearestRoot a b (q + 1)
    next q l h =
        record { at_most = omega arith; at_least = λ p e. let m : q ≡ p = omega arith in subst (λ (z : ℕ). past z * b ≤ 4 * a) m h }

    even : (q m : ℕ) → q % 2 ≡ m → m < 2 → NearestRoot a b q → NearestRoot a b (q + 1) → NearestRoot a b (q + m)
    even q zero e l x y = subst (λ (z : ℕ). NearestRoot a b z) (omega arith) x
    even q (suc zero) e l x y = y
    even q (suc (suc m)) e l x y = absurd (omega arith)

    go : (q : ℕ) → q * q * b ≤ a → a < (q + 1) * (q + 1) * b → (o : Ordering) → (T (is_le o) → 4 * a ≤ past q * b)
        → (T (not (is_le o)) → past q * b < 4 * a) → (T (compare_is_eq o) → 4 * a ≡ past q * b) → NearestRoot a b (nearest q o)
    go q l m Ordering.lt x y z = this q l (x tt)
    go q l m Ordering.gt x y z = rw (← add-one q) (next q m (le_of_lt (y tt)))
    go q l m Ordering.eq x y z = even q (q % 2) refl (omega arith) (this q l (x tt)) (next q m (le_of_eq (sym (z tt))))
