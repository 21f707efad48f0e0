-- How a rounded result is written: k * hid + q is the pattern of `units f false q k`. A q that was rounded up to 2 ^ prec carries into
-- the exponent's field by itself, and past the largest value into an infinity's. Assumes nothing.
use mathlib.Core.Path.{◌≡◌, sym, ap, ◌∙◌, subst}
use mathlib.Core.Logic.{◌⊎◌, inl, inr, ⊎_elim}
use mathlib.Core.Bool.{Bool, false}
use Prim.Native.Nat.{ℕ, suc, ◌+◌, ◌-◌, ◌*◌, ◌/◌, ◌^◌, ◌≤◌, ◌<◌}
use native.Mathlib.Decide.{dec_lt}
use native.Mathlib.Nat.{add-mul, eq-or-lt_of_le, le_antisymm, le_of_eq, le_of_mul-le-mul_left, le_of_mul-le-mul_right, le_refl, le_trans}
use native.Mathlib.Nat.{mul-div_cancel, mul-le-mul_right, mul-one, zero-add}
use native.Mathlib.Omega.{arith}
use borrow.Author.Tests.{le-ltb}
use lib.Pow.{pow-add, pow-lt, pow_pos, shl_lt}
use lib.Ieee.{inf, Format, prec, emax, low, hid, ones, size, units, to_bits}
use lib.Ieee.Digits.{size-le}
use lib.Ieee.Exact.{units_val}
use lib.Ieee.Fits.{reach, two}
use lib.Ieee.Scale.{overflow}
use Rattle.ieee.proofs.Numbers.Basic.{pow_half, pow_le_back, size_is}
use Rattle.ieee.proofs.Values.OneFloat.{bits_at}

-- nothing was dropped, or q keeps its leading digit
abbrev pub Leading : ℕ → ℕ → ℕ → Type 0
Leading p q k = (k ≡ 0) ⊎ (2 ^ (p - 1) ≤ q)

-- ---- the two fields of q * 2 ^ k, for a format of p digits
module _ (p k : ℕ) (P : 2 ≤ p) where
  -- q of at most p digits: k are dropped
  dropped : (q : ℕ) → q < 2 ^ p → Leading p q k → size (q * 2 ^ k) - p ≡ k
  dropped q l (inl z) = let s : size (q * 2 ^ k) ≤ p = rw (z, mul-one) (size-le q p l) in omega arith
  dropped q l (inr h) =
      let next : p + k ≡ suc (p - 1 + k) = omega arith in
      let lo : 2 ^ (p - 1 + k) ≤ q * 2 ^ k = le_trans (le_of_eq (pow-add 2 (p - 1) k)) (mul-le-mul_right (2 ^ k) h) in
      let hi : q * 2 ^ k < 2 ^ suc (p - 1 + k) = subst (λ (x : ℕ). q * 2 ^ k < 2 ^ x) next (shl_lt p k l) in
      let z = size_is (q * 2 ^ k) (p - 1 + k) lo hi in
      omega arith

  -- q is 2 ^ p: one more is dropped
  carried : size (2 ^ p * 2 ^ k) - p ≡ suc k
  carried =
      let hi : 2 ^ p * 2 ^ k < 2 ^ suc (p + k) = subst (λ (x : ℕ). x < 2 ^ suc (p + k)) (pow-add 2 p k) (pow-lt (le_refl (suc (p + k)))) in
      let z = size_is (2 ^ p * 2 ^ k) (p + k) (le_of_eq (pow-add 2 p k)) hi in
      omega arith

  abbrev Fields : ℕ → ℕ → Type 0
  Fields q z = z * 2 ^ (p - 1) + q * 2 ^ k / 2 ^ z ≡ k * 2 ^ (p - 1) + q

  fields : (q : ℕ) → q ≤ 2 ^ p → Leading p q k → Fields q (size (q * 2 ^ k) - p)
  fields q l w = ⊎_elim top below (eq-or-lt_of_le l)
    where
      below : q < 2 ^ p → Fields q (size (q * 2 ^ k) - p)
      below h = rw (dropped q h w, mul-div_cancel q (pow_pos k))

      half : 2 ^ p * 2 ^ k ≡ 2 ^ (p - 1) * 2 ^ suc k
      half = let e : p + k ≡ p - 1 + suc k = omega arith in sym (pow-add 2 p k) ∙ ap (λ (x : ℕ). 2 ^ x) e ∙ pow-add 2 (p - 1) (suc k)

      top : q ≡ 2 ^ p → Fields q (size (q * 2 ^ k) - p)
      top e = rw (e, carried, half, mul-div_cancel (2 ^ (p - 1)) (pow_pos (suc k))) (omega (arith, pow_half p (omega arith)))

-- ---- the pattern
pub units_inf : (f : Format) (s : Bool) (q k : ℕ) → overflow f ≤ q * 2 ^ k → units f s q k ≡ inf s
unfolding units
units_inf f s q k h = rw (le-ltb (q * 2 ^ k) (overflow f) h)

pub bits_inf : (f : Format) → to_bits f (inf false) ≡ ones f * hid f
unfolding to_bits
bits_inf f = omega arith

-- past the largest value q is 2 ^ prec and k the largest
full : (f : Format) (q k : ℕ) → q ≤ 2 ^ prec f → k < 2 * emax f → overflow f ≤ q * 2 ^ k → ones f * hid f ≡ k * hid f + q
full f q k l h g =
    let P = two f in
    let R = reach f in
    let places : low f + suc (emax f) ≡ prec f + (2 * emax f - 1) = omega arith in
    let top : overflow f ≡ 2 ^ prec f * 2 ^ (2 * emax f - 1) = ap (λ (x : ℕ). 2 ^ x) places ∙ pow-add 2 (prec f) (2 * emax f - 1) in
    let from =
    pow_le_back (2 * emax f - 1) k
    (le_of_mul-le-mul_left (le_trans (le_of_eq (sym top)) (le_trans g (mul-le-mul_right (2 ^ k) l))) (pow_pos (prec f))) in
    let last : k ≡ 2 * emax f - 1 = omega arith in
    let most : q ≡ 2 ^ prec f =
    le_antisymm l
    (le_of_mul-le-mul_right (le_trans (le_of_eq (sym top)) (subst (λ (x : ℕ). overflow f ≤ q * 2 ^ x) last g))
    (pow_pos (2 * emax f - 1))) in
    let two_more : ones f ≡ k + 2 = omega arith in
    rw (most, pow_half (prec f) (omega arith), two_more) (add-mul k 2 (hid f))

pub pack : (f : Format) (q k : ℕ) → q ≤ 2 ^ prec f → Leading (prec f) q k → k < 2 * emax f → to_bits f (units f false q k) ≡ k * hid f + q
pack f q k l w h =
    elim (dec_lt (q * 2 ^ k) (overflow f)) [
      | yes g ↦
          bits_at f (units f false q k) false (q * 2 ^ k) (2 ^ low f) (pow_pos (low f)) (units_val f false q k g)
          ∙ rw (mul-div_cancel (q * 2 ^ k) (pow_pos (low f)), zero-add) (fields (prec f) k (two f) q l w)
      | no g ↦ rw (units_inf f false q k (omega arith), bits_inf f) (full f q k l h (omega arith))
    ]
