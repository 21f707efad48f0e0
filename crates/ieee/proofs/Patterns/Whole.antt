-- A float's size as a whole number is one shift of its digits. Assumes nothing.
use mathlib.Core.Path.{◌≡◌, sym, ap, ◌∙◌}
use Prim.Native.Nat.{ℕ, zero, suc, ◌+◌, ◌-◌, ◌*◌, ◌/◌, ◌^◌, ◌≤◌, ◌<◌, min}
use native.Mathlib.Nat.{add-div_right, div-div-eq-div-mul, lt_of_lt_of_le, mul_assoc, mul_comm, mul-div-mul_right, mul-one, mul-pos}
use native.Mathlib.Nat.{pow-succ'}
use native.Mathlib.Omega.{arith}
use lib.Pow.{pow-add, pow_mono, pow_pos, shl_lt}
use lib.Dec.{lit≤}
use lib.Ieee.{Format, binary32, binary64, prec, low, hid}
use Rattle.ieee.specs.inner.Fields.{exp, sized}
use Rattle.ieee.specs.Integral.{Way, half, to_whole}
use Rattle.ieee.proofs.Patterns.Fields.{exp_le, sig_lt, twice_hid}
use Rattle.ieee.proofs.Numbers.Basic.{pow_half}
use Rattle.ieee.proofs.Numbers.Wholes.{half_none as none_at_all, whole_same, whole_tiny}

-- a half of 2 ^ j is added, and the fraction dropped
pub half_shift : (d j : ℕ) → 0 < j → (d + 2 ^ (j - 1)) / 2 ^ j ≡ to_whole half d (2 ^ j)
half_shift d j h =
    let n : (d + 2 ^ (j - 1)) * 2 ≡ 2 * d + 2 ^ j = omega (arith, pow_half j h) in
    sym (mul-div-mul_right (d + 2 ^ (j - 1)) (2 ^ j) (pow_pos 1)) ∙ rw (n, mul_comm (2 ^ j) 2)

-- the same by the digit behind the last: it is shifted down to, one is added, and it goes
pub half_digit : (d j : ℕ) → 0 < j → (d / 2 ^ (j - 1) + 1) / 2 ≡ to_whole half d (2 ^ j)
half_digit d j h =
    let p : ℕ = 2 ^ (j - 1) in
    let two : p * 2 ≡ 2 ^ j = omega (arith, pow_half j h) in
    ap (λ (z : ℕ). z / 2) (sym (add-div_right d (pow_pos (j - 1)))) ∙ div-div-eq-div-mul (d + p) p 2
    ∙ ap (λ (z : ℕ). (d + p) / z) two ∙ half_shift d j h

-- ---- by the fields e and t
twice_lt : (n k l : ℕ) → n < 2 ^ k → k < l → 2 * n < 2 ^ l
twice_lt n k l h g = lt_of_lt_of_le (omega (arith, pow-succ' 2 k)) (pow_mono g)

small_size : (f : Format) (e t : ℕ) → prec f + e < low f → t < hid f → 2 * sized f e t < 2 ^ low f
small_size f e t h l = twice_lt (sized f e t) (prec f + exp e) (low f) (shl_lt (prec f) (exp e) (sig_lt f e t l)) (omega (arith, exp_le e))

-- far below a half there is nothing, and of any digits a shift by 63 leaves nothing
pub none_size : (f : Format) (e t : ℕ) → prec f < 63 → prec f + e < low f → t < hid f
    → to_whole half (hid f + t) (2 ^ 63) ≡ to_whole half (sized f e t) (2 ^ low f)
none_size f e t p h l =
    none_at_all (hid f + t) (2 ^ 63) (twice_lt (hid f + t) (prec f) 63 (omega (arith, twice_hid f)) p)
    ∙ sym (none_at_all (sized f e t) (2 ^ low f) (small_size f e t h l))

-- how many digits and places the formats have
pub few_places : (f : Format) → (hid f ≤ 2 ^ 52) × (prec f ≤ 53) × (149 ≤ low f) × (low f ≤ 1074)
few_places binary32 = (lit≤ tt, lit≤ tt, lit≤ tt, lit≤ tt)
few_places binary64 = (lit≤ tt, lit≤ tt, lit≤ tt, lit≤ tt)

pub tiny_size : (f : Format) (w : Way) (e t : ℕ) → e + 62 < low f → t < hid f → to_whole w (e + t) (2 ^ 63) ≡ to_whole w (sized f e t) (2 ^ low f)
tiny_size f w e t h l =
    whole_tiny w (e + t) (2 ^ 63) (sized f e t) (2 ^ low f)
    (let p = few_places f in omega arith) (small_size f e t (let p = few_places f in omega arith) l) (some e)
  where
    some : (e : ℕ) → min (e + t) 1 ≡ min (sized f e t) 1
    some zero = omega arith
    some (suc y) = let p : 0 < (hid f + t) * 2 ^ y = mul-pos (let q = pow_pos (prec f - 1) in omega arith) (pow_pos y) in omega arith

-- the digits j places up, shifted down by k; with the field low f + 1 the last one counts 1
pub placed_size : (f : Format) (w : Way) (j k e t : ℕ) → 0 < e → e + k ≡ j + low f + 1
    → to_whole w ((hid f + t) * 2 ^ j) (2 ^ k) ≡ to_whole w (sized f e t) (2 ^ low f)
placed_size f w j k zero t h p = absurd (omega arith)
placed_size f w j k (suc y) t h p =
    let places : j + low f ≡ y + k = omega arith in
    let digits = hid f + t in
    whole_same w (digits * 2 ^ j) (2 ^ k) (digits * 2 ^ y) (2 ^ low f) (pow_pos k) (pow_pos (low f))
    (mul_assoc digits (2 ^ j) (2 ^ low f)
    ∙ ap (λ (z : ℕ). digits * z) (sym (pow-add 2 j (low f)) ∙ ap (λ (z : ℕ). 2 ^ z) places ∙ pow-add 2 y k)
    ∙ sym (mul_assoc digits (2 ^ y) (2 ^ k)))

pub digits_size : (f : Format) (w : Way) (e t : ℕ) → 0 < e → e ≤ low f + 1
    → to_whole w (hid f + t) (2 ^ (low f + 1 - e)) ≡ to_whole w (sized f e t) (2 ^ low f)
digits_size f w e t h l =
    let k = low f + 1 - e in ap (λ (z : ℕ). to_whole w z (2 ^ k)) (sym (mul-one (hid f + t))) ∙ placed_size f w 0 k e t h (omega arith)

-- the same of a word d with the digits and a shift k, of 63 at most
pub few_shift : (f : Format) (w : Way) (e t d k : ℕ) → d ≡ hid f + t → k ≡ low f + 1 - e → low f + 1 - 63 ≤ e → e < low f + 1
    → to_whole w d (2 ^ k) ≡ to_whole w (sized f e t) (2 ^ low f)
few_shift f w e t d k r q h l = rw (r, q) (digits_size f w e t (let p = few_places f in omega arith) (omega arith))

pub no_half : (f : Format) (e t d k : ℕ) → d ≡ hid f + t → k ≡ 63 → e ≤ low f + 1 - 63 → t < hid f
    → to_whole half d (2 ^ k) ≡ to_whole half (sized f e t) (2 ^ low f)
no_half f e t d k r q h l = rw (r, q) (let p = few_places f in none_size f e t (omega arith) (omega arith) l)
