-- The glove on keys (02, A9): the opposite of a component has the negated tenths, for components up to 2 in size, as those of a unit normal
-- are (past the i32 its ends would differ), and whatever sign a zero has. Negated keys have the opposite rows, and gather the same areas.
-- Assumes nothing.
use Rattle.std.proofs.Common.{◌≡◌, ℕ, zero, suc, ◌*◌, ◌<◌, ◌≤◌, Bool, true, false, T, List, [], ◌∷◌, ℤ, pos, negsuc, neg_ℤ, nat_abs, sym, refl, ap, ◌∙◌, subst, true≢false, zero-le, zero-mul, arith, lit<}
use lib.IntN.{neg_ℤ-neg_ℤ}
use lib.Ieee.{Float, nan, inf, fin, binary32, up, down, unlike, neg, mul, div, round, lt, le, of_int, of_bits, to_signed}
use lib.Ieee.Fits.{and_i, down_pos}
use Rattle.ieee.specs.Integral.{integral, half_away}
use Rattle.ieee.specs.Magnitude.{magnitude}
use Rattle.ieee.specs.Number.{as_number, opposite}
use Rattle.ieee.specs.Single.{◌⊗◌}
use Rattle.ieee.proofs.Order.Comparison.{le_lt_trans}
use Rattle.ieee.proofs.Order.Magnitudes.{magnitude_below}
use Rattle.ieee.proofs.Order.Monotone.{rises, integral_mono}
use Rattle.ieee.proofs.Order.Signed.{AtMost, at_most}
use Rattle.ieee.proofs.Values.Negation.{magnitude_neg, mul_neg_left, div_neg_left, half_away_neg, of_int_neg}
use Rattle.ieee.proofs.Values.OneFloat.{round_zero}
use Rattle.ieee.proofs.Values.Opposite.{to_signed_neg}
use Rattle.slots.proofs.Codes.{by}
use Rattle.rows.specs.Plain.{plain_float}
use Rattle.rows.specs.Opposite.{opposite_rows}
use Rattle.surfaces.specs.declared.Key.{Key}
use Rattle.surfaces.specs.Surfaces.{ten, tenths, same_key, Bucket, add_area, tenth, rows}
use Rattle.surfaces.specs.Opposite.{opposite_key, opposite_buckets}
use Rattle.surfaces.proofs.Keys.{key_eq, key_same, key_ne}
use Rattle.surfaces.proofs.Plain.{tenth_plain}

-- ---- from tenths to rows

plain_same_number : (x : Float) → T (plain_float x) → as_number x ≡ x
unfolding plain_float as_number
plain_same_number nan h = refl
plain_same_number (inf s) h = refl
plain_same_number (fin true zero e) h = absurd h
plain_same_number (fin false zero e) h = refl
plain_same_number (fin s (suc m) e) h = refl

tenth_turned : (z : ℤ) → 0 < nat_abs z → tenth (neg_ℤ z) ≡ opposite (tenth z)
tenth_turned z some =
    let turned : tenth (neg_ℤ z) ≡ neg (tenth z) = rw (of_int_neg binary32 z some, div_neg_left binary32 (of_int binary32 z) ten) in
    sym (plain_same_number (tenth (neg_ℤ z)) (tenth_plain (neg_ℤ z))) ∙ ap as_number turned

pub tenth_opposite : (z : ℤ) → tenth (neg_ℤ z) ≡ opposite (tenth z)
unfolding of_int round div of_bits neg as_number
tenth_opposite (pos zero) = refl
tenth_opposite (pos (suc n)) = tenth_turned (pos (suc n)) (omega arith)
tenth_opposite (negsuc n) = tenth_turned (negsuc n) (omega arith)

pub rows_opposite : (bs : List Bucket) → rows (opposite_buckets bs) ≡ opposite_rows (rows bs)
unfolding rows opposite_buckets opposite_rows
rows_opposite [] = refl
rows_opposite (b ∷ bs) = rw (tenth_opposite b.key.x, tenth_opposite b.key.y, tenth_opposite b.key.z, rows_opposite bs)

-- ---- from components to tenths

abbrev pub two : Float
two = of_bits binary32 0x4000_0000

-- 20, and 2 ^ 31
abbrev twenty : Float
twenty = fin false 5 (pos 2)

abbrev past : Float
past = fin false 1 (pos 31)

-- what is at most b in size is so with its sign
at_most_size : (s : Bool) (a b : ℕ) → a ≤ b → AtMost s a false b
unfolding AtMost
at_most_size false a b l = l
at_most_size true a b l = zero-le

at_most_twenty : (s : Bool) (m : ℕ) (e : ℤ) → T (le (fin false m e) two) → T (le (fin s m e ⊗ ten) twenty)
unfolding mul le of_bits AtMost round
at_most_twenty s m e l =
    let h = at_most false (m * up e * 1) false (1 * 2 * down e) l in
    let sign = unlike s false in
    rises binary32 sign (m * up e * (5 * 2)) (down e * 1) false 20 1 (omega (arith, down_pos e)) (lit< tt)
    (at_most_size sign (m * up e * (5 * 2) * 1) (20 * (down e * 1)) (omega arith))

-- ten times x, rounded, is within the range
within : (x : Float) → T (le (magnitude x) two) → T (lt (half_away binary32 (x ⊗ ten)) past)
unfolding magnitude le of_bits integral round
within nan l = absurd l
within (inf s) l = absurd l
within (fin s m e) l =
    let y = fin s m e ⊗ ten in
    le_lt_trans (half_away binary32 y) (half_away binary32 twenty) past (integral_mono binary32 _ _ y twenty (at_most_twenty s m e l)) tt

tenths_neg : (x : Float) → T (le (magnitude x) two) → tenths (neg x) ≡ neg_ℤ (tenths x)
unfolding tenths
tenths_neg x l =
    let y = half_away binary32 (x ⊗ ten) in
    let turned : half_away binary32 (neg x ⊗ ten) ≡ neg y = rw (mul_neg_left binary32 x ten, half_away_neg binary32 (x ⊗ ten)) in
    let other : T (lt (neg y) past) = subst (λ (z : Float). T (lt z past)) turned (within (neg x) (rw (magnitude_neg x) l)) in
    let small : T (lt (magnitude y) past) = rw (magnitude_below y past) (and_i (lt y past) (lt (neg y) past) (within x l) other) in
    ap (to_signed 31) turned ∙ to_signed_neg 31 y small

tenths_zero : (s : Bool) (e : ℤ) → tenths (fin s zero e) ≡ pos 0
unfolding tenths mul of_bits integral to_signed
tenths_zero s e =
    rw (zero-mul (up e), round_zero binary32 (unlike s false) (down e * 1) (omega (arith, down_pos e))) (either (unlike s false))
  where
    either : (s : Bool) → to_signed 31 (half_away binary32 (fin s 0 (pos 0))) ≡ pos 0
    either true = refl
    either false = refl

-- 0 and -0 have the same tenths
tenths_number : (x : Float) → tenths (as_number x) ≡ tenths x
unfolding as_number
tenths_number nan = refl
tenths_number (inf s) = refl
tenths_number (fin s zero e) = tenths_zero false e ∙ sym (tenths_zero s e)
tenths_number (fin s (suc m) e) = refl

pub tenths_opposite : (x y : Float) → as_number y ≡ opposite x → T (le (magnitude x) two) → tenths y ≡ neg_ℤ (tenths x)
tenths_opposite x y e l = sym (tenths_number y) ∙ ap tenths e ∙ tenths_number (neg x) ∙ tenths_neg x l

-- ---- keys

key_twice : (k : Key) → opposite_key (opposite_key k) ≡ k
key_twice k = rw (neg_ℤ-neg_ℤ k.x, neg_ℤ-neg_ℤ k.y, neg_ℤ-neg_ℤ k.z)

pub same_key_opposite : (k l : Key) → same_key (opposite_key k) (opposite_key l) ≡ same_key k l
same_key_opposite k l = by (same_key k l)
    (λ h. rw h (key_same (opposite_key k) (opposite_key l) (ap opposite_key (key_eq k l h))))
    (λ h. rw h (key_ne (opposite_key k) (opposite_key l) (λ e.
    true≢false (sym (key_same k l (sym (key_twice k) ∙ ap opposite_key (sym e) ∙ key_twice l)) ∙ h))))

pub add_opposite : (k : Key) (a : Float) (bs : List Bucket)
    → add_area (opposite_key k) a (opposite_buckets bs) ≡ opposite_buckets (add_area k a bs)
unfolding add_area opposite_buckets
add_opposite k a [] = refl
add_opposite k a (b ∷ bs) =
    by (same_key k b.key) (λ h. rw (same_key_opposite k b.key, h)) (λ h. rw (same_key_opposite k b.key, h, add_opposite k a bs))
