-- From an integer to the float that it is, and back: one float of a format is that integer, and `whole` tests for one. Assumes nothing.
use mathlib.Core.Path.{◌≡◌, refl, sym, ◌∙◌, subst}
use mathlib.Core.Bool.{Bool, true, false, not, ◌&&◌}
use Prim.Native.Nat.{ℕ, zero, suc, ◌*◌, ◌/◌, ◌%◌, ◌^◌, ◌≤◌, ◌<◌}
use native.Mathlib.Nat.{add-zero, div-add-mod', mul-div_cancel, mul-mod_left, mul-one, mul-pos, zero-lt-suc, zero-mul}
use native.Mathlib.Omega.{arith}
use borrow.Author.Tests.{eq-eqb, le-leb, ne_eqb}
use lib.Dec.{T, eqb, leb, eqb→eq, leb→le, lit<}
use lib.IntN.{ℤ, pos, negsuc, nat_abs}
use lib.Signed.{non_neg}
use lib.Ieee.{Float, nan, inf, fin, Format, prec, up, down, of_int, to_signed, whole}
use lib.Ieee.Back.{round_whole}
use lib.Ieee.Exact.{HasValue}
use lib.Ieee.Fits.{and_l, and_r, down_pos, up_pos}
use Rattle.ieee.specs.WholeNumber.{IsWhole}
use Rattle.ieee.specs.inner.Wholes.{SmallWhole, signed}
use Rattle.ieee.specs.Magnitude.{magnitude}
use Rattle.ieee.proofs.Values.ByValue.{magnitude_value}
use Rattle.ieee.proofs.Integers.Sums.{signed_is}
use Rattle.ieee.proofs.Order.Ranges.{signed_cut}

-- ---- from the integer
pub of_int_whole : (f : Format) (a : ℤ) → nat_abs a ≤ 2 ^ prec f → IsWhole (of_int f a) a
unfolding of_int
of_int_whole f (pos n) l = round_whole f false n l
of_int_whole f (negsuc n) l = round_whole f true (suc n) l

-- ---- from one such float to another
pub magnitude_whole : (x : Float) (a : ℤ) → IsWhole x a → IsWhole (magnitude x) (pos (nat_abs a))
magnitude_whole x a h = magnitude_value x (not (non_neg a)) (nat_abs a) 1 h

-- ---- to the integer
-- m * 2 ^ e is the whole number n
cut : (m : ℕ) (e : ℤ) (n : ℕ) → m * up e * 1 ≡ n * down e → m * up e ≡ n * down e
cut m e n h = sym (mul-one (m * up e)) ∙ h

pub to_signed_value : (h : ℕ) (x : Float) (s : Bool) (n : ℕ) → n < 2 ^ h → HasValue x s n 1 → to_signed h x ≡ signed s n
to_signed_value h x s n l v =
    let one : n / 1 ≡ n = omega arith in
    subst (λ (q : ℕ). q < 2 ^ h → to_signed h x ≡ signed s q) one (signed_cut h x s n 1 (lit< tt) v) l

pub to_signed_whole : (h : ℕ) (x : Float) (z : ℤ) → nat_abs z < 2 ^ h → IsWhole x z → to_signed h x ≡ z
to_signed_whole h x z l v = to_signed_value h x (not (non_neg z)) (nat_abs z) l v ∙ signed_is z

-- ---- the test
zero_size : (m : ℕ) (e : ℤ) → m * up e ≡ 0 → m ≡ 0
zero_size zero e h = refl
zero_size (suc m) e h = absurd (omega (arith, mul-pos (zero-lt-suc m) (up_pos e)))

-- what has a whole part and nothing else
pub no_rest : (s : Bool) (m : ℕ) (e : ℤ) → m * up e % down e ≡ 0 → HasValue (fin s m e) s (m * up e / down e) 1
no_rest s m e r = (refl, mul-one (m * up e) ∙ sym (div-add-mod' (m * up e) (down e)) ∙ rw r (add-zero (m * up e / down e * down e)))

pub whole_of_test : (f : Format) (x : Float) → T (whole f x) → SmallWhole f x
unfolding whole
whole_of_test f nan t = absurd t
whole_of_test f (inf s) t = absurd t
whole_of_test f (fin s m e) t =
    let c = m * up e / down e in
    let r = m * up e % down e in
    let both = and_l (eqb r 0 && leb c (2 ^ prec f)) (not (s && eqb m 0)) t in
    of s c (leb→le c (2 ^ prec f) (and_r (eqb r 0) (leb c (2 ^ prec f)) both))
    (no_rest s m e (eqb→eq r 0 (and_l (eqb r 0) (leb c (2 ^ prec f)) both)))
    (and_r (eqb r 0 && leb c (2 ^ prec f)) (not (s && eqb m 0)) t)
  where
    of : (u : Bool) (c : ℕ) → c ≤ 2 ^ prec f → HasValue (fin u m e) u c 1 → T (not (u && eqb m 0)) → SmallWhole f (fin u m e)
    of false c l v z = record { at = pos c; small = l; is = v }
    of true (suc c) l v z = record { at = negsuc c; small = l; is = v }
    of true zero l v z = absurd (rw (eq-eqb m 0 (zero_size m e (cut m e 0 v.1 ∙ zero-mul (down e)))) at z)

pub test_of_whole : (f : Format) (x : Float) (a : ℤ) → nat_abs a ≤ 2 ^ prec f → IsWhole x a → T (whole f x)
unfolding whole
test_of_whole f nan a l v = absurd v
test_of_whole f (inf s) a l v = absurd v
test_of_whole f (fin s m e) a l v =
    let n = nat_abs a in
    rw (cut m e n v.1, mul-mod_left n (down e), mul-div_cancel n (down_pos e), le-leb n (2 ^ prec f) l, v.0)
    (signed_some a (cut m e (nat_abs a) v.1))
  where
    signed_some : (a : ℤ) → m * up e ≡ nat_abs a * down e → T (not (not (non_neg a) && eqb m 0))
    signed_some (pos n) h = tt
    signed_some (negsuc n) h = rw (ne_eqb m 0 (λ z. none z)) tt
      where
        none : m ≡ 0 → ⊥
        none z = let u : suc n * down e ≡ 0 = sym h ∙ rw z (zero-mul (up e)) in omega (arith, mul-pos (zero-lt-suc n) (down_pos e))
