-- No operation sees the sign of a zero but by the sign of a zero that it makes: what is made of floats that are one number is one number.
-- Assumes nothing.
use mathlib.Core.Path.{◌≡◌, refl, sym, ◌∙◌, subst}
use mathlib.Core.Bool.{Bool, true, false, beq, false≢true}
use Prim.Native.Nat.{ℕ, zero, suc, ◌-◌, ◌*◌, ◌<◌}
use native.Mathlib.Nat.{add-zero, mul-pos, zero-add}
use borrow.Author.Tests.{le-ltb}
use native.Mathlib.Decide.{dec_lt}
use native.Mathlib.Omega.{arith}
use lib.Dec.{T, eqb-suc-zero}
use lib.IntN.{ℤ}
use lib.Ieee.{Float, nan, inf, fin, Format, up, down, unlike, round, sum, add, mul, div, below, lt, fits}
use lib.Ieee.Fits.{down_pos, up_pos}
use Rattle.ieee.specs.Magnitude.{magnitude}
use Rattle.ieee.specs.Rounded.{rounded}
use Rattle.ieee.specs.Number.{as_number}
use Rattle.ieee.proofs.Values.Commutes.{add_commutes, sum_less, sum_none}
use Rattle.ieee.proofs.Values.Negation.{mul_commutes}
use Rattle.ieee.proofs.Values.OneFloat.{round_zero}

-- ---- what that means

-- two floats that are one number are one float, or zeros of two signs
pub one_number : (P : Float → Float → Type 0) → ((x : Float) → P x x) → ((s t : Bool) (e : ℤ) → P (fin s 0 e) (fin t 0 e))
    → (x y : Float) → as_number x ≡ as_number y → P x y
unfolding as_number
one_number P same zeros nan nan h = same nan
one_number P same zeros nan (inf t) h = subst (P nan) h (same nan)
one_number P same zeros nan (fin t zero d) h = let no : ◌≡◌ {A = ℕ} 0 1 = cc in absurd (omega arith)
one_number P same zeros nan (fin t (suc n) d) h = subst (P nan) h (same nan)
one_number P same zeros (inf s) nan h = subst (P (inf s)) h (same (inf s))
one_number P same zeros (inf s) (inf t) h = subst (P (inf s)) h (same (inf s))
one_number P same zeros (inf s) (fin t zero d) h = let no : ◌≡◌ {A = ℕ} 0 1 = cc in absurd (omega arith)
one_number P same zeros (inf s) (fin t (suc n) d) h = subst (P (inf s)) h (same (inf s))
one_number P same zeros (fin s zero e) nan h = let no : ◌≡◌ {A = ℕ} 0 1 = cc in absurd (omega arith)
one_number P same zeros (fin s zero e) (inf t) h = let no : ◌≡◌ {A = ℕ} 0 1 = cc in absurd (omega arith)
one_number P same zeros (fin s zero e) (fin t zero d) h =
    let k : e ≡ d = cc in subst (λ (c : ℤ). P (fin s 0 e) (fin t 0 c)) k (zeros s t e)
one_number P same zeros (fin s zero e) (fin t (suc n) d) h = let no : 0 ≡ suc n = cc in absurd (omega arith)
one_number P same zeros (fin s (suc m) e) nan h = subst (P (fin s (suc m) e)) h (same (fin s (suc m) e))
one_number P same zeros (fin s (suc m) e) (inf t) h = subst (P (fin s (suc m) e)) h (same (fin s (suc m) e))
one_number P same zeros (fin s (suc m) e) (fin t zero d) h = let no : suc m ≡ 0 = cc in absurd (omega arith)
one_number P same zeros (fin s (suc m) e) (fin t (suc n) d) h = subst (P (fin s (suc m) e)) h (same (fin s (suc m) e))

pub as_number_fits : (f : Format) (x : Float) → T (fits f x) → T (fits f (as_number x))
unfolding fits as_number
as_number_fits f nan h = h
as_number_fits f (inf s) h = h
as_number_fits f (fin s zero e) h = h
as_number_fits f (fin s (suc m) e) h = h

-- a rounded nothing
zero_number : (f : Format) (s t : Bool) (a b c d : ℕ) → a ≡ 0 → b ≡ 0 → 0 < c → 0 < d
    → as_number (round f s a c) ≡ as_number (round f t b d)
unfolding as_number
zero_number f s t a b c d A B C D = rw (A, B, round_zero f s c C, round_zero f t d D)

-- ---- the operations

pub magnitude_number : (x y : Float) → as_number x ≡ as_number y → magnitude x ≡ magnitude y
unfolding magnitude
magnitude_number = one_number (λ x y. magnitude x ≡ magnitude y) (λ x. refl) (λ s t e. refl)

pub rounded_number : (f : Format) (x y : Float) → as_number x ≡ as_number y → as_number (rounded f x) ≡ as_number (rounded f y)
unfolding rounded
rounded_number f =
    one_number (λ x y. as_number (rounded f x) ≡ as_number (rounded f y)) (λ x. refl)
    (λ s t e. zero_number f s t (0 * up e) (0 * up e) (down e) (down e) (omega arith) (omega arith) (down_pos e) (down_pos e))

-- an operation of two that may change places and does not see the sign of a zero in the first
module _ (op : Float → Float → Float) (commutes : (x y : Float) → op x y ≡ op y x)
    (zeros : (s t : Bool) (e : ℤ) (y : Float) → as_number (op (fin s 0 e) y) ≡ as_number (op (fin t 0 e) y)) where
  in_the_first : (y x x' : Float) → as_number x ≡ as_number x' → as_number (op x y) ≡ as_number (op x' y)
  in_the_first y = one_number (λ x x'. as_number (op x y) ≡ as_number (op x' y)) (λ x. refl) (λ s t e. zeros s t e y)

  both_sides : (x y x' y' : Float) → as_number x ≡ as_number x' → as_number y ≡ as_number y' → as_number (op x y) ≡ as_number (op x' y')
  both_sides x y x' y' h k = in_the_first y x x' h ∙ rw (commutes x' y, commutes x' y') (in_the_first x' y y' k)

module _ (f : Format) where
  zero_times : (s t : Bool) (e : ℤ) (y : Float) → as_number (mul f (fin s 0 e) y) ≡ as_number (mul f (fin t 0 e) y)
  unfolding mul
  zero_times s t e nan = refl
  zero_times s t e (inf v) = refl
  zero_times s t e (fin v n d) =
      let C = mul-pos (down_pos e) (down_pos d) in
      let none : 0 * up e * (n * up d) ≡ 0 = omega arith in
      zero_number f (unlike s v) (unlike t v) _ _ (down e * down d) (down e * down d) none none C C

  pub mul_number : (x y x' y' : Float) → as_number x ≡ as_number x' → as_number y ≡ as_number y'
      → as_number (mul f x y) ≡ as_number (mul f x' y')
  mul_number = both_sides (mul f) (mul_commutes f) zero_times

  -- the square is one float, and no zero of it is -0
  pub square_number : (x y : Float) → as_number x ≡ as_number y → mul f x x ≡ mul f y y
  unfolding mul
  square_number = one_number (λ x y. mul f x x ≡ mul f y y) (λ x. refl) (λ s t e. rw (like s, like t))
    where
      like : (s : Bool) → unlike s s ≡ false
      like true = refl
      like false = refl

  zero_over : (s t : Bool) (e : ℤ) (y : Float) → as_number (div f (fin s 0 e) y) ≡ as_number (div f (fin t 0 e) y)
  unfolding div as_number
  zero_over s t e nan = refl
  zero_over s t e (inf v) = refl
  zero_over s t e (fin v zero d) = refl
  zero_over s t e (fin v (suc n) d) =
      let C = mul-pos (mul-pos {m = suc n} (omega arith) (up_pos d)) (down_pos e) in
      let none : 0 * up e * down d ≡ 0 = omega arith in
      rw (eqb-suc-zero n)
      (zero_number f (unlike s v) (unlike t v) _ _ (suc n * up d * down e) (suc n * up d * down e) none none C C)

  -- the dividend's zero; a divisor's shows in an infinity
  pub div_number : (y x x' : Float) → as_number x ≡ as_number x' → as_number (div f x y) ≡ as_number (div f x' y)
  div_number y = one_number (λ x x'. as_number (div f x y) ≡ as_number (div f x' y)) (λ x. refl) (λ s t e. zero_over s t e y)

  -- nothing more, with either sign
  nothing_more : (s t : Bool) (a b c : ℕ) → 0 < c → a ≡ 0 → as_number (sum f s a t b c) ≡ as_number (round f t b c)
  nothing_more s t a b c C A = go (beq s t) refl
    where
      same : (s t : Bool) → beq s t ≡ true → s ≡ t
      same true true h = refl
      same true false h = absurd (false≢true h)
      same false true h = absurd (false≢true h)
      same false false h = refl

      level : b ≡ 0 → beq s t ≡ false → as_number (sum f s a t b c) ≡ as_number (round f t b c)
      level B h = unfold as_number in rw (sum_none f c C s t a b h (omega arith), B, round_zero f t c C)

      go : (w : Bool) → beq s t ≡ w → as_number (sum f s a t b c) ≡ as_number (round f t b c)
      go true h = unfold sum in rw (h, A, zero-add b, same s t h)
      go false h =
          elim (dec_lt a b) [
            | yes l ↦ (let e : b - a ≡ b = omega arith in rw (sum_less f c C s t a b h l, e))
            | no l ↦ level (omega arith) h
          ]

  zero_plus : (s t : Bool) (e : ℤ) (y : Float) → as_number (add f (fin s 0 e) y) ≡ as_number (add f (fin t 0 e) y)
  unfolding add
  zero_plus s t e nan = refl
  zero_plus s t e (inf v) = refl
  zero_plus s t e (fin v n d) =
      let C = mul-pos (down_pos e) (down_pos d) in
      let none : 0 * up e * down d ≡ 0 = omega arith in
      nothing_more s v _ (n * up d * down e) (down e * down d) C none
      ∙ sym (nothing_more t v _ (n * up d * down e) (down e * down d) C none)

  pub add_number : (x y x' y' : Float) → as_number x ≡ as_number x' → as_number y ≡ as_number y'
      → as_number (add f x y) ≡ as_number (add f x' y')
  add_number = both_sides (add f) (add_commutes f) zero_plus

-- ---- comparisons

-- which of two is the less does not hang on a zero's sign, on either side
pub lt_number : (x y x' y' : Float) → as_number x ≡ as_number x' → as_number y ≡ as_number y' → lt x y ≡ lt x' y'
lt_number x y x' y' h k = left y x x' h ∙ right x' y y' k
  where
    below_left : (s t v : Bool) (a b : ℕ) → a ≡ 0 → below s a v b ≡ below t a v b
    below_left false false v a b A = refl
    below_left false true false a b A = rw (A, zero-add b)
    below_left false true true a b A = sym (le-ltb b a (omega arith))
    below_left true false false a b A = rw (A, zero-add b)
    below_left true false true a b A = le-ltb b a (omega arith)
    below_left true true v a b A = refl

    below_right : (s t v : Bool) (a b : ℕ) → b ≡ 0 → below v a s b ≡ below v a t b
    below_right false false v a b B = refl
    below_right false true false a b B = le-ltb a b (omega arith)
    below_right false true true a b B = rw (B, add-zero a)
    below_right true false false a b B = sym (le-ltb a b (omega arith))
    below_right true false true a b B = rw (B, add-zero a)
    below_right true true v a b B = refl

    zero_left : (s t : Bool) (e : ℤ) (y : Float) → lt (fin s 0 e) y ≡ lt (fin t 0 e) y
    zero_left s t e nan = unfold lt in refl
    zero_left s t e (inf v) = unfold lt in refl
    zero_left s t e (fin v n d) = unfold lt in below_left s t v (0 * up e * down d) (n * up d * down e) (omega arith)

    zero_right : (s t : Bool) (e : ℤ) (x : Float) → lt x (fin s 0 e) ≡ lt x (fin t 0 e)
    zero_right s t e nan = unfold lt in refl
    zero_right s t e (inf v) = unfold lt in refl
    zero_right s t e (fin v n d) = unfold lt in below_right s t v (n * up d * down e) (0 * up e * down d) (omega arith)

    left : (y x x' : Float) → as_number x ≡ as_number x' → lt x y ≡ lt x' y
    left y = one_number (λ x x'. lt x y ≡ lt x' y) (λ x. refl) (λ s t e. zero_left s t e y)

    right : (x y y' : Float) → as_number y ≡ as_number y' → lt x y ≡ lt x y'
    right x = one_number (λ y y'. lt x y ≡ lt x y') (λ y. refl) (λ s t e. zero_right s t e x)
