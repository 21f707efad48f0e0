-- Floats that are whole numbers, zeros of either sign included, compare as the integers do; so both moved by one integer compare alike.
-- Assumes nothing.
use mathlib.Core.Path.{◌≡◌, refl, sym, ◌∙◌, ap}
use mathlib.Core.Bool.{Bool, true, false, not, ◌&&◌, cond, decide}
use Prim.Native.Nat.{ℕ, zero, suc, ◌+◌, ◌≤◌}
use native.Mathlib.Nat.{zero-add}
use native.Mathlib.Omega.{arith}
use borrow.Author.Tests.{lt-ltb, le-ltb, eq-eqb, ne_eqb}
use lib.Dec.{T, ltb, le→leb, leb-suc-suc, lit<}
use lib.IntN.{ℤ, pos, negsuc, nat_abs, ℤ_discrete, pos-ne-negsuc, ◌+ℤ◌, ◌-ℤ◌}
use lib.Signed.{lt_z, le_z, non_neg}
use lib.Ieee.{Float, below, lt, le, eq, is_nan}
use Rattle.ieee.specs.WholeNumber.{IsWhole}
use Rattle.ieee.specs.inner.Wholes.{EqualsWhole, signed}
use Rattle.ieee.proofs.Values.ByValue.{lt_values, value_number}
use Rattle.ieee.proofs.Order.Comparison.{leb_ltb, eqb_ltb, le_not_lt, eq_not_lt}
use Rattle.ieee.proofs.Integers.Sums.{diff_moved, signed_is}

pub whole_equals : (x : Float) (z : ℤ) → IsWhole x z → EqualsWhole x z
whole_equals x z h = record { sign = not (non_neg z); size = nat_abs z; value = h; is = signed_is z }

equals_number : (x : Float) (z : ℤ) → EqualsWhole x z → T (not (is_nan x))
equals_number x z h = value_number x h.sign h.size 1 h.value

-- ---- integers
below_lt_z : (s : Bool) (a : ℕ) (t : Bool) (b : ℕ) → below s a t b ≡ lt_z (signed s a) (signed t b)
below_lt_z false a false b = refl
below_lt_z false a true zero = sym (le-ltb a 0 (omega arith))
below_lt_z false a true (suc b) = refl
below_lt_z true zero false b = rw (zero-add b)
below_lt_z true (suc a) false b = lt-ltb 0 (suc a + b) (omega arith)
below_lt_z true zero true zero = refl
below_lt_z true zero true (suc b) = le-ltb (suc b) 0 (omega arith)
below_lt_z true (suc a) true zero = lt-ltb 0 (suc a) (omega arith)
below_lt_z true (suc a) true (suc b) = leb-suc-suc (suc b) a

le_z_lt_z : (a b : ℤ) → le_z a b ≡ not (lt_z b a)
le_z_lt_z (pos a) (pos b) = leb_ltb a b
le_z_lt_z (pos a) (negsuc b) = refl
le_z_lt_z (negsuc a) (pos b) = refl
le_z_lt_z (negsuc a) (negsuc b) = leb_ltb b a

eq_z_lt_z : (a b : ℤ) (d : Dec (a ≡ b)) → decide d ≡ (not (lt_z a b) && not (lt_z b a))
unfolding decide
eq_z_lt_z (pos a) (pos b) (yes e) = sym (eq-eqb a b (ap nat_abs e)) ∙ eqb_ltb a b
eq_z_lt_z (pos a) (pos b) (no g) = sym (ne_eqb a b (λ e. g (ap pos e))) ∙ eqb_ltb a b
eq_z_lt_z (pos a) (negsuc b) (yes e) = absurd (pos-ne-negsuc a b e)
eq_z_lt_z (pos a) (negsuc b) (no g) = refl
eq_z_lt_z (negsuc a) (pos b) (yes e) = absurd (pos-ne-negsuc b a (sym e))
eq_z_lt_z (negsuc a) (pos b) (no g) = refl
eq_z_lt_z (negsuc a) (negsuc b) (yes e) = let i : suc b ≡ suc a = ap nat_abs (sym e) in sym (eq-eqb b a (omega arith)) ∙ eqb_ltb b a
eq_z_lt_z (negsuc a) (negsuc b) (no g) = sym (ne_eqb b a (λ e. g (ap negsuc (sym e)))) ∙ eqb_ltb b a

-- the order is that of the difference
less_sign : (t : Bool) (m n : ℕ) → t ≡ not (non_neg (cond t (negsuc m) (pos n)))
less_sign true m n = refl
less_sign false m n = refl

lt_z_diff : (a b : ℤ) → lt_z a b ≡ not (non_neg (a -ℤ b))
lt_z_diff (pos a) (pos zero) = le-ltb a 0 (omega arith)
lt_z_diff (pos a) (pos (suc b)) = less_sign (ltb a (suc b)) _ _
lt_z_diff (pos a) (negsuc b) = refl
lt_z_diff (negsuc a) (pos zero) = sym (lt-ltb 0 (suc a) (omega arith)) ∙ less_sign (ltb 0 (suc a)) _ _
lt_z_diff (negsuc a) (pos (suc b)) = refl
lt_z_diff (negsuc a) (negsuc b) = sym (leb-suc-suc (suc b) a) ∙ less_sign (ltb (suc b) (suc a)) _ _

pub lt_z_moved : (a b d : ℤ) → lt_z (a +ℤ d) (b +ℤ d) ≡ lt_z a b
lt_z_moved a b d = lt_z_diff (a +ℤ d) (b +ℤ d) ∙ ap (λ (z : ℤ). not (non_neg z)) (diff_moved a b d) ∙ sym (lt_z_diff a b)

-- ---- zeros of either sign
pub lt_exact : (x y : Float) (a b : ℤ) → EqualsWhole x a → EqualsWhole y b → lt x y ≡ lt_z a b
lt_exact x y a b h k =
    lt_values x y h.sign h.size k.sign k.size 1 (lit< tt) h.value k.value
    ∙ rw (below_lt_z h.sign h.size k.sign k.size, h.is, k.is)

module _ (x y : Float) (a b : ℤ) (h : EqualsWhole x a) (k : EqualsWhole y b) where
  pub le_exact : le x y ≡ le_z a b
  le_exact = le_not_lt x y (equals_number x a h) (equals_number y b k) ∙ rw (lt_exact y x b a k h) (sym (le_z_lt_z a b))

  pub eq_exact : eq x y ≡ decide (ℤ_discrete a b)
  eq_exact =
      eq_not_lt x y (equals_number x a h) (equals_number y b k)
      ∙ rw (lt_exact x y a b h k, lt_exact y x b a k h) (sym (eq_z_lt_z a b (ℤ_discrete a b)))

-- ---- no -0
module _ (x y : Float) (a b : ℤ) (h : IsWhole x a) (k : IsWhole y b) where
  pub lt_whole : lt x y ≡ lt_z a b
  lt_whole = lt_exact x y a b (whole_equals x a h) (whole_equals y b k)

  pub eq_whole : eq x y ≡ decide (ℤ_discrete a b)
  eq_whole = eq_exact x y a b (whole_equals x a h) (whole_equals y b k)

-- ---- between the bounds -c and c
upper : (a : ℤ) (c : ℕ) → nat_abs a ≤ c → T (le_z a (pos c))
upper (pos n) c l = le→leb n c l
upper (negsuc n) c l = tt

module _ (x y : Float) (a : ℤ) (c : ℕ) (h : EqualsWhole x a) (l : nat_abs a ≤ c) where
  pub under_bound : EqualsWhole y (pos c) → T (le x y)
  under_bound k = rw (le_exact x y a (pos c) h k) (upper a c l)

-- ---- moved by one integer
module _ (x y x' y' : Float) (a b d : ℤ) (h : IsWhole x a) (k : IsWhole y b) (h' : IsWhole x' (a +ℤ d)) (k' : IsWhole y' (b +ℤ d)) where
  pub lt_moved : lt x' y' ≡ lt x y
  lt_moved = lt_whole x' y' (a +ℤ d) (b +ℤ d) h' k' ∙ lt_z_moved a b d ∙ sym (lt_whole x y a b h k)

  pub eq_moved : eq x' y' ≡ eq x y
  eq_moved =
      eq_whole x' y' (a +ℤ d) (b +ℤ d) h' k' ∙ eq_z_lt_z (a +ℤ d) (b +ℤ d) (ℤ_discrete (a +ℤ d) (b +ℤ d))
      ∙ rw (lt_z_moved a b d, lt_z_moved b a d) (sym (eq_z_lt_z a b (ℤ_discrete a b)))
      ∙ sym (eq_whole x y a b h k)
