-- The difference of two floats that are whole numbers is the integers', rounded once; so both moved by one integer have the same
-- difference. Assumes nothing.
use mathlib.Core.Path.{◌≡◌, refl, sym, ◌∙◌, ap}
use mathlib.Core.Bool.{Bool, true, false, not}
use Prim.Native.Nat.{ℕ, zero, suc, ◌*◌, ◌<◌}
use native.Mathlib.Nat.{one-mul}
use native.Mathlib.Omega.{arith}
use lib.Dec.{T, lit<}
use lib.IntN.{ℤ, pos, negsuc, neg_ℤ, nat_abs, ◌+ℤ◌, ◌-ℤ◌, +ℤ_assoc, +ℤ_comm, neg_ℤ-+ℤ, neg_ℤ-neg_ℤ, +ℤ-neg_ℤ_cancel}
use lib.Signed.{non_neg}
use lib.Ieee.{Float, Format, unlike, round, sum, sub, mul, of_int}
use lib.Ieee.Exact.{HasValue}
use Rattle.ieee.specs.WholeNumber.{IsWhole}
use Rattle.ieee.specs.inner.Wholes.{signed}
use Rattle.ieee.proofs.Values.Totals.{total_of}
use Rattle.ieee.proofs.Values.ByValue.{sub_values, mul_values}

-- ---- an integer by its sign and its size
pub signed_is : (z : ℤ) → signed (not (non_neg z)) (nat_abs z) ≡ z
signed_is (pos n) = refl
signed_is (negsuc n) = refl

pub signed_not : (s : Bool) (n : ℕ) → signed (not s) n ≡ neg_ℤ (signed s n)
signed_not false n = refl
signed_not true n = sym (neg_ℤ-neg_ℤ (pos n))

-- ---- differences and products
pub round_of_int : (f : Format) (s : Bool) (n : ℕ) → (T s → 0 < n) → round f s n 1 ≡ of_int f (signed s n)
unfolding of_int
round_of_int f false n h = refl
round_of_int f true zero h = absurd (omega (arith, h tt))
round_of_int f true (suc n) h = refl

sum_of_int : (f : Format) (s : Bool) (a : ℕ) (t : Bool) (b : ℕ) (z : ℤ) → (T s → 0 < a) → signed s a +ℤ signed t b ≡ z
    → sum f s a t b 1 ≡ of_int f z
sum_of_int f s a t b z h e =
    let r = total_of f s a t b in r.is 1 ∙ round_of_int f r.sign r.size (r.plus h) ∙ ap (of_int f) (r.total ∙ e)

-- an integer's zero is no -0
no_minus : (z : ℤ) → T (not (non_neg z)) → 0 < nat_abs z
no_minus (pos n) t = absurd t
no_minus (negsuc n) t = omega arith

module _ (f : Format) (x y : Float) (a b : ℤ) (h : IsWhole x a) (k : IsWhole y b) where
  pub sub_whole : sub f x y ≡ of_int f (a -ℤ b)
  sub_whole =
      sub_values f x y _ _ _ _ 1 (lit< tt) h k
      ∙ sum_of_int f _ _ _ _ (a -ℤ b) (no_minus a) (rw (signed_not (not (non_neg b)) (nat_abs b), signed_is a, signed_is b))

-- x is whole, and y is ±b / c
pub mul_whole : (f : Format) (x y : Float) (z : ℤ) (t : Bool) (b c : ℕ) → 0 < c → IsWhole x z → HasValue y t b c
    → mul f x y ≡ round f (unlike (not (non_neg z)) t) (nat_abs z * b) c
mul_whole f x y z t b c C h k = mul_values f x y (not (non_neg z)) (nat_abs z) 1 t b c (lit< tt) C h k ∙ rw (one-mul c)

-- ---- moved by one integer
pub diff_moved : (a b d : ℤ) → (a +ℤ d) -ℤ (b +ℤ d) ≡ a -ℤ b
diff_moved a b d = rw (neg_ℤ-+ℤ b d, +ℤ_comm (neg_ℤ b) (neg_ℤ d), ← +ℤ_assoc (a +ℤ d) (neg_ℤ d) (neg_ℤ b), +ℤ-neg_ℤ_cancel a d)

pub sub_moved : (f : Format) (x y x' y' : Float) (a b d : ℤ) → IsWhole x a → IsWhole y b → IsWhole x' (a +ℤ d) → IsWhole y' (b +ℤ d)
    → sub f x' y' ≡ sub f x y
sub_moved f x y x' y' a b d h k h' k' =
    sub_whole f x' y' (a +ℤ d) (b +ℤ d) h' k' ∙ ap (of_int f) (diff_moved a b d) ∙ sym (sub_whole f x y a b h k)
