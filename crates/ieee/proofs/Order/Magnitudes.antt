-- A magnitude is below m where the float is, and the other sign of it too. Assumes nothing.
use mathlib.Core.Path.{◌≡◌, refl, sym, ◌∙◌}
use mathlib.Core.Bool.{Bool, true, false, not, ◌&&◌, and-false, and-true}
use Prim.Native.Nat.{ℕ, ◌+◌, ◌*◌}
use native.Mathlib.Decide.{dec_lt}
use native.Mathlib.Omega.{arith}
use borrow.Author.Tests.{le-ltb, lt-ltb}
use lib.Ieee.{Float, nan, inf, fin, up, down, below, neg, lt}
use Rattle.ieee.specs.Magnitude.{magnitude}

-- -a is below b where a is
both : (a : ℕ) (t : Bool) (b : ℕ) → below false a t b ≡ (below false a t b && below true a t b)
both a true b = refl
both a false b = elim (dec_lt a b) [ yes h ↦ rw (lt-ltb a b h, lt-ltb 0 (a + b) (omega arith)) | no h ↦ rw (le-ltb a b (omega arith)) ]

and_comm : (p q : Bool) → (p && q) ≡ (q && p)
and_comm true q = sym (and-true q)
and_comm false q = sym (and-false q)

same : (p : Bool) → p ≡ (p && p)
same true = refl
same false = refl

pub magnitude_below : (x m : Float) → lt (magnitude x) m ≡ (lt x m && lt (neg x) m)
unfolding lt neg magnitude
magnitude_below nan m = refl
magnitude_below (inf true) nan = refl
magnitude_below (inf false) nan = refl
magnitude_below (inf true) (inf t) = sym (and-false (not t))
magnitude_below (inf false) (inf t) = refl
magnitude_below (inf true) (fin t n d) = refl
magnitude_below (inf false) (fin t n d) = refl
magnitude_below (fin s k e) nan = refl
magnitude_below (fin s k e) (inf t) = same (not t)
magnitude_below (fin false k e) (fin t n d) = both (k * up e * down d) t (n * up d * down e)
magnitude_below (fin true k e) (fin t n d) =
    let a = k * up e * down d in
    let b = n * up d * down e in
    both a t b ∙ and_comm (below false a t b) (below true a t b)
