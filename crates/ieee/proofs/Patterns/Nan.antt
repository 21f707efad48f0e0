-- Where a NaN is: a test `x != x` finds it, and its pattern lies above that of infinity. Assumes nothing.
use mathlib.Core.Path.{◌≡◌, refl, sym, ap, ◌∙◌, subst}
use Prim.Native.Nat.{ℕ, ◌+◌, ◌*◌, ◌/◌, ◌%◌, ◌<◌, ◌≤◌}
use native.Mathlib.Nat.{not-le_of_lt}
use mathlib.Core.Bool.{Bool, true, false, not, false≢true}
use lib.Dec.{T, ltb, ltb→lt, lt→ltb, not_T}
use lib.Ieee.{Float, nan, inf, fin, Format, hid, ones, top, ne, is_nan, nan_bits, of_bits, to_bits}
use lib.Ieee.Bits.{is_true, is_false, nan_bits_is, nan_bits_above}
use lib.Ieee.Compare.{differs_from_itself}

-- ---- the test
pub ne_self : (x : Float) → ne x x ≡ is_nan x
unfolding ne is_nan
ne_self nan = refl
ne_self (inf true) = refl
ne_self (inf false) = refl
ne_self (fin s m e) =
    is_false (ne (fin s m e) (fin s m e))
    (not_T (ne (fin s m e) (fin s m e)) (λ t. false≢true (ap is_nan (differs_from_itself (fin s m e) t))))

pub is_nan_lem : (x : Float) → is_nan x ≡ true → x ≡ nan
unfolding is_nan
is_nan_lem nan h = refl
is_nan_lem (inf s) h = absurd (false≢true h)
is_nan_lem (fin s m e) h = absurd (false≢true h)

pub same_no_nan : (x : Float) → ne x x ≡ false → T (not (is_nan x))
same_no_nan x h = subst (λ (t : Bool). T (not t)) (sym h ∙ ne_self x) tt

-- the one pattern that is written for a NaN
pub differs_bits : (f : Format) (x : Float) → ne x x ≡ true → ones f * hid f + hid f / 2 ≡ to_bits f x
unfolding to_bits
differs_bits f x h = ap (to_bits f) (sym (is_nan_lem x (sym (ne_self x) ∙ h)))

-- ---- the pattern
pub above_inf : (f : Format) (b : ℕ) → ones f * hid f < b % top f → of_bits f b ≡ nan
above_inf f b h =
    is_nan_lem (of_bits f b)
    (sym (nan_bits_is f b) ∙ nan_bits_above f b ∙ is_true (ltb (ones f * hid f) (b % top f)) (lt→ltb (ones f * hid f) (b % top f) h))

pub up_to_inf : (f : Format) (b : ℕ) → b % top f ≤ ones f * hid f → T (not (nan_bits f b))
up_to_inf f b h =
    subst (λ (t : Bool). T (not t)) (sym (nan_bits_above f b))
    (not_T (ltb (ones f * hid f) (b % top f)) (λ t. not-le_of_lt (ltb→lt (ones f * hid f) (b % top f) t) h))
