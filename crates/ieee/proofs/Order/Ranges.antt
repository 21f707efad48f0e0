-- A conversion to an integer at the ends of its range and within it. Assumes nothing.
use mathlib.Core.Path.{◌≡◌, refl, sym, ap, ◌∙◌}
use mathlib.Core.Bool.{Bool, true, false, not, cond, true≢false, false≢true}
use Prim.Native.Nat.{ℕ, ◌+◌, ◌-◌, ◌*◌, ◌/◌, ◌^◌, ◌≤◌, ◌<◌, min}
use native.Mathlib.Nat.{le_of_lt, lt_of_lt_of_le, mul-pos, le-div_iff_mul-le}
use native.Mathlib.Omega.{arith}
use borrow.Author.Tests.{lt-ltb, ltb-false}
use lib.IntN.{ℤ, pos, neg_ℤ}
use lib.Pow.{pow_mono, pow_pos}
use lib.Ieee.{Float, nan, inf, fin, up, down, lt, le, eq, ne, is_nan, to_signed, to_unsigned}
use lib.Ieee.Exact.{HasValue}
use lib.Ieee.Fits.{down_pos}
use lib.Ieee.Casts.{to_signed_in}
use mir.Syntax.{Width}
use mir.Val.{SFits, hbits, of_z, to_z}
use mir.ValLaws.{to_z-of_z}
use Rattle.ieee.specs.Integral.{cut}
use Rattle.ieee.specs.inner.Wholes.{signed}
use Rattle.ieee.proofs.Numbers.Wholes.{whole_same}
use Rattle.ieee.proofs.Order.Comparison.{lt_not_le}
use Rattle.ieee.proofs.Patterns.Nan.{is_nan_lem, ne_self}

-- ---- sizes against 2 ^ k, from the products that `lt` and `le` compare
module _ (k m : ℕ) (e : ℤ) where
  size_ge : 1 * 2 ^ k * down e ≤ m * up e * 1 → 2 ^ k ≤ m * up e / down e
  size_ge h = (le-div_iff_mul-le (down_pos e)).1 (omega arith)

  one_pos : 0 < 1 * 2 ^ k * down e
  one_pos = mul-pos (mul-pos (pow_pos 0) (pow_pos k)) (down_pos e)

min_end : (a c d : ℕ) → c ≤ a → d ≤ c → min a d ≡ d
min_end a c d h k = omega arith

min_below : (a d : ℕ) → a ≤ d → min a d ≡ a
min_below a d h = omega arith

-- a / c is the size, so its whole part is too
pub same_size : (m : ℕ) (e : ℤ) (s t : Bool) (a c : ℕ) → 0 < c → HasValue (fin t m e) s a c → m * up e / down e ≡ a / c
same_size m e s t a c C v = whole_same cut (m * up e) (down e) a c (down_pos e) C v.1

-- `lt` for `le`, whose comparison of products is one
lt_for_le : (k : ℕ) (s : Bool) (m : ℕ) (e : ℤ) → lt (fin s m e) (fin false 1 (pos k)) ≡ not (le (fin false 1 (pos k)) (fin s m e))
unfolding is_nan
lt_for_le k s m e = lt_not_le (fin false 1 (pos k)) (fin s m e) tt tt

-- ---- the ends
-- x has the sign s and the size n at least
abbrev pub Reaches : ℕ → Bool → Float → Type 0
Reaches n s nan = ⊥
Reaches n s (inf t) = t ≡ s
Reaches n s (fin t m e) = (t ≡ s) × (n ≤ m * up e / down e)

pub reaches_above : (k : ℕ) (x : Float) → le (fin false 1 (pos k)) x ≡ true → Reaches (2 ^ k) false x
unfolding lt le eq
reaches_above k nan h = absurd (false≢true h)
reaches_above k (inf true) h = absurd (false≢true h)
reaches_above k (inf false) h = refl
reaches_above k (fin true m e) h =
    let none = ltb-false 0 (m * up e * 1 + 1 * 2 ^ k * down e) (lt_for_le k true m e ∙ ap not h) in
    absurd (omega (arith, one_pos k m e))
reaches_above k (fin false m e) h = (refl, size_ge k m e (ltb-false _ _ (lt_for_le k false m e ∙ ap not h)))

pub reaches_value : (n : ℕ) (x : Float) (s : Bool) (a c : ℕ) → 0 < c → HasValue x s a c → n * c ≤ a → Reaches n s x
reaches_value n nan s a c C v l = absurd v
reaches_value n (inf t) s a c C v l = absurd v
reaches_value n (fin t m e) s a c C v l = (v.0, rw (same_size m e s t a c C v) ((le-div_iff_mul-le C).1 l))

pub signed_end : (h : ℕ) (s : Bool) (x : Float) → Reaches (2 ^ h) s x → to_signed h x ≡ cond s (neg_ℤ (pos (2 ^ h))) (pos (2 ^ h - 1))
unfolding to_signed
signed_end h s nan r = absurd r
signed_end h s (inf t) r = rw r
signed_end h true (fin t m e) r = rw (r.0, min_end (m * up e / down e) (2 ^ h) (2 ^ h) r.1 (omega arith))
signed_end h false (fin t m e) r = rw (r.0, min_end (m * up e / down e) (2 ^ h) (2 ^ h - 1) r.1 (omega arith))

pub unsigned_end : (w : ℕ) (x : Float) → Reaches (2 ^ w) false x → to_unsigned w x ≡ 2 ^ w - 1
unfolding to_unsigned
unsigned_end w nan r = absurd r
unsigned_end w (inf t) r = rw r
unsigned_end w (fin t m e) r = rw (r.0, min_end (m * up e / down e) (2 ^ w) (2 ^ w - 1) r.1 (omega arith))

-- a NaN fails the test too
pub unsigned_low : (w : ℕ) (x : Float) → lt (fin true 1 (pos 0)) x ≡ false → to_unsigned w x ≡ 0
unfolding lt to_unsigned
unsigned_low w nan h = refl
unsigned_low w (inf true) h = refl
unsigned_low w (inf false) h = absurd (true≢false h)
unsigned_low w (fin true m e) h = refl
unsigned_low w (fin false m e) h = absurd (true≢false (sym (lt-ltb 0 (1 * 1 * down e + m * up e * 1) (omega (arith, down_pos e))) ∙ h))

pub signed_nan : (h : ℕ) (x : Float) → ne x x ≡ true → to_signed h x ≡ pos 0
unfolding to_signed
signed_nan h x t = ap (to_signed h) (is_nan_lem x (sym (ne_self x) ∙ t))

-- ---- within the range, the fraction is dropped
pub signed_cut : (h : ℕ) (x : Float) (s : Bool) (a c : ℕ) → 0 < c → HasValue x s a c → a / c < 2 ^ h → to_signed h x ≡ signed s (a / c)
unfolding to_signed
signed_cut h nan s a c C v l = absurd v
signed_cut h (inf t) s a c C v l = absurd v
signed_cut h (fin t m e) s a c C v l =
    rw (v.0, same_size m e s t a c C v, min_below (a / c) (2 ^ h) (le_of_lt l), min_below (a / c) (2 ^ h - 1) (omega arith)) (either s)
  where
    either : (s : Bool) → cond s (neg_ℤ (pos (a / c))) (pos (a / c)) ≡ signed s (a / c)
    either false = refl
    either true = refl

pub unsigned_value : (w : ℕ) (x : Float) (s : Bool) (a c : ℕ) → 0 < c → HasValue x s a c
    → to_unsigned w x ≡ cond s 0 (min (a / c) (2 ^ w - 1))
unfolding to_unsigned
unsigned_value w nan s a c C v = absurd v
unsigned_value w (inf t) s a c C v = absurd v
unsigned_value w (fin t m e) s a c C v = rw (v.0, same_size m e s t a c C v)

-- ---- the answer as a word of the machine
pub signed_within : (w : Width) (h : ℕ) → h ≤ hbits w → (x : Float) → SFits w (to_signed h x)
signed_within w h p x = record { sfits = lt_of_lt_of_le (to_signed_in h x) (pow_mono p) }

-- which reads back
pub signed_read : (w : Width) (h : ℕ) → h ≤ hbits w → (x : Float) (z : ℤ) → z ≡ to_signed h x → to_z w (of_z w z) ≡ to_signed h x
signed_read w h p x z e = rw e (to_z-of_z w (to_signed h x) (signed_within w h p x))

pub signed_fits : (w : Width) (x : Float) → SFits w (to_signed (hbits w) x)
signed_fits w x = record { sfits = to_signed_in (hbits w) x }

pub signed_kept : (w : Width) (x : Float) → to_z w (of_z w (to_signed (hbits w) x)) ≡ to_signed (hbits w) x
signed_kept w x = to_z-of_z w (to_signed (hbits w) x) (signed_fits w x)
