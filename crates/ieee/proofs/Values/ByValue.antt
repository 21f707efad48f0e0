-- An operation on finite floats goes by their values alone, whatever fractions these are written as. Assumes nothing.
use mathlib.Core.Path.{◌≡◌, refl, sym, ◌∙◌, ap}
use mathlib.Core.Bool.{Bool, true, false, not, ◌&&◌, ◌||◌}
use Prim.Native.Nat.{ℕ, ◌+◌, ◌-◌, ◌*◌, ◌<◌}
use native.Mathlib.Nat.{add-mul, mul_assoc, mul_comm, mul-mul-mul_comm, mul-pos, mul_right_comm, zero-mul}
use native.Mathlib.Omega.{arith}
use borrow.Author.Tests.{ne_eqb}
use lib.Dec.{T, ltb, eqb}
use lib.IntN.{ℤ}
use lib.Ieee.{Float, nan, inf, fin, Format, up, down, unlike, round, sum, add, sub, mul, div, neg, below, level, lt, eq, le, is_nan}
use lib.Ieee.Exact.{HasValue}
use lib.Ieee.Fits.{down_pos}
use lib.Ieee.Positive.{first_pos}
use lib.Ieee.Scale.{round_same}
use Rattle.ieee.specs.Magnitude.{magnitude}
use Rattle.ieee.specs.Rounded.{rounded}
use Rattle.ieee.proofs.Numbers.Scales.{eqb_scaled, ltb_scaled, sub_scaled}

-- ---- a common factor goes away
-- F of a / c and b / c stands such a factor, so it goes by the fractions' values
module _ {X : Type 0} (F : ℕ → ℕ → ℕ → X) (scaled : (a b c k : ℕ) → 0 < c → 0 < k → F (a * k) (b * k) (c * k) ≡ F a b c) where
  same : (a b c a' b' c' : ℕ) → 0 < c → 0 < c' → a * c' ≡ a' * c → b * c' ≡ b' * c → F a b c ≡ F a' b' c'
  same a b c a' b' c' C C' p q = sym (scaled a b c c' C C') ∙ rw (p, q, mul_comm c c') (scaled a' b' c' c C' C)

  crossed : (m n : ℕ) (e d : ℤ) (a b c : ℕ) → 0 < c → m * up e * c ≡ a * down e → n * up d * c ≡ b * down d
      → F (m * up e * down d) (n * up d * down e) (down e * down d) ≡ F a b c
  crossed m n e d a b c C p q =
      same (m * up e * down d) (n * up d * down e) (down e * down d) a b c (mul-pos (down_pos e) (down_pos d)) C
      (mul_right_comm (m * up e) (down d) c ∙ rw p (mul_assoc a (down e) (down d)))
      (mul_right_comm (n * up d) (down e) c ∙ rw (q, mul_comm (down e) (down d)) (mul_assoc b (down d) (down e)))

round_scaled : (f : Format) (s : Bool) (a c k : ℕ) → 0 < c → 0 < k → round f s (a * k) (c * k) ≡ round f s a c
round_scaled f s a c k C K = round_same f s (a * k) (c * k) a c (mul-pos C K) C (mul_right_comm a k c ∙ mul_assoc a c k)

sum_scaled : (f : Format) (s t : Bool) (a b c k : ℕ) → 0 < c → 0 < k → sum f s (a * k) t (b * k) (c * k) ≡ sum f s a t b c
unfolding sum
sum_scaled f s t a b c k C K =
    let more = round_scaled f (s && ltb b a) (a - b) c k C K in
    let less = round_scaled f t (b - a) c k C K in
    let both = round_scaled f s (a + b) c k C K in
    rw (ltb_scaled a b k K, ltb_scaled b a k K, ← add-mul a b k, sub_scaled b a k, sub_scaled a b k, both, less, more)

below_scaled : (s t : Bool) (a b k : ℕ) → 0 < k → below s (a * k) t (b * k) ≡ below s a t b
below_scaled false false a b k K = ltb_scaled a b k K
below_scaled false true a b k K = refl
below_scaled true false a b k K = rw (← add-mul a b k) (rw (zero-mul k) at (ltb_scaled 0 (a + b) k K))
below_scaled true true a b k K = ltb_scaled b a k K

level_scaled : (s t : Bool) (a b k : ℕ) → 0 < k → level s (a * k) t (b * k) ≡ level s a t b
level_scaled s t a b k K =
    let z : eqb (a * k) 0 ≡ eqb a 0 = rw (zero-mul k) at (eqb_scaled a 0 k K) in
    rw (eqb_scaled a b k K, z)

-- ---- the values
pub scale_value : (x : Float) (s : Bool) (a c k : ℕ) → HasValue x s a c → HasValue x s (a * k) (c * k)
scale_value nan s a c k h = h
scale_value (inf t) s a c k h = h
scale_value (fin t m e) s a c k h = (h.0, sym (mul_assoc (m * up e) c k) ∙ rw h.1 (mul_right_comm a (down e) k))

pub neg_value : (x : Float) (s : Bool) (a c : ℕ) → HasValue x s a c → HasValue (neg x) (not s) a c
unfolding neg
neg_value nan s a c h = h
neg_value (inf t) s a c h = h
neg_value (fin t m e) s a c h = (ap not h.0, h.1)

pub magnitude_value : (x : Float) (s : Bool) (a c : ℕ) → HasValue x s a c → HasValue (magnitude x) false a c
unfolding magnitude
magnitude_value nan s a c h = h
magnitude_value (inf t) s a c h = h
magnitude_value (fin t m e) s a c h = (refl, h.1)

pub value_number : (x : Float) (s : Bool) (a c : ℕ) → HasValue x s a c → T (not (is_nan x))
unfolding is_nan
value_number nan s a c h = h
value_number (inf t) s a c h = tt
value_number (fin t m e) s a c h = tt

-- so x is finite
written : (x : Float) (s : Bool) (a c : ℕ) → HasValue x s a c → (m : ℕ) × (e : ℤ) × (x ≡ fin s m e) × (m * up e * c ≡ a * down e)
written nan s a c h = absurd h
written (inf t) s a c h = absurd h
written (fin t m e) s a c h = (m, e, ap (λ (u : Bool). fin u m e) h.0, h.1)

-- ---- of x = ±a / c and y = ±b / c
module _ (x y : Float) (s : Bool) (a : ℕ) (t : Bool) (b c : ℕ) (C : 0 < c) (h : HasValue x s a c) (k : HasValue y t b c) where
  abbrev p : (m : ℕ) × (e : ℤ) × (x ≡ fin s m e) × (m * up e * c ≡ a * down e)
  p = written x s a c h

  abbrev q : (n : ℕ) × (d : ℤ) × (y ≡ fin t n d) × (n * up d * c ≡ b * down d)
  q = written y t b c k

  pub lt_values : lt x y ≡ below s a t b
  unfolding lt
  lt_values =
      rw (p.2, q.2) (crossed (λ i j l. below s i t j) (λ i j l r L. below_scaled s t i j r) p.0 q.0 p.1 q.1 a b c C
      p.3 q.3)

  pub eq_values : eq x y ≡ level s a t b
  unfolding eq
  eq_values =
      rw (p.2, q.2) (crossed (λ i j l. level s i t j) (λ i j l r L. level_scaled s t i j r) p.0 q.0 p.1 q.1 a b c C
      p.3 q.3)

  pub le_values : le x y ≡ (below s a t b || level s a t b)
  unfolding le
  le_values = rw (lt_values, eq_values)

pub add_values : (f : Format) (x y : Float) (s : Bool) (a : ℕ) (t : Bool) (b c : ℕ) → 0 < c → HasValue x s a c → HasValue y t b c
    → add f x y ≡ sum f s a t b c
unfolding add
add_values f x y s a t b c C h k =
    let p = written x s a c h in
    let q = written y t b c k in
    rw (p.2, q.2) (crossed (λ i j l. sum f s i t j l) (sum_scaled f s t) p.0 q.0 p.1 q.1 a b c C p.3 q.3)

pub sub_values : (f : Format) (x y : Float) (s : Bool) (a : ℕ) (t : Bool) (b c : ℕ) → 0 < c → HasValue x s a c → HasValue y t b c
    → sub f x y ≡ sum f s a (not t) b c
unfolding sub
sub_values f x y s a t b c C h k = add_values f x (neg y) s a (not t) b c C h (neg_value y t b c k)

-- ---- of x = ±a / c and y = ±b / d
module _ (f : Format) (x y : Float) (s : Bool) (a c : ℕ) (t : Bool) (b d : ℕ) (C : 0 < c) (D : 0 < d) (h : HasValue x s a c)
    (k : HasValue y t b d) where
  pub mul_values : mul f x y ≡ round f (unlike s t) (a * b) (c * d)
  unfolding mul
  mul_values =
      let p = written x s a c h in
      let q = written y t b d k in
      let m = p.0 * up p.1 in
      let n = q.0 * up q.1 in
      rw (p.2, q.2)
      (round_same f (unlike s t) (m * n) (down p.1 * down q.1) (a * b) (c * d) (mul-pos (down_pos p.1) (down_pos q.1))
      (mul-pos C D)
      (mul-mul-mul_comm m n c d ∙ rw (p.3, q.3) (mul-mul-mul_comm a (down p.1) b (down q.1))))

  pub div_values : 0 < b → div f x y ≡ round f (unlike s t) (a * d) (b * c)
  unfolding div
  div_values B =
      let p = written x s a c h in
      let q = written y t b d k in
      let m = p.0 * up p.1 in
      let n = q.0 * up q.1 in
      let N : 0 < n = first_pos n d (rw q.3 (mul-pos B (down_pos q.1))) in
      rw (p.2, q.2, ne_eqb q.0 0 (λ z. omega (arith, first_pos q.0 (up q.1) N)))
      (round_same f (unlike s t) (m * down q.1) (n * down p.1) (a * d) (b * c) (mul-pos N (down_pos p.1)) (mul-pos B C)
      (mul_assoc m (down q.1) (b * c) ∙ crossing m (down q.1) b c a (down p.1) n d p.3 q.3))
    where
      crossing : (m g b c a e n d : ℕ) → m * c ≡ a * e → n * d ≡ b * g → m * (g * (b * c)) ≡ a * d * (n * e)
      crossing m g b c a e n d u v =
          let l : m * (g * (b * c)) ≡ m * c * (b * g) = omega arith in
          let r : a * e * (n * d) ≡ a * d * (n * e) = omega arith in
          l ∙ rw (u, ← v) r

pub rounded_values : (f : Format) (x : Float) (s : Bool) (a c : ℕ) → 0 < c → HasValue x s a c → rounded f x ≡ round f s a c
unfolding rounded
rounded_values f x s a c C h =
    let p = written x s a c h in rw p.2 (round_same f s (p.0 * up p.1) (down p.1) a c (down_pos p.1) C p.3)
