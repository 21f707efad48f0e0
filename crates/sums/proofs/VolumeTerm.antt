-- The volume term of a triangle with corners from 0 to 2^34 is within 2^103, not only 3 * 2^102: of the three components of the cross
-- product of two such corners one is not above zero and one is not below, since the products that they are differences of are the same six
-- numbers. Assumes nothing.
use Rattle.std.proofs.Common.{◌≡◌, ℕ, ◌*◌, ◌^◌, ◌<◌, ◌≤◌, Bool, true, false, T, ◌⊎◌, List, sym, refl, inl, inr, ⊎_elim, lt_of_le_of_lt, le_of_lt, mul-le-mul_left, mul-lt-mul_of_pos_right, mul-pos, arith, lit≤}
use mathlib.Core.Bool.{false≢true}
use native.Mathlib.Decide.{dec_lt}
use lib.Ieee.{Float, nan, inf, fin, Format, binary64, up, down, unlike, neg, sub, mul, le}
use lib.Ieee.Fits.{down_pos}
use lib.Ieee.Positive.{num, den}
use Rattle.ieee.specs.Double.{◌⊞◌, ◌⊟◌, ◌⊠◌}
use Rattle.ieee.proofs.Order.Monotone.{rises}
use Rattle.ieee.proofs.Order.Signed.{AtMost}
use Rattle.sums.specs.Facet.{at, cross, dot}
use Rattle.sums.proofs.Sides.{Side, side_add, side_mul, side_neg, sides_within, sub_sides, within_side}
use Rattle.sums.proofs.Within.{Within, power_value, within_both, within_most, within_mul, within_neg, within_sub, zero_value}

-- ---- a number from 0 to b
pub record Upto (b : ℕ) (x : Float) : Type 0 where
  pub within : Within b x
  pub above : Side true 0 x

-- ---- products of such numbers are in the order of the exact products
at_most_plus : (s t : Bool) (a b : ℕ) → (s ≡ true → a ≡ 0) → (t ≡ true → b ≡ 0) → a ≤ b → AtMost s a t b
unfolding AtMost
at_most_plus false false a b h k l = l
at_most_plus false true a b h k l = (omega (arith, k refl), k refl)
at_most_plus true false a b h k l = omega arith
at_most_plus true true a b h k l = omega (arith, h refl, k refl)

none : (s t : Bool) (a b c d k : ℕ) → (s ≡ true → a ≤ 0 * c) → (t ≡ true → b ≤ 0 * d) → unlike s t ≡ true → a * b * k ≡ 0
none true t a b c d k h g e = let z : a ≡ 0 = omega (arith, h refl) in rw z (omega arith)
none false true a b c d k h g e = let z : b ≡ 0 = omega (arith, g refl) in rw z (omega arith)
none false false a b c d k h g e = absurd (false≢true e)

products_le : (f : Format) (b : ℕ) (x y z w : Float) → Upto b x → Upto b y → Upto b z → Upto b w
    → num x * num y * (den z * den w) ≤ num z * num w * (den x * den y) → T (le (mul f x y) (mul f z w))
unfolding mul
products_le f b nan y z w X Y Z W l = absurd X.within.finite_is
products_le f b (inf s) y z w X Y Z W l = absurd X.within.finite_is
products_le f b (fin s m e) nan z w X Y Z W l = absurd Y.within.finite_is
products_le f b (fin s m e) (inf t) z w X Y Z W l = absurd Y.within.finite_is
products_le f b (fin s m e) (fin t n d) nan w X Y Z W l = absurd Z.within.finite_is
products_le f b (fin s m e) (fin t n d) (inf u) w X Y Z W l = absurd Z.within.finite_is
products_le f b (fin s m e) (fin t n d) (fin u o g) nan X Y Z W l = absurd W.within.finite_is
products_le f b (fin s m e) (fin t n d) (fin u o g) (inf v) X Y Z W l = absurd W.within.finite_is
products_le f b (fin s m e) (fin t n d) (fin u o g) (fin v p h) X Y Z W l =
    let c = down e * down d in
    let k = down g * down h in
    rises f (unlike s t) (m * up e * (n * up d)) c (unlike u v) (o * up g * (p * up h)) k (mul-pos (down_pos e) (down_pos d))
    (mul-pos (down_pos g) (down_pos h))
    (at_most_plus (unlike s t) (unlike u v) (m * up e * (n * up d) * k) (o * up g * (p * up h) * c)
    (none s t (m * up e) (n * up d) (down e) (down d) k X.above.most Y.above.most)
    (none u v (o * up g) (p * up h) (down g) (down h) c Z.above.most W.above.most) l)

-- of three numbers that multiply to the same as three others one is no greater than its other
one_no_greater : (p q r s t u : ℕ) → p * r * t ≡ q * s * u → (p ≤ q) ⊎ ((r ≤ s) ⊎ (t ≤ u))
one_no_greater p q r s t u e =
    elim (dec_lt q p) [
      | no h ↦ inl (omega arith)
      | yes h ↦
          elim (dec_lt s r) [
            | no k ↦ inr (inl (omega arith))
            | yes k ↦
                elim (dec_lt u t) [
                  | no l ↦ inr (inr (omega arith))
                  | yes l ↦
                      let more = grow (q * s) (p * r) u t (grow q p s r h k) l in
                      absurd (omega arith)
                ]
          ]
    ]
  where
    grow : (a b c d : ℕ) → a < b → c < d → a * c < b * d
    grow a b c d h k = lt_of_le_of_lt (mul-le-mul_left a (le_of_lt k)) (mul-lt-mul_of_pos_right h (omega arith))

-- ---- a component of the cross product: x y - z w, of numbers up to 2^34
abbrev ahead : Float → Float → Float → Float → ℕ
ahead x y z w = num x * num y * (den z * den w)

product_upto : (x y : Float) → Upto (2 ^ 34) x → Upto (2 ^ 34) y → Upto (2 ^ 68) (x ⊠ y)
product_upto x y X Y =
    record {
      within = within_mul binary64 34 34 x y (lit≤ tt) X.within Y.within;
      above =
          side_mul binary64 true (2 ^ 34) 0 (zero_value binary64) x y X.within.finite_is Y.within.finite_is X.above
          (within_side false (2 ^ 34) x X.within)
          Y.above;
    }

difference_side : (s : Bool) (u v : Float) → Upto (2 ^ 68) u → Upto (2 ^ 68) v → Side s (2 ^ 68) (u ⊟ v)
unfolding sub
difference_side false u v p q =
    side_add binary64 false (2 ^ 68) 0 (power_value binary64 68 (lit≤ tt)) u (neg v) p.within.finite_is
    (within_neg (2 ^ 68) v q.within).finite_is
    (within_side false (2 ^ 68) u p.within) (side_neg false 0 v q.above)
difference_side true u v p q =
    side_add binary64 true 0 (2 ^ 68) (power_value binary64 68 (lit≤ tt)) u (neg v) p.within.finite_is
    (within_neg (2 ^ 68) v q.within).finite_is
    p.above (side_neg true (2 ^ 68) v (within_side false (2 ^ 68) v q.within))

module _ (x y z w : Float) (X : Upto (2 ^ 34) x) (Y : Upto (2 ^ 34) y) (Z : Upto (2 ^ 34) z) (W : Upto (2 ^ 34) w) where
  component_within : Within (2 ^ 68) (x ⊠ y ⊟ z ⊠ w)
  component_within =
      let u = product_upto x y X Y in
      let v = product_upto z w Z W in
      sides_within (2 ^ 68) (x ⊠ y ⊟ z ⊠ w) (within_sub binary64 68 (x ⊠ y) (z ⊠ w) (lit≤ tt) u.within v.within).finite_is
      (λ s. difference_side s (x ⊠ y) (z ⊠ w) u v)

  lesser_side : ahead x y z w ≤ ahead z w x y → Side false 0 (x ⊠ y ⊟ z ⊠ w)
  lesser_side l =
      (sub_sides binary64 (x ⊠ y) (z ⊠ w) (product_upto x y X Y).within.finite_is (product_upto z w Z W).within.finite_is).0
      (products_le binary64 (2 ^ 34) x y z w X Y Z W l)

  greater_side : ahead z w x y ≤ ahead x y z w → Side true 0 (x ⊠ y ⊟ z ⊠ w)
  greater_side l =
      (sub_sides binary64 (x ⊠ y) (z ⊠ w) (product_upto x y X Y).within.finite_is (product_upto z w Z W).within.finite_is).1
      (products_le binary64 (2 ^ 34) z w x y Z W X Y l)

-- ---- corners of such numbers
pub record Octant (u : List Float) : Type 0 where
  pub x : Upto (2 ^ 34) (at u 0)
  pub y : Upto (2 ^ 34) (at u 1)
  pub z : Upto (2 ^ 34) (at u 2)

-- the same six numbers on each side
same_six : (a b c d e f p q r s t u : ℕ)
    → b * f * (r * t) * (c * d * (p * u)) * (a * e * (q * s)) ≡ c * e * (q * u) * (a * f * (r * s)) * (b * d * (p * t))
same_six a b c d e f p q r s t u = omega arith

-- one of three, each turned into what follows from it
each_turned : {A B C A' B' C' : Type 0} → (A → A') → (B → B') → (C → C') → A ⊎ (B ⊎ C) → A' ⊎ (B' ⊎ C')
each_turned f g h = ⊎_elim (λ a. inl (f a)) (⊎_elim (λ b. inr (inl (g b))) (λ c. inr (inr (h c))))

-- of the corners a b c and d e f
module _ {a b c d e f : Float} (A : Upto (2 ^ 34) a) (B : Upto (2 ^ 34) b) (C : Upto (2 ^ 34) c) (D : Upto (2 ^ 34) d)
    (E : Upto (2 ^ 34) e) (F : Upto (2 ^ 34) f) where
  six : ahead b f c e * ahead c d a f * ahead a e b d ≡ ahead c e b f * ahead a f c d * ahead b d a e
  six = same_six (num a) (num b) (num c) (num d) (num e) (num f) (den a) (den b) (den c) (den d) (den e) (den f)

  some_side : (s : Bool) → Side s 0 (b ⊠ f ⊟ c ⊠ e) ⊎ (Side s 0 (c ⊠ d ⊟ a ⊠ f) ⊎ Side s 0 (a ⊠ e ⊟ b ⊠ d))
  some_side false =
      each_turned (lesser_side b f c e B F C E) (lesser_side c d a f C D A F) (lesser_side a e b d A E B D)
      (one_no_greater (ahead b f c e) (ahead c e b f) (ahead c d a f) (ahead a f c d) (ahead a e b d) (ahead b d a e) six)
  some_side true =
      each_turned (greater_side b f c e B F C E) (greater_side c d a f C D A F) (greater_side a e b d A E B D)
      (one_no_greater (ahead c e b f) (ahead b f c e) (ahead a f c d) (ahead c d a f) (ahead b d a e) (ahead a e b d) (sym six))

-- ---- a sum of three numbers within 2^102
module _ (p q r : Float) (P : Within (2 ^ 102) p) (Q : Within (2 ^ 102) q) (R : Within (2 ^ 102) r) where
  two_within : Within (2 ^ 103) (p ⊞ q)
  two_within = within_both binary64 102 p q (lit≤ tt) P Q

  two_side : (s : Bool) → Side s 0 p ⊎ Side s 0 q → Side s (2 ^ 102) (p ⊞ q)
  two_side s (inl h) =
      side_add binary64 s 0 (2 ^ 102) (power_value binary64 102 (lit≤ tt)) p q P.finite_is Q.finite_is h (within_side s (2 ^ 102) q Q)
  two_side s (inr h) =
      side_add binary64 s (2 ^ 102) 0 (power_value binary64 102 (lit≤ tt)) p q P.finite_is Q.finite_is (within_side s (2 ^ 102) p P) h

  last : (s : Bool) → Side s 0 p ⊎ Side s 0 q → Side s (2 ^ 103) (p ⊞ q ⊞ r)
  last s h =
      side_add binary64 s (2 ^ 102) (2 ^ 102) (power_value binary64 103 (lit≤ tt)) (p ⊞ q) r two_within.finite_is R.finite_is
      (two_side s h) (within_side s (2 ^ 102) r R)

  three_side : (s : Bool) → Side s 0 p ⊎ (Side s 0 q ⊎ Side s 0 r) → Side s (2 ^ 103) (p ⊞ q ⊞ r)
  three_side s (inl h) = last s (inl h)
  three_side s (inr (inl h)) = last s (inr h)
  three_side s (inr (inr h)) =
      side_add binary64 s (2 ^ 103) 0 (power_value binary64 103 (lit≤ tt)) (p ⊞ q) r two_within.finite_is R.finite_is
      (within_side s (2 ^ 103) (p ⊞ q) two_within) h

  three_within : ((s : Bool) → Side s 0 p ⊎ (Side s 0 q ⊎ Side s 0 r)) → Within (2 ^ 103) (p ⊞ q ⊞ r)
  three_within h =
      sides_within (2 ^ 103) (p ⊞ q ⊞ r)
      (within_both binary64 103 (p ⊞ q) r (lit≤ tt) two_within (within_most (2 ^ 102) (2 ^ 103) r (lit≤ tt) R)).finite_is
      (λ s. three_side s (h s))

-- ---- the volume term
module _ (x y : Float) (X : Upto (2 ^ 34) x) (Y : Within (2 ^ 68) y) where
  term_within : Within (2 ^ 102) (x ⊠ y)
  term_within = within_mul binary64 34 68 x y (lit≤ tt) X.within Y

  term_side : (s : Bool) → Side s 0 y → Side s 0 (x ⊠ y)
  term_side s =
      side_mul binary64 s (2 ^ 34) 0 (zero_value binary64) x y X.within.finite_is Y.finite_is X.above
      (within_side false (2 ^ 34) x X.within)

pub volume_within : (w u v : List Float) → Octant w → Octant u → Octant v → Within (2 ^ 103) (dot w (cross u v))
volume_within w u v o p q =
    let n = cross u v in
    let X = component_within (at u 1) (at v 2) (at u 2) (at v 1) p.y q.z p.z q.y in
    let Y = component_within (at u 2) (at v 0) (at u 0) (at v 2) p.z q.x p.x q.z in
    let Z = component_within (at u 0) (at v 1) (at u 1) (at v 0) p.x q.y p.y q.x in
    three_within (at w 0 ⊠ at n 0) (at w 1 ⊠ at n 1) (at w 2 ⊠ at n 2)
    (term_within (at w 0) (at n 0) o.x X) (term_within (at w 1) (at n 1) o.y Y) (term_within (at w 2) (at n 2) o.z Z)
    (λ s. each_turned (term_side (at w 0) (at n 0) o.x X s) (term_side (at w 1) (at n 1) o.y Y s)
    (term_side (at w 2) (at n 2) o.z Z s) (some_side p.x p.y p.z q.x q.y q.z s))
