-- Floats up to a whole number on one side of zero: sums, products by what is not below zero, and differences keep to it, whatever they do
-- on the other side. Assumes nothing.
use Rattle.std.proofs.Common.{◌≡◌, ℕ, ◌+◌, ◌*◌, ◌<◌, ◌≤◌, Bool, true, false, not, T, ℤ, sym, refl, ap, ◌∙◌, subst, zero-le, mul-le-mul_right, mul-le-mul, mul-pos, arith}
use lib.Ieee.{Float, nan, inf, fin, Format, up, down, unlike, neg, round, sum, add, sub, mul, le}
use lib.Ieee.Fits.{down_pos}
use lib.Ieee.Positive.{num, den}
use lib.Ieee.Scale.{finite}
use Rattle.ieee.proofs.Order.Ranks.{rank}
use Rattle.ieee.proofs.Order.Signed.{AtMost, at_most}
use Rattle.ieee.proofs.Patterns.Signs.{round_neg}
use Rattle.ieee.proofs.Values.Totals.{total_of}
use Rattle.sums.specs.inner.Plus.{plus}
use Rattle.sums.proofs.Plus.{plus_round}
use Rattle.sums.proofs.Within.{Within, Value, within_value, zero_value}

abbrev pub is_minus : Float → Bool
is_minus nan = false
is_minus (inf s) = s
is_minus (fin s m e) = s

-- at most b in size if the sign is s; with a minus and 0: not below zero
pub record Side (s : Bool) (b : ℕ) (x : Float) : Type 0 where
  pub most : is_minus x ≡ s → num x ≤ b * den x

pub within_side : (s : Bool) (b : ℕ) (x : Float) → Within b x → Side s b x
within_side s b x w = record { most = λ e. w.small }

pub sides_within : (b : ℕ) (x : Float) → T (finite x) → ((s : Bool) → Side s b x) → Within b x
sides_within b x h w = record { finite_is = h; small = (w (is_minus x)).most refl }

pub side_neg : (s : Bool) (b : ℕ) (x : Float) → Side (not s) b x → Side s b (neg x)
unfolding neg
side_neg s b nan w = record { most = λ e. zero-le }
side_neg s b (inf t) w = record { most = λ e. zero-le }
side_neg s b (fin t m e) w = record { most = λ h. w.most (turned t s h) }
  where
    turned : (t s : Bool) → not t ≡ s → t ≡ not s
    turned true s h = ap not h
    turned false s h = ap not h

-- ---- rounding
minus_plus : (x : Float) → T (plus x) → (is_minus x ≡ false) × (is_minus (neg x) ≡ true)
unfolding neg
minus_plus nan p = absurd p
minus_plus (inf true) p = absurd p
minus_plus (inf false) p = (refl, refl)
minus_plus (fin true m e) p = absurd p
minus_plus (fin false m e) p = (refl, refl)

minus_round : (f : Format) (s : Bool) (a c : ℕ) → is_minus (round f s a c) ≡ s
minus_round f false a c = (minus_plus (round f false a c) (plus_round f a c)).0
minus_round f true a c = rw (← round_neg f false a c) (minus_plus (round f false a c) (plus_round f a c)).1

pub side_round : (f : Format) (b : ℕ) → Value f b → (s t : Bool) (a c : ℕ) → 0 < c → (t ≡ s → a ≤ b * c) → Side s b (round f t a c)
side_round f b v s t a c C h = record { most = λ e. (within_value f b v t a c C (h (sym (minus_round f t a c) ∙ e))).small }

-- ---- sums
-- in ranks, which stand n higher: z with the sign s is ±a and ±b together
sizes : (s t u : Bool) (n z a b p q : ℕ) → z ≤ n → a + b ≤ n → rank n s z + n ≡ rank n t a + rank n u b → (t ≡ s → a ≤ p)
    → (u ≡ s → b ≤ q) → z ≤ p + q
sizes false false false n z a b p q Z N e h k = omega (arith, h refl, k refl)
sizes false false true n z a b p q Z N e h k = omega (arith, h refl)
sizes false true false n z a b p q Z N e h k = omega (arith, k refl)
sizes false true true n z a b p q Z N e h k = omega arith
sizes true false false n z a b p q Z N e h k = omega arith
sizes true false true n z a b p q Z N e h k = omega (arith, k refl)
sizes true true false n z a b p q Z N e h k = omega (arith, h refl)
sizes true true true n z a b p q Z N e h k = omega (arith, h refl, k refl)

module _ (f : Format) (s : Bool) (p q : ℕ) (v : Value f (p + q)) where
  side_total : (t u : Bool) (a b c d : ℕ) → 0 < c → 0 < d → (t ≡ s → a ≤ p * c) → (u ≡ s → b ≤ q * d)
      → Side s (p + q) (sum f t (a * d) u (b * c) (c * d))
  side_total t u a b c d C D h k =
      let r = total_of f t (a * d) u (b * c) in
      let n = a * d + b * c in
      let at_n = r.placed n (omega arith) in
      rw (r.is (c * d))
      (side_round f (p + q) v s r.sign r.size (c * d) (mul-pos C D)
      (λ e. regroup r.size (sizes s t u n r.size (a * d) (b * c) (p * c * d) (q * d * c) at_n.0 (omega arith)
      (subst (λ (w : Bool). rank n w r.size + n ≡ rank n t (a * d) + rank n u (b * c)) e at_n.1)
      (λ g. mul-le-mul_right d (h g)) (λ g. mul-le-mul_right c (k g)))))
    where
      regroup : (z : ℕ) → z ≤ p * c * d + q * d * c → z ≤ (p + q) * (c * d)
      regroup z l = omega arith

  pub side_add : (x y : Float) → T (finite x) → T (finite y) → Side s p x → Side s q y → Side s (p + q) (add f x y)
  unfolding add
  side_add nan y X Y v w = absurd X
  side_add (inf t) y X Y v w = absurd X
  side_add (fin t m e) nan X Y v w = absurd Y
  side_add (fin t m e) (inf u) X Y v w = absurd Y
  side_add (fin t m e) (fin u n d) X Y v w =
      side_total t u (m * up e) (n * up d) (down e) (down d) (down_pos e) (down_pos d) v.most w.most

-- ---- a product by x, which is not below zero
module _ (f : Format) (s : Bool) (p q : ℕ) (v : Value f (p * q)) where
  pub side_mul : (x y : Float) → T (finite x) → T (finite y) → Side true 0 x → Side false p x → Side s q y → Side s (p * q) (mul f x y)
  unfolding mul
  side_mul nan y X Y l h w = absurd X
  side_mul (inf t) y X Y l h w = absurd X
  side_mul (fin t m e) nan X Y l h w = absurd Y
  side_mul (fin t m e) (inf u) X Y l h w = absurd Y
  side_mul (fin t m e) (fin u n d) X Y l h w =
      side_round f (p * q) v s (unlike t u) (m * up e * (n * up d)) (down e * down d) (mul-pos (down_pos e) (down_pos d))
      (go t u (m * up e) (n * up d) (down e) (down d) l.most h.most w.most)
    where
      regroup : (a b c d : ℕ) → a ≤ p * c → b ≤ q * d → a * b ≤ p * q * (c * d)
      regroup a b c d h k = let z = mul-le-mul h k in omega arith

      none : (a b c z : ℕ) → a ≤ 0 * c → a * b ≤ z
      none a b c z h = let e : a ≡ 0 = omega arith in rw e (omega arith)

      go : (t u : Bool) (a b c d : ℕ) → (t ≡ true → a ≤ 0 * c) → (t ≡ false → a ≤ p * c) → (u ≡ s → b ≤ q * d) → unlike t u ≡ s
          → a * b ≤ p * q * (c * d)
      go true u a b c d l h w e = none a b c (p * q * (c * d)) (l refl)
      go false true a b c d l h w e = regroup a b c d (h refl) (w e)
      go false false a b c d l h w e = regroup a b c d (h refl) (w e)

-- ---- differences
fallen : (t u : Bool) (n z a b : ℕ) → z ≤ n → a + b ≤ n → rank n false z + n ≡ rank n t a + rank n (not u) b → AtMost t a u b → z ≤ 0
unfolding AtMost
fallen false false n z a b Z N e h = omega arith
fallen false true n z a b Z N e h = omega (arith, h.0, h.1)
fallen true false n z a b Z N e h = omega arith
fallen true true n z a b Z N e h = omega arith

risen : (t u : Bool) (n z a b : ℕ) → z ≤ n → a + b ≤ n → rank n true z + n ≡ rank n t a + rank n (not u) b → AtMost u b t a → z ≤ 0
unfolding AtMost
risen false false n z a b Z N e h = omega arith
risen false true n z a b Z N e h = omega arith
risen true false n z a b Z N e h = omega (arith, h.0, h.1)
risen true true n z a b Z N e h = omega arith

module _ (f : Format) (t : Bool) (m : ℕ) (e : ℤ) (u : Bool) (n : ℕ) (d : ℤ) where
  abbrev a : ℕ
  a = m * up e * down d

  abbrev b : ℕ
  b = n * up d * down e

  by_ranks : (s : Bool) → ((z : ℕ) → z ≤ a + b → rank (a + b) s z + (a + b) ≡ rank (a + b) t a + rank (a + b) (not u) b → z ≤ 0)
      → Side s 0 (sub f (fin t m e) (fin u n d))
  unfolding sub add neg
  by_ranks s none =
      let r = total_of f t a (not u) b in
      let at_n = r.placed (a + b) (omega arith) in
      rw (r.is (down e * down d))
      (side_round f 0 (zero_value f) s r.sign r.size (down e * down d) (mul-pos (down_pos e) (down_pos d))
      (λ g. omega (
        arith,
        none r.size at_n.0 (subst
            (λ (w : Bool). rank (a + b) w r.size + (a + b) ≡ rank (a + b) t a + rank (a + b) (not u) b) g at_n.1),
      )))

  lesser : T (le (fin t m e) (fin u n d)) → Side false 0 (sub f (fin t m e) (fin u n d))
  unfolding le
  lesser l = by_ranks false (λ z Z g. fallen t u (a + b) z a b Z (omega arith) g (at_most t a u b l))

  greater : T (le (fin u n d) (fin t m e)) → Side true 0 (sub f (fin t m e) (fin u n d))
  unfolding le
  greater l = by_ranks true (λ z Z g. risen t u (a + b) z a b Z (omega arith) g (at_most u b t a l))

-- a number less one that is no less is not above zero; less one that is no greater it is not below zero
pub sub_sides : (f : Format) (x y : Float) → T (finite x) → T (finite y)
    → (T (le x y) → Side false 0 (sub f x y)) × (T (le y x) → Side true 0 (sub f x y))
sub_sides f nan y X Y = absurd X
sub_sides f (inf t) y X Y = absurd X
sub_sides f (fin t m e) nan X Y = absurd Y
sub_sides f (fin t m e) (inf u) X Y = absurd Y
sub_sides f (fin t m e) (fin u n d) X Y = (lesser f t m e u n d, greater f t m e u n d)
