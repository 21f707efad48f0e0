-- Parents and labels: what hanging a triangle two steps higher, or a root on a root, does to the labels; and labels made one. Assumes
-- nothing.
use mathlib.Core.Path.{◌≡◌, refl, sym, ap, ◌∙◌, subst}
use mathlib.Core.Logic.{◌≢◌}
use mathlib.Core.Bool.{cond}
use Prim.Native.Nat.{ℕ, ◌≤◌, ◌<◌, min, max}
use native.Mathlib.Omega.{arith}
use native.Mathlib.Decide.{ℕ_discrete, dec_lt}
use borrow.Author.Tests.{eq-eqb, ne_eqb}
use lib.Dec.{eqb}
use Rattle.forest.specs.inner.Labels.{LabelledBy, merged}

module _ (n : ℕ) (p q f : ℕ → ℕ) (m : LabelledBy n p f) where
  -- a triangle is hung two steps higher
  pub halved : (x : ℕ) → x < n → q x ≡ p (p x) → ((i : ℕ) → i ≢ x → q i ≡ p i) → LabelledBy n q f
  halved x l here else =
      record {
        down = λ i h. by i (λ j. q j ≤ j) (λ _. omega (arith, at_x.0, at_x.1)) (λ ne. omega (arith, else i ne, m.down i h));
        same = λ i h. by i (λ j. f (q j) ≡ f j) (λ _. ap f here ∙ m.same (p x) px ∙ m.same x l) (λ ne. ap f (else i ne) ∙ m.same i h);
        least = m.least;
        top = λ i h. by (f i) (λ j. p j ≡ j → q j ≡ j) (λ _ e. here ∙ ap p e ∙ e) (λ ne e. else (f i) ne ∙ e) (m.top i h);
        own =
            λ i h. by i (λ j. q j ≡ j → f j ≡ j) (λ _ e. m.own x l (omega (arith, here, at_x.0, at_x.1)))
            (λ ne e. m.own i h (sym (else i ne) ∙ e));
      }
    where
      px : p x < n
      px = omega (arith, m.down x l)

      at_x : (q x ≤ p x) × (p x ≤ x)
      at_x = (omega (arith, here, m.down (p x) px), m.down x l)

      by : (i : ℕ) (P : ℕ → Type 0) → (i ≡ x → P x) → (i ≢ x → P i) → P i
      by i P a b = elim (ℕ_discrete i x) [ yes e ↦ subst P (sym e) (a e) | no ne ↦ b ne ]

  -- root s is hung on root r
  pub hung : (r s : ℕ) → r < n → s < n → f r ≡ r → f s ≡ s → r ≤ s → q s ≡ r → ((i : ℕ) → i ≢ s → q i ≡ p i)
      → LabelledBy n q (λ x. cond (eqb (f x) s) r (f x))
  hung r s lr ls fr fs le here else =
      record {
        down = λ i h. by i (λ j. q j ≤ j) (λ _. omega (arith, here)) (λ ne. omega (arith, else i ne, m.down i h));
        same =
            λ i h. by i (λ j. g (q j) ≡ g j) (λ _. ap g here ∙ g_r ∙ sym g_s)
            (λ ne. ap g (else i ne) ∙ ap (λ (z : ℕ). cond (eqb z s) r z) (m.same i h));
        least =
            λ i h. by (f i) (λ j. j ≤ i → cond (eqb j s) r j ≤ i) (λ _ k. rw (eq-eqb s s refl) (omega arith))
            (λ ne k. rw (ne_eqb (f i) s ne) k) (m.least i h);
        top =
            λ i h. by (f i) (λ j. p j ≡ j → q (cond (eqb j s) r j) ≡ cond (eqb j s) r j) (λ _ k. rw (eq-eqb s s refl) root_r)
            (λ ne k. rw (ne_eqb (f i) s ne) (else (f i) ne ∙ k)) (m.top i h);
        own = λ i h e. by i (λ j. q j ≡ j → g j ≡ j) (λ _ k. g_s ∙ sym here ∙ k)
            (λ ne k. let o : f i ≡ i = m.own i h (sym (else i ne) ∙ k) in ap (λ (z : ℕ). cond (eqb z s) r z) o ∙ rw (ne_eqb i s ne)) e;
      }
    where
      g : ℕ → ℕ
      g x = cond (eqb (f x) s) r (f x)

      by : (i : ℕ) (P : ℕ → Type 0) → (i ≡ s → P s) → (i ≢ s → P i) → P i
      by i P a b = elim (ℕ_discrete i s) [ yes e ↦ subst P (sym e) (a e) | no ne ↦ b ne ]

      g_s : g s ≡ r
      g_s = rw (fs, eq-eqb s s refl)

      g_r : g r ≡ r
      g_r = rw fr (elim (ℕ_discrete r s) [ yes e ↦ rw (eq-eqb r s e) | no ne ↦ rw (ne_eqb r s ne) ])

      root_r : q r ≡ r
      root_r = elim (ℕ_discrete r s) [ yes e ↦ rw e (here ∙ e) | no ne ↦ else r ne ∙ ap p (sym fr) ∙ m.top r lr ∙ fr ]

-- ---- labels made one

module _ (f : ℕ → ℕ) (a b : ℕ) where
  pub merged_up : f a ≤ f b → (x : ℕ) → merged f a b x ≡ cond (eqb (f x) (f b)) (f a) (f x)
  unfolding merged
  merged_up l x = let u : max (f a) (f b) ≡ f b = omega arith in let v : min (f a) (f b) ≡ f a = omega arith in rw (u, v)

  pub merged_down : f b ≤ f a → (x : ℕ) → merged f a b x ≡ cond (eqb (f x) (f a)) (f b) (f x)
  unfolding merged
  merged_down l x = let u : max (f a) (f b) ≡ f a = omega arith in let v : min (f a) (f b) ≡ f b = omega arith in rw (u, v)

  -- one of the two
  at_one : (x : ℕ) → (f x ≢ max (f a) (f b) → f x ≡ min (f a) (f b)) → merged f a b x ≡ min (f a) (f b)
  unfolding merged
  at_one x lesser =
      elim (ℕ_discrete (f x) (max (f a) (f b))) [
        | yes e ↦ rw (eq-eqb (f x) (max (f a) (f b)) e)
        | no ne ↦ rw (ne_eqb (f x) (max (f a) (f b)) ne) (lesser ne)
      ]

  pub merged_joins : merged f a b a ≡ merged f a b b
  merged_joins = at_one a (λ ne. omega arith) ∙ sym (at_one b (λ ne. omega arith))

  pub merged_keeps : (x y : ℕ) → f x ≡ f y → merged f a b x ≡ merged f a b y
  unfolding merged
  merged_keeps x y e = ap (λ (z : ℕ). cond (eqb z (max (f a) (f b))) (min (f a) (f b)) z) e

  -- what labels a and b alike, and each as its label, still does
  pub merged_inner : (h : ℕ → ℕ) → h (f a) ≡ h a → h (f b) ≡ h b → h a ≡ h b → (x : ℕ) → h (f x) ≡ h x → h (merged f a b x) ≡ h x
  unfolding merged
  merged_inner h ea eb e x ex =
      elim (ℕ_discrete (f x) (max (f a) (f b))) [
        | yes k ↦ rw (eq-eqb (f x) (max (f a) (f b)) k) (both ∙ ap h (sym k) ∙ ex)
        | no ne ↦ rw (ne_eqb (f x) (max (f a) (f b)) ne) ex
      ]
    where
      both : h (min (f a) (f b)) ≡ h (max (f a) (f b))
      both = elim (dec_lt (f a) (f b)) [
        | yes l ↦ let u : max (f a) (f b) ≡ f b = omega arith in let v : min (f a) (f b) ≡ f a = omega arith in rw (u, v) (ea ∙ e ∙ sym eb)
        | no l ↦ let u : max (f a) (f b) ≡ f a =
            omega arith in let v : min (f a) (f b) ≡ f b = omega arith in rw (u, v) (eb ∙ sym e ∙ sym ea)
      ]
