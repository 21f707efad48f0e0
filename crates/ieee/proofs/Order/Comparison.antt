-- The laws of order of floats, whatever the signs, the two zeros and the infinities included (IEEE 754-2019 5.11). Assumes nothing.
use mathlib.Core.Path.{◌≡◌, refl, sym, ◌∙◌, ap}
use mathlib.Core.Bool.{true, false, not, ◌&&◌, false≢true, or-true, not-not}
use mathlib.Core.Logic.{◌⊎◌, inl, inr, ⊎_elim}
use Prim.Native.Nat.{ℕ}
use native.Mathlib.Decide.{dec_lt, ℕ_discrete}
use native.Mathlib.Omega.{arith}
use borrow.Author.Tests.{lt-ltb, le-ltb, le-leb, lt-leb, eq-eqb, ne_eqb, not-false}
use lib.Dec.{T, leb, ltb, eqb, leb→le, le→leb, ltb→lt, lt→ltb, eqb→eq}
use lib.Ieee.{Float, nan, inf, fin, lt, le, eq, is_nan}
use lib.Ieee.Bits.{is_true}
use lib.Ieee.Fits.{eq→eqb}
use Rattle.ieee.proofs.Order.Ranks.{Ranks, ranks, same_test}

-- ---- one comparison by the other
pub leb_ltb : (a b : ℕ) → leb a b ≡ not (ltb b a)
leb_ltb a b = elim (dec_lt b a) [ yes h ↦ rw (lt-leb a b h, lt-ltb b a h) | no h ↦ rw (le-leb a b (omega arith), le-ltb b a (omega arith)) ]

pub eqb_ltb : (a b : ℕ) → eqb a b ≡ (not (ltb a b) && not (ltb b a))
eqb_ltb a b =
    elim (dec_lt a b) [
      | yes h ↦ rw (lt-ltb a b h, ne_eqb a b (λ e. omega arith))
      | no h ↦ rw (le-ltb a b (omega arith), ← leb_ltb a b)
          (elim (ℕ_discrete a b) [
            | yes e ↦ rw (eq-eqb a b e, le-leb a b (omega arith))
            | no e ↦ rw (ne_eqb a b e, lt-leb a b (omega arith))
          ])
    ]

pub le_not_lt : (x y : Float) → T (not (is_nan x)) → T (not (is_nan y)) → le x y ≡ not (lt y x)
le_not_lt x y p q = let r = ranks x y y p q q in r.xy.most ∙ leb_ltb r.i r.j ∙ ap not (sym r.yx.less)

pub lt_not_le : (x y : Float) → T (not (is_nan x)) → T (not (is_nan y)) → lt y x ≡ not (le x y)
lt_not_le x y p q = sym (ap not (le_not_lt x y p q) ∙ not-not (lt y x))

pub eq_not_lt : (x y : Float) → T (not (is_nan x)) → T (not (is_nan y)) → eq x y ≡ (not (lt x y) && not (lt y x))
eq_not_lt x y p q = let r = ranks x y y p q q in r.xy.same ∙ rw (r.xy.less, r.yx.less) (eqb_ltb r.i r.j)

pub lt_of_not_le : (x y : Float) → T (not (is_nan x)) → T (not (is_nan y)) → le x y ≡ false → T (lt y x)
lt_of_not_le x y p q h = rw (lt_not_le x y p q, h) tt

pub le_of_not_lt : (x y : Float) → T (not (is_nan x)) → T (not (is_nan y)) → lt y x ≡ false → T (le x y)
le_of_not_lt x y p q h = rw (not-false (le x y) (sym (lt_not_le x y p q) ∙ h)) tt

-- ---- where `<` or `<=` holds there is no NaN, and `<` holds one way only
pub lt_nan : (x : Float) → lt x nan ≡ false
unfolding lt
lt_nan nan = refl
lt_nan (inf s) = refl
lt_nan (fin s m e) = refl

pub lt_left : (x y : Float) → lt x y ≡ true → T (not (is_nan x))
unfolding is_nan lt
lt_left nan y h = absurd (false≢true h)
lt_left (inf s) y h = tt
lt_left (fin s m e) y h = tt

pub lt_right : (x y : Float) → lt x y ≡ true → T (not (is_nan y))
unfolding is_nan
lt_right x nan h = absurd (false≢true (sym (lt_nan x) ∙ h))
lt_right x (inf t) h = tt
lt_right x (fin t n d) h = tt

pub lt_asym : (x y : Float) → lt x y ≡ true → lt y x ≡ false
unfolding le
lt_asym x y h = lt_not_le x y (lt_left x y h) (lt_right x y h) ∙ rw h

pub lt_le : (x y : Float) → T (lt x y) → T (le x y)
unfolding le
lt_le x y h = rw (is_true (lt x y) h) tt

pub eq_le : (x y : Float) → T (eq x y) → T (le x y)
unfolding le
eq_le x y h = rw (is_true (eq x y) h, or-true (lt x y)) tt

pub le_left : (x y : Float) → T (le x y) → T (not (is_nan x))
unfolding is_nan le
le_left nan y h = h
le_left (inf s) y h = tt
le_left (fin s m e) y h = tt

le_nan : (x : Float) → le x nan ≡ false
unfolding le
le_nan nan = refl
le_nan (inf s) = refl
le_nan (fin s m e) = refl

pub le_right : (x y : Float) → T (le x y) → T (not (is_nan y))
unfolding is_nan
le_right x nan h = absurd (rw (le_nan x) at h)
le_right x (inf t) h = tt
le_right x (fin t n d) h = tt

-- ---- a total order but for the two zeros, which are equal
pub le_total : (x y : Float) → T (not (is_nan x)) → T (not (is_nan y)) → T (le x y) ⊎ T (le y x)
le_total x y p q =
    let r = ranks x y y p q q in
    elim (dec_lt r.j r.i) [
      | yes h ↦ inr (rw r.yx.most (le→leb r.j r.i (omega arith)))
      | no h ↦ inl (rw r.xy.most (le→leb r.i r.j (omega arith)))
    ]

pub le_refl : (x : Float) → T (not (is_nan x)) → T (le x x)
le_refl x p = ⊎_elim (λ h. h) (λ h. h) (le_total x x p p)

module _ (x y : Float) where
  turned : T (eq x y) → T (eq y x)
  turned h =
      let l = eq_le x y h in
      let r = ranks x y y (le_left x y l) (le_right x y l) (le_right x y l) in
      rw r.yx.same (eq→eqb (sym (eqb→eq r.i r.j (rw r.xy.same at h))))

pub eq_comm : (x y : Float) → eq x y ≡ eq y x
eq_comm x y = same_test (eq x y) (eq y x) (turned x y) (turned y x)

module _ (x y z : Float) where
  three : T (le x y) → T (le y z) → Ranks x y z
  three h k = ranks x y z (le_left x y h) (le_right x y h) (le_right y z k)

  pub le_trans : T (le x y) → T (le y z) → T (le x z)
  le_trans h k =
      let r = three h k in
      let a = leb→le r.i r.j (rw r.xy.most at h) in
      let b = leb→le r.j r.k (rw r.yz.most at k) in
      rw r.xz.most (le→leb r.i r.k (omega arith))

  pub lt_le_trans : T (lt x y) → T (le y z) → T (lt x z)
  lt_le_trans h k =
      let r = three (lt_le x y h) k in
      let a = ltb→lt r.i r.j (rw r.xy.less at h) in
      let b = leb→le r.j r.k (rw r.yz.most at k) in
      rw r.xz.less (lt→ltb r.i r.k (omega arith))

  pub le_lt_trans : T (le x y) → T (lt y z) → T (lt x z)
  le_lt_trans h k =
      let r = three h (lt_le y z k) in
      let a = leb→le r.i r.j (rw r.xy.most at h) in
      let b = ltb→lt r.j r.k (rw r.yz.less at k) in
      rw r.xz.less (lt→ltb r.i r.k (omega arith))

pub lt_trans : (x y z : Float) → T (lt x y) → T (lt y z) → T (lt x z)
lt_trans x y z h k = lt_le_trans x y z h (lt_le y z k)
