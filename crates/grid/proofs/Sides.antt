-- The point test by comparing the two products of each side: a side is below or above 0 where they compare so, and then it is not 0.
-- Assumes nothing.
use mathlib.Core.Path.{◌≡◌, refl, sym, ◌∙◌}
use mathlib.Core.Bool.{Bool, true, false, ◌||◌, ◌&&◌, or-true, true≢false}
use lib.Ieee.{Float, binary32, lt, eq}
use lib.Ieee.Fits.{mul-fits}
use Rattle.ieee.specs.Single.{◌⊖◌, ◌⊗◌, nought}
use Rattle.ieee.proofs.Order.Comparison.{eq_not_lt, lt_asym, lt_left, lt_right}
use Rattle.ieee.proofs.Order.Differences.{sub_sign, zero_bits}
use Rattle.grid.specs.declared.Point.{Point}
use Rattle.grid.specs.declared.Flat.{Flat}
use Rattle.grid.specs.declared.Place.{Place}
use Rattle.grid.specs.Point.{place, place_by, place_of, side}
use Rattle.grid.specs.inner.Edges.{edge_if}

-- ---- signs
negative : (a b c d : Float) → lt (a ⊗ b ⊖ c ⊗ d) nought ≡ lt (a ⊗ b) (c ⊗ d)
negative a b c d = rw (zero_bits binary32) (sub_sign binary32 (a ⊗ b) (c ⊗ d) (mul-fits binary32 a b) (mul-fits binary32 c d)).0

positive : (a b c d : Float) → lt nought (a ⊗ b ⊖ c ⊗ d) ≡ lt (c ⊗ d) (a ⊗ b)
positive a b c d = rw (zero_bits binary32) (sub_sign binary32 (a ⊗ b) (c ⊗ d) (mul-fits binary32 a b) (mul-fits binary32 c d)).1

-- what is below or above is not equal
below_not_eq : (x y : Float) → lt x y ≡ true → eq x y ≡ false
below_not_eq x y h = rw (eq_not_lt x y (lt_left x y h) (lt_right x y h), h)

above_not_eq : (x y : Float) → lt y x ≡ true → eq x y ≡ false
above_not_eq x y h = rw (eq_not_lt x y (lt_right y x h) (lt_left y x h), h, lt_asym y x h)

-- ---- outside where both signs occur, else by whether one is zero
outside_by : (p q z : Bool) → p && q ≡ true → Place.Outside ≡ place_by p q z
unfolding place_by
outside_by true true z e = refl
outside_by true false z e = absurd (true≢false (sym e))
outside_by false q z e = absurd (true≢false (sym e))

edge_by : (p q z : Bool) → p && q ≡ false → edge_if z ≡ place_by p q z
unfolding place_by
edge_by true true z e = absurd (true≢false e)
edge_by true false true e = refl
edge_by true false false e = refl
edge_by false q true e = refl
edge_by false q false e = refl

-- ---- where d has no sign, both occur where e and f differ
differ : (p q r s : Bool) → (p ≡ true → q ≡ false) → (r ≡ true → s ≡ false) → ((p && s) || (q && r)) ≡ ((p || r) && (q || s))
differ true true r s h k = absurd (true≢false (h refl))
differ true false true true h k = absurd (true≢false (k refl))
differ true false true false h k = refl
differ true false false true h k = refl
differ true false false false h k = refl
differ false true true true h k = absurd (true≢false (k refl))
differ false true true false h k = refl
differ false true false true h k = refl
differ false true false false h k = refl
differ false false true true h k = absurd (true≢false (k refl))
differ false false true false h k = refl
differ false false false true h k = refl
differ false false false false h k = refl

module _ (p : Point) (t : Flat) where
  abbrev d : Float
  d = (p.x ⊖ t.b.x) ⊗ (t.a.y ⊖ t.b.y)

  abbrev d_less : Float
  d_less = (t.a.x ⊖ t.b.x) ⊗ (p.y ⊖ t.b.y)

  abbrev e : Float
  e = (p.x ⊖ t.c.x) ⊗ (t.b.y ⊖ t.c.y)

  abbrev e_less : Float
  e_less = (t.b.x ⊖ t.c.x) ⊗ (p.y ⊖ t.c.y)

  abbrev f : Float
  f = (p.x ⊖ t.a.x) ⊗ (t.c.y ⊖ t.a.y)

  abbrev f_less : Float
  f_less = (t.c.x ⊖ t.a.x) ⊗ (p.y ⊖ t.a.y)

  abbrev zero : Float → Float → Bool
  zero x less = eq (x ⊖ less) nought

  in_products : place p t ≡ place_by (lt d d_less || (lt e e_less || lt f f_less)) (lt d_less d || (lt e_less e || lt f_less f))
      (zero d d_less || (zero e e_less || zero f f_less))
  unfolding place place_of side
  in_products = simp (negative, positive)

  -- d is negative
  pub below_outside : lt d d_less ≡ true → lt e_less e || lt f_less f ≡ true → Place.Outside ≡ place p t
  below_outside h k = rw in_products (outside_by _ _ _ (rw (h, k, or-true (lt d_less d))))

  pub below_edge : lt d d_less ≡ true → lt e_less e || lt f_less f ≡ false → edge_if (zero e e_less || zero f f_less) ≡ place p t
  below_edge h k =
      let n : zero d d_less ≡ false = below_not_eq (d ⊖ d_less) nought (negative _ _ _ _ ∙ h) in
      rw in_products (rw n (edge_by _ _ _ (rw (h, k, lt_asym d d_less h))))

  -- d is positive
  pub above_outside : lt d_less d ≡ true → lt e e_less || lt f f_less ≡ true → Place.Outside ≡ place p t
  above_outside h k = rw in_products (outside_by _ _ _ (rw (h, k, or-true (lt d d_less))))

  pub above_edge : lt d_less d ≡ true → lt e e_less || lt f f_less ≡ false → edge_if (zero e e_less || zero f f_less) ≡ place p t
  above_edge h k =
      let n : zero d d_less ≡ false = above_not_eq (d ⊖ d_less) nought (positive _ _ _ _ ∙ h) in
      rw in_products (rw n (edge_by _ _ _ (rw (h, k, lt_asym d_less d h))))

  -- d is neither
  both : lt d d_less ≡ false → lt d_less d ≡ false
      → (lt d d_less || (lt e e_less || lt f f_less)) && (lt d_less d || (lt e_less e || lt f_less f))
      ≡ (lt e e_less && lt f_less f) || (lt e_less e && lt f f_less)
  both h k = rw (h, k) (sym (differ (lt e e_less) (lt e_less e) (lt f f_less) (lt f_less f) (lt_asym e e_less) (lt_asym f f_less)))

  pub neither_outside : lt d d_less ≡ false → lt d_less d ≡ false → (lt e e_less && lt f_less f) || (lt e_less e && lt f f_less) ≡ true
      → Place.Outside ≡ place p t
  neither_outside h k o = rw in_products (outside_by _ _ _ (both h k ∙ o))

  pub neither_edge : lt d d_less ≡ false → lt d_less d ≡ false → (lt e e_less && lt f_less f) || (lt e_less e && lt f f_less) ≡ false
      → edge_if (zero d d_less || (zero e e_less || zero f f_less)) ≡ place p t
  neither_edge h k o = rw in_products (edge_by _ _ _ (both h k ∙ o))
