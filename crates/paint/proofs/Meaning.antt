-- A cell is covered when some triangle of the list has it not outside, and only then; it is on the rim when some has it on an edge and none
-- inside. Assumes nothing.
use mathlib.Core.Path.{◌≡◌, refl, sym, ◌∙◌, subst}
use mathlib.Core.Logic.{◌≢◌}
use mathlib.Core.Bool.{Bool, true, false, not, ◌&&◌, or-true, true≢false}
use mathlib.Core.List.{List}
use Prim.Native.Nat.{ℕ, zero, suc, ◌<◌}
use native.Mathlib.Omega.{arith}
use native.Mathlib.Decide.{ℕ_discrete}
use lib.Ieee.{Float}
use Rattle.ids.specs.Triangles.{triangle, triangle_count}
use Rattle.grid.specs.declared.Grid.{Grid}
use Rattle.grid.specs.declared.Place.{Place}
use Rattle.grid.specs.Point.{not_outside, is_inside}
use Rattle.paint.specs.Covered.{lies, some, covered, rim, Covered, OnRim}

module _ (f : ℕ → Bool) where
  some_has : (n : ℕ) → some f n ≡ true → (t : ℕ) × (t < n) × (f t ≡ true)
  unfolding some
  some_has zero e = absurd (true≢false (sym e))
  some_has (suc n) e = go (some f n) refl (some_has n)
    where
      go : (b : Bool) → some f n ≡ b → (some f n ≡ true → (t : ℕ) × (t < n) × (f t ≡ true)) → (t : ℕ) × (t < suc n) × (f t ≡ true)
      go true h before = let w = before h in (w.0, omega (arith, w.1), w.2)
      go false h before = (n, omega arith, rw h at e)

  some_of : (n t : ℕ) → t < n → f t ≡ true → some f n ≡ true
  unfolding some
  some_of zero t l e = absurd (omega arith)
  some_of (suc n) t l e =
      elim (ℕ_discrete t n) [
        | yes q ↦ rw (subst (λ (k : ℕ). f k ≡ true) q e) (or-true (some f n))
        | no q ↦ rw (some_of n t (omega arith) e)
      ]

-- ---- the three cases

inside_is : (p : Place) → is_inside p ≡ true → p ≡ Place.Inside
unfolding is_inside
inside_is Place.Inside e = refl
inside_is Place.OnEdge e = absurd (true≢false (sym e))
inside_is Place.Outside e = absurd (true≢false (sym e))

edge_is : (p : Place) → not_outside p ≡ true → p ≢ Place.Inside → p ≡ Place.OnEdge
unfolding not_outside
edge_is Place.Inside e n = absurd (n refl)
edge_is Place.OnEdge e n = refl
edge_is Place.Outside e n = absurd (true≢false (sym e))

both_are : (a b : Bool) → a && not b ≡ true → (a ≡ true) × (b ≡ false)
both_are true true e = absurd (true≢false (sym e))
both_are true false e = (refl, refl)
both_are false b e = absurd (true≢false (sym e))

not_so : (b : Bool) → (b ≡ true → ⊥) → b ≡ false
not_so true n = absurd (n refl)
not_so false n = refl

module _ (vs : List Float) (u v : ℕ) (g : Grid) (ids : List ℕ) (i j : ℕ) where
  abbrev at : ℕ → Place
  at t = lies vs u v g (triangle ids t) i j

  pub covered_tells : covered vs u v g ids i j ≡ true → Covered vs u v g ids i j
  unfolding covered
  covered_tells e =
      let w = some_has (λ t. not_outside (at t)) (triangle_count ids) e in record { number = w.0; within = w.1; by = w.2 }

  pub covered_told : Covered vs u v g ids i j → covered vs u v g ids i j ≡ true
  unfolding covered
  covered_told c = some_of (λ t. not_outside (at t)) (triangle_count ids) c.number c.within c.by

  pub rim_tells : rim vs u v g ids i j ≡ true → OnRim vs u v g ids i j
  unfolding rim
  rim_tells e =
      let b = both_are (covered vs u v g ids i j) _ e in
      let c = covered_tells b.0 in
      let none : (t : ℕ) → t < triangle_count ids → at t ≢ Place.Inside =
      λ t l q. true≢false (sym (some_of (λ t. is_inside (at t)) (triangle_count ids) t l (rw q (unfold is_inside in refl))) ∙ b.1) in
      record { number = c.number; within = c.within; by = edge_is (at c.number) c.by (none c.number c.within); none = none }

  pub rim_told : OnRim vs u v g ids i j → rim vs u v g ids i j ≡ true
  unfolding rim
  rim_told r =
      let c = covered_told (record { number = r.number; within = r.within; by = rw r.by (unfold not_outside in refl) }) in
      let none = not_so (some (λ t. is_inside (at t)) (triangle_count ids))
      (λ e. let w = some_has (λ t. is_inside (at t)) (triangle_count ids) e in r.none w.0 w.1 (inside_is (at w.0) w.2)) in
      rw (c, none)
