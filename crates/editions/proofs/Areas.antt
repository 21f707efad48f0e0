-- From a pair of thresholds to one that leaves no more inclined: facet by facet the inclined area is no larger and the other three are no
-- smaller, since a sum of areas falls neither with a larger summand nor with one more. Assumes nothing.
use mathlib.Core.Path.{◌≡◌, refl}
use mathlib.Core.List.{List}
use Prim.Native.Nat.{ℕ, zero, suc}
use lib.Dec.{T}
use lib.Ieee.{Float, binary32, fits, le, lt, eq, of_bits}
use lib.Ieee.Fits.{add-fits}
use Rattle.ieee.specs.Single.{◌⊕◌, nought}
use Rattle.ieee.proofs.Order.Comparison.{le_trans}
use Rattle.ids.specs.Triangles.{triangle}
use Rattle.sums.specs.declared.triangle.Facet.{Facet}
use Rattle.sums.specs.declared.totals.Areas.{Areas}
use Rattle.sums.specs.declared.totals.Slope.{Slope}
use Rattle.sums.specs.declared.totals.Thresholds.{Thresholds}
use Rattle.sums.specs.declared.totals.Totals.{Totals}
use Rattle.sums.specs.Box.{box, origin}
use Rattle.sums.specs.SlopeMoves.{NoMoreInclined, MayBecome}
use Rattle.sums.specs.Facet.{Part, out_of_range, sliver, used, part}
use Rattle.sums.specs.Fine.{all_fine}
use Rattle.sums.specs.Totals.{no_totals, on_slope, slope_of, totals_to, with_facet, with_part}
use Rattle.sums.specs.inner.Plus.{plus}
use Rattle.sums.proofs.AreaLaws.{part_plus}
use Rattle.sums.proofs.Editions.{slopes_move}
use Rattle.sums.proofs.Plus.{plus_add, plus_zero}
use Rattle.sums.proofs.Rising.{add_above, add_rises, from_zero}
use Rattle.walk.specs.Domain.{EachArea}
use Rattle.walk.proofs.Finite.{each_next}
use Rattle.editions.specs.Moves.{AreasMove}

-- ---- what every area is: of f32, and not below zero, nor -0

pub record Area (x : Float) : Type 0 where
  pub from : T (plus x)
  pub single : T (fits binary32 x)

area_more : (x y : Float) → T (plus y) → Area x → Area (x ⊕ y)
area_more x y p a = record { from = plus_add binary32 x y a.from p; single = add-fits binary32 x y }

-- ---- one facet more

module _ (y : Float) (p : T (plus y)) where
  rises : (x x' : Float) → Area x → Area x' → T (le x x') → T (le (x ⊕ y) (x' ⊕ y))
  rises x x' a a' l = add_rises binary32 x x' y (from_zero x a.from) (from_zero x' a'.from) (from_zero y p) l

  above : (x : Float) → Area x → T (le x (x ⊕ y))
  above x a = add_above binary32 x y (from_zero x a.from) (from_zero y p) a.single

  gains : (x x' : Float) → Area x' → T (le x x') → T (le x (x' ⊕ y))
  gains x x' a' l = le_trans x x' (x' ⊕ y) l (above x' a')

  facet_moves : (s s' : Slope) → MayBecome s s' → (a a' : Areas) → EachArea Area a → EachArea Area a' → AreasMove a a'
      → AreasMove (on_slope s y a) (on_slope s' y a')
  unfolding MayBecome on_slope
  facet_moves Slope.Top s' e a a' g g' m =
      let risen = rises a.top a'.top g.top g'.top m.top in
      rw e (record { top = risen; bottom = m.bottom; side = m.side; inclined = m.inclined })
  facet_moves Slope.Bottom s' e a a' g g' m =
      let risen = rises a.bottom a'.bottom g.bottom g'.bottom m.bottom in
      rw e (record { top = m.top; bottom = risen; side = m.side; inclined = m.inclined })
  facet_moves Slope.Side s' e a a' g g' m =
      let risen = rises a.side a'.side g.side g'.side m.side in
      rw e (record { top = m.top; bottom = m.bottom; side = risen; inclined = m.inclined })
  facet_moves Slope.Inclined s' e a a' g g' m = go s'
    where
      less : T (le a'.inclined (a.inclined ⊕ y))
      less = gains a'.inclined a.inclined g.inclined m.inclined

      go : (t : Slope) → AreasMove (on_slope Slope.Inclined y a) (on_slope t y a')
      go Slope.Top =
          record { top = gains a.top a'.top g'.top m.top; bottom = m.bottom; side = m.side; inclined = less }
      go Slope.Bottom =
          record { top = m.top; bottom = gains a.bottom a'.bottom g'.bottom m.bottom; side = m.side; inclined = less }
      go Slope.Side =
          record { top = m.top; bottom = m.bottom; side = gains a.side a'.side g'.side m.side; inclined = less }
      go Slope.Inclined =
          record {
            top = m.top;
            bottom = m.bottom;
            side = m.side;
            inclined = rises a'.inclined a.inclined g'.inclined g.inclined m.inclined;
          }

-- ---- all of them

pub record Gathered (t t' : Totals) : Type 0 where
  pub here : EachArea Area t.areas
  pub there : EachArea Area t'.areas
  pub moves : AreasMove t.areas t'.areas

none_gathered : Gathered no_totals no_totals
none_gathered =
    let none : Area nought = record { from = plus_zero binary32; single = unfold fits of_bits in tt } in
    let each : EachArea Area no_totals.areas = record { top = none; bottom = none; side = none; inclined = none } in
    let zero_least : T (le nought nought) = unfold le lt eq of_bits in tt in
    record {
      here = each;
      there = each;
      moves = record { top = zero_least; bottom = zero_least; side = zero_least; inclined = zero_least };
    }

module _ (p p' : Thresholds) (h : NoMoreInclined p p') where
  facet_gathered : (t t' : Totals) (f : Facet) → T (plus f.area32) → Gathered t t' → Gathered (with_facet p t f) (with_facet p' t' f)
  unfolding with_facet
  facet_gathered t t' f from g =
      let y = f.area32 in
      record {
        here = each_next (slope_of p f.nz) y t.areas (λ x a. a) (λ x. area_more x y from) g.here;
        there = each_next (slope_of p' f.nz) y t'.areas (λ x a. a) (λ x. area_more x y from) g.there;
        moves =
            facet_moves y from (slope_of p f.nz) (slope_of p' f.nz) (slopes_move p p' h f.nz) t.areas t'.areas g.here
            g.there g.moves;
      }

  part_gathered : (t t' : Totals) (q : Part) → ((f : Facet) → q ≡ used f → T (plus f.area32)) → Gathered t t'
      → Gathered (with_part p t q) (with_part p' t' q)
  unfolding with_part
  part_gathered t t' out_of_range from g = g
  part_gathered t t' sliver from g = g
  part_gathered t t' (used f) from g = facet_gathered t t' f (from f refl) g

  pub gathered : (vs : List Float) (ids : List ℕ) (n : ℕ) → T (all_fine vs)
      → Gathered (totals_to vs (origin (box vs)) p ids n) (totals_to vs (origin (box vs)) p' ids n)
  unfolding totals_to
  gathered vs ids zero fine = none_gathered
  gathered vs ids (suc n) fine =
      part_gathered (totals_to vs (origin (box vs)) p ids n) (totals_to vs (origin (box vs)) p' ids n)
      (part vs (origin (box vs)) (triangle ids n)) (λ f e. part_plus vs (triangle ids n) f fine e) (gathered vs ids n fine)
