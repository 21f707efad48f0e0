-- Facet by facet turned over, the sums turn: the surface and the areas of sides stay, the volume is negated as a number, and top and bottom
-- change places. For any thresholds of which the first is not below 0. Assumes nothing.
use Rattle.std.proofs.Common.{◌≡◌, ℕ, zero, suc, ◌≤◌, Bool, true, false, cond, T, List, sym, refl, subst, arith}
use mathlib.Core.Bool.{false≢true}
use lib.Ieee.{Float, binary64, lt, le, neg, of_bits}
use Rattle.ieee.specs.Magnitude.{magnitude}
use Rattle.ieee.specs.Single.{nought}
use Rattle.ieee.specs.Number.{as_number, opposite}
use Rattle.ieee.proofs.Order.Comparison.{le_lt_trans, lt_le_trans, lt_trans}
use Rattle.ieee.proofs.Values.Negation.{le_neg}
use Rattle.ieee.proofs.Values.Opposite.{above_opposite, add_opposite, below_opposite, magnitude_opposite}
use Rattle.ids.specs.Triangles.{triangle, triangle_count}
use Rattle.ids.specs.Reversed.{reversed}
use Rattle.ids.proofs.Reversed.{reversed_is}
use Rattle.sums.specs.declared.triangle.Facet.{Facet}
use Rattle.sums.specs.declared.totals.Areas.{Areas}
use Rattle.sums.specs.declared.totals.Slope.{Slope}
use Rattle.sums.specs.declared.totals.Thresholds.{Thresholds}
use Rattle.sums.specs.declared.totals.Totals.{Totals}
use Rattle.sums.specs.Facet.{Part, part}
use Rattle.sums.specs.Totals.{slope_of, on_slope, with_facet, with_part, no_totals, totals_to}
use Rattle.sums.specs.Turned.{turned_areas, TurnedTotals, BothTop}
use Rattle.sums.proofs.TurnedFacets.{TurnedFacet, TurnedPart, none, thin, turned, part_turned}

-- ---- the slope
abbrev turned_slope : Slope → Slope
turned_slope Slope.Top = Slope.Bottom
turned_slope Slope.Bottom = Slope.Top
turned_slope Slope.Side = Slope.Side
turned_slope Slope.Inclined = Slope.Inclined

-- no z is above a threshold from 0 up and below its negative too
not_both : (m z : Float) → T (le nought m) → lt m z ≡ true → lt z (neg m) ≡ false
not_both m z h above = go (lt z (neg m)) refl
  where
    zero_least : T (lt nought (neg nought)) → ⊥
    zero_least l = unfold lt neg of_bits in l

    go : (b : Bool) → lt z (neg m) ≡ b → lt z (neg m) ≡ false
    go false e = e
    go true e =
        let across : T (lt m (neg m)) = lt_trans m z (neg m) (subst T (sym above) tt) (subst T (sym e) tt) in
        let low : T (le (neg m) (neg nought)) = subst T (sym (le_neg m nought)) h in
        absurd (zero_least (le_lt_trans nought m (neg nought) h (lt_le_trans m (neg m) (neg nought) across low)))

pub slope_turned : (p : Thresholds) (z z' : Float) → T (le nought p.top) → as_number z' ≡ opposite z
    → slope_of p z' ≡ turned_slope (slope_of p z)
unfolding slope_of
slope_turned p z z' h o =
    rw (above_opposite p.top z z' o, below_opposite p.top z z' o, magnitude_opposite z z' o)
    (go (lt p.top z) (lt z (neg p.top)) (lt (magnitude z) p.side) (not_both p.top z h))
  where
    go : (a b c : Bool) → (a ≡ true → b ≡ false)
        → cond b Slope.Top (cond a Slope.Bottom (cond c Slope.Side Slope.Inclined))
        ≡ turned_slope (cond a Slope.Top (cond b Slope.Bottom (cond c Slope.Side Slope.Inclined)))
    go true true c apart = absurd (false≢true (sym (apart refl)))
    go true false c apart = refl
    go false true c apart = refl
    go false false true apart = refl
    go false false false apart = refl

pub both_top : BothTop
unfolding slope_of lt neg of_bits
both_top = (refl, refl)

-- ---- the sums
on_slope_turned : (s : Slope) (x : Float) (a : Areas) → on_slope (turned_slope s) x (turned_areas a) ≡ turned_areas (on_slope s x a)
unfolding on_slope
on_slope_turned Slope.Top x a = refl
on_slope_turned Slope.Bottom x a = refl
on_slope_turned Slope.Side x a = refl
on_slope_turned Slope.Inclined x a = refl

module _ (p : Thresholds) (h : T (le nought p.top)) where
  facet_more : (t t' : Totals) (f f' : Facet) → TurnedTotals t t' → TurnedFacet f f' → TurnedTotals (with_facet p t f) (with_facet p t' f')
  unfolding with_facet
  facet_more t t' f f' s o =
      record {
        surface = rw (s.surface, o.area);
        volume6 = add_opposite binary64 t.volume6 f.volume t'.volume6 f'.volume s.volume6 o.volume;
        areas =
            rw (slope_turned p f.nz f'.nz h o.nz, o.area32, s.areas)
            (on_slope_turned (slope_of p f.nz) f.area32 t.areas);
      }

  -- one triangle's part more
  pub part_more : (t t' : Totals) (q q' : Part) → TurnedTotals t t' → TurnedPart q q' → TurnedTotals (with_part p t q) (with_part p t' q')
  unfolding with_part
  part_more t t' q q' s none = s
  part_more t t' q q' s thin = s
  part_more t t' q q' s (turned {f} {f'} o) = facet_more t t' f f' s o

  no_totals_turned : TurnedTotals no_totals no_totals
  unfolding as_number neg of_bits
  no_totals_turned = record { surface = refl; volume6 = refl; areas = refl }

  pub totals_turned : (vs o : List Float) (ids : List ℕ) (n : ℕ) → n ≤ triangle_count ids
      → TurnedTotals (totals_to vs o p ids n) (totals_to vs o p (reversed ids) n)
  unfolding totals_to
  totals_turned vs o ids zero l = no_totals_turned
  totals_turned vs o ids (suc n) l =
      rw ((reversed_is ids).each n (omega arith))
      (part_more (totals_to vs o p ids n) (totals_to vs o p (reversed ids) n) (part vs o (triangle ids n)) _
      (totals_turned vs o ids n (omega arith)) (part_turned vs o (triangle ids n)))
