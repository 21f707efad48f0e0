-- Slope, and the running sums (01): two in f64, the four areas by slope in f32.
use Rattle.std.specs.Prelude.{ℕ, zero, suc, cond, List, Float}
use Rattle.std.specs.Float.Ieee.{lt, neg}
use Rattle.ieee.specs.Magnitude.{magnitude}
use Rattle.ieee.specs.Single.{◌⊕◌, ◌⊗◌, nought}
use Rattle.ieee.specs.Double.{◌⊞◌, nought64}
use Rattle.ids.specs.Triangles.{triangle}
use Rattle.sums.specs.declared.triangle.Facet.{Facet}
use Rattle.sums.specs.declared.totals.Areas.{Areas}
use Rattle.sums.specs.declared.totals.Slope.{Slope}
use Rattle.sums.specs.declared.totals.Thresholds.{Thresholds}
use Rattle.sums.specs.declared.totals.Totals.{Totals}
use Rattle.sums.specs.Facet.{Part, out_of_range, sliver, used, part}

-- ---- the slope of a facet, by its unit normal's z and a pair of thresholds

-- above the first top; below its negative bottom; magnitude under the second side; else inclined
unfoldable pub slope_of : Thresholds → Float → Slope
slope_of p z =
    cond (lt p.top z) Slope.Top
    (cond (lt z (neg p.top)) Slope.Bottom
    (cond (lt (magnitude z) p.side) Slope.Side Slope.Inclined))

-- ---- the areas by slope

-- an area more on a slope
unfoldable pub on_slope : Slope → Float → Areas → Areas
on_slope Slope.Top x a = record { top = a.top ⊕ x; bottom = a.bottom; side = a.side; inclined = a.inclined }
on_slope Slope.Bottom x a = record { top = a.top; bottom = a.bottom ⊕ x; side = a.side; inclined = a.inclined }
on_slope Slope.Side x a = record { top = a.top; bottom = a.bottom; side = a.side ⊕ x; inclined = a.inclined }
on_slope Slope.Inclined x a = record { top = a.top; bottom = a.bottom; side = a.side; inclined = a.inclined ⊕ x }

-- each times a number
abbrev pub scaled_areas : Float → Areas → Areas
scaled_areas by a = record { top = a.top ⊗ by; bottom = a.bottom ⊗ by; side = a.side ⊗ by; inclined = a.inclined ⊗ by }

-- ---- the sums

abbrev pub no_totals : Totals
no_totals =
    record { surface = nought64; volume6 = nought64; areas = record { top = nought; bottom = nought; side = nought; inclined = nought } }

-- with a facet's area, volume term and slope
unfoldable pub with_facet : Thresholds → Totals → Facet → Totals
with_facet p s f =
    record {
      surface = s.surface ⊞ f.area;
      volume6 = s.volume6 ⊞ f.volume;
      areas = on_slope (slope_of p f.nz) f.area32 s.areas;
    }

-- with one triangle's part: only a used one adds to the sums
unfoldable pub with_part : Thresholds → Totals → Part → Totals
with_part p s out_of_range = s
with_part p s sliver = s
with_part p s (used f) = with_facet p s f

-- after the first n triangles, in order
unfoldable pub totals_to : List Float → List Float → Thresholds → List ℕ → ℕ → Totals
totals_to vs o p ids zero = no_totals
totals_to vs o p ids (suc n) = with_part p (totals_to vs o p ids n) (part vs o (triangle ids n))
