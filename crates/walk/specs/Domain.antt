-- Domain (01): no sum overflows. What the sums over a mesh of the domain are (`totals_finite`, `buckets_finite`).
use Rattle.std.specs.Prelude.{List, T, Float}
use Rattle.std.specs.Float.Ieee.Scale.{finite}
use Rattle.sums.specs.declared.totals.Areas.{Areas}
use Rattle.sums.specs.declared.totals.Totals.{Totals}
use Rattle.surfaces.specs.Surfaces.{Bucket}
use Rattle.surfaces.specs.Keys.{AllAreas}

-- each area by slope has a property
pub record EachArea (P : Float → Type 0) (a : Areas) : Type 0 where
  pub top : P a.top
  pub bottom : P a.bottom
  pub side : P a.side
  pub inclined : P a.inclined

-- the running sums are finite
pub record FiniteTotals (t : Totals) : Type 0 where
  pub surface : T (finite t.surface)
  pub volume6 : T (finite t.volume6)
  pub areas : EachArea (λ x. T (finite x)) t.areas

-- the area of each key is
abbrev pub FiniteAreas : List Bucket → Type 0
FiniteAreas bs = AllAreas (λ x. T (finite x)) bs
