-- What the counts of triangles are worth (02, A1), where every float passes refusal 4: they leave no triangle out, and a triangle counts as
-- used exactly where it adds to the sums.
use Rattle.std.specs.Prelude.{◌≡◌, ℕ, ◌+◌, not, List, T, Float}
use Rattle.ids.specs.Triangles.{Triangle, triangle_count}
use Rattle.sums.specs.declared.totals.Thresholds.{Thresholds}
use Rattle.sums.specs.declared.totals.Totals.{Totals}
use Rattle.sums.specs.Box.{box, origin}
use Rattle.sums.specs.Facet.{used, facet_of, normal, part, rebased_corners}
use Rattle.sums.specs.Fine.{all_fine}
use Rattle.sums.specs.Totals.{with_part}
use Rattle.surfaces.specs.Surfaces.{Bucket}
use Rattle.walk.specs.declared.TriangleCounts.{TriangleCounts}
use Rattle.walk.specs.Walk.{with_surface}
use Rattle.walk.specs.Counts.{cross_length, is_used, counts_of}

abbrev pub all_counted : TriangleCounts → ℕ
all_counted c = c.used + c.out_of_range + c.sliver

-- together they are all complete triples (`counts_add_up`)
abbrev pub CountsAddUp : Type 0
CountsAddUp = (vs : List Float) (ids : List ℕ) → T (all_fine vs) → all_counted (counts_of vs (origin (box vs)) ids) ≡ triangle_count ids

-- where a triangle counts as used its part is its facet; else its part changes no total and no surface
pub record CountedAsItAdds (vs : List Float) (t : Triangle) : Type 0 where
  pub facet : T (is_used vs (origin (box vs)) t)
      → part vs (origin (box vs)) t
      ≡ used (facet_of (rebased_corners vs (origin (box vs)) t) (normal (rebased_corners vs (origin (box vs)) t))
      (cross_length vs (origin (box vs)) t))
  pub no_total : T (not (is_used vs (origin (box vs)) t)) → (p : Thresholds) (s : Totals) → with_part p s (part vs (origin (box vs)) t) ≡ s
  pub no_surface : T (not (is_used vs (origin (box vs)) t)) → (bs : List Bucket) → with_surface bs (part vs (origin (box vs)) t) ≡ bs

-- (`used_where_it_adds`)
abbrev pub UsedWhereItAdds : Type 0
UsedWhereItAdds = (vs : List Float) → T (all_fine vs) → (t : Triangle) → CountedAsItAdds vs t
