-- The surface and six times the volume are summed without asking for the slope. Assumes nothing.
use mathlib.Core.Path.{◌≡◌, refl}
use mathlib.Core.List.{List}
use Prim.Native.Nat.{ℕ, zero, suc}
use lib.Ieee.{Float}
use Rattle.ids.specs.Triangles.{triangle}
use Rattle.sums.specs.declared.totals.Thresholds.{Thresholds}
use Rattle.sums.specs.declared.totals.Totals.{Totals}
use Rattle.sums.specs.Facet.{Part, out_of_range, sliver, used, part}
use Rattle.sums.specs.Totals.{totals_to, with_facet, with_part}

pub record SameSums (t t' : Totals) : Type 0 where
  pub surface : t'.surface ≡ t.surface
  pub volume6 : t'.volume6 ≡ t.volume6

module _ (p p' : Thresholds) where
  part_more : (t t' : Totals) (q : Part) → SameSums t t' → SameSums (with_part p t q) (with_part p' t' q)
  unfolding with_part with_facet
  part_more t t' out_of_range s = s
  part_more t t' sliver s = s
  part_more t t' (used f) s = record { surface = rw s.surface; volume6 = rw s.volume6 }

  pub same_sums : (vs o : List Float) (ids : List ℕ) (n : ℕ) → SameSums (totals_to vs o p ids n) (totals_to vs o p' ids n)
  unfolding totals_to
  same_sums vs o ids zero = record { surface = refl; volume6 = refl }
  same_sums vs o ids (suc n) =
      part_more (totals_to vs o p ids n) (totals_to vs o p' ids n) (part vs o (triangle ids n)) (same_sums vs o ids n)
