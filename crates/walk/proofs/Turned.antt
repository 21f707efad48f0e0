-- Turned inside out, a mesh has as many triangles used, out of range and slivers as before, and in the same order the same areas for the
-- opposite keys.
use mathlib.Core.Path.{◌≡◌, refl}
use mathlib.Core.Bool.{Bool}
use mathlib.Core.List.{List, [], ◌∷◌}
use Prim.Native.Nat.{ℕ, zero, suc, ◌≤◌}
use native.Mathlib.Omega.{arith}
use lib.Dec.{T}
use lib.Ieee.{Float}
use Rattle.ids.specs.Triangles.{Triangle, over_triangles, triangle, triangle_count}
use Rattle.ids.specs.Uses.{sum_by}
use Rattle.ids.specs.Reversed.{turned_triangle, reversed}
use Rattle.ids.proofs.Reversed.{reversed_is}
use Rattle.vertices.proofs.Range.{corners_turned}
use Rattle.sums.specs.declared.triangle.Facet.{Facet}
use Rattle.sums.specs.Box.{box, origin}
use Rattle.sums.specs.Fine.{all_fine}
use Rattle.sums.specs.Facet.{Part, used, part}
use Rattle.sums.proofs.TurnedFacets.{TurnedFacet, TurnedPart, none, thin, turned, part_turned, turned_length}
use Rattle.sums.proofs.UnitNormals.{UnitFacet, part_unit}
use Rattle.surfaces.specs.Surfaces.{Bucket, normal_key}
use Rattle.surfaces.specs.Opposite.{opposite_key, opposite_buckets}
use Rattle.surfaces.proofs.Opposite.{tenths_opposite, add_opposite}
use Rattle.walk.specs.Walk.{with_surface, buckets_to}
use Rattle.walk.specs.Counts.{is_out_of_range, is_sliver, is_used, how_many, counts_of}
use Rattle.walk.specs.Turned.{TurnedAlike}

-- ---- the counts

-- a question that a triangle answers alike when it is turned
count_reversed : (f : Triangle → Bool) → ((t : Triangle) → f (turned_triangle t) ≡ f t) → (ids : List ℕ)
    → how_many f (reversed ids) ≡ how_many f ids
unfolding how_many over_triangles reversed sum_by
count_reversed f e [] = refl
count_reversed f e (a ∷ []) = refl
count_reversed f e (a ∷ b ∷ []) = refl
count_reversed f e (a ∷ b ∷ c ∷ ids) = rw (e (record { a = a; b = b; c = c }), count_reversed f e ids)

-- what is asked is whether the corners are in range, and how long the cross product is
pub turned_alike : (vs o : List Float) (t : Triangle) → TurnedAlike vs o t
unfolding is_used is_out_of_range is_sliver
turned_alike vs o t =
    record {
      out_of_range = rw (corners_turned vs t);
      sliver = rw (corners_turned vs t, turned_length vs o t);
      used = rw (corners_turned vs t, turned_length vs o t);
    }

pub counts_reversed : (vs o : List Float) (ids : List ℕ) → counts_of vs o (reversed ids) ≡ counts_of vs o ids
unfolding counts_of
counts_reversed vs o ids =
    rw (
      count_reversed (is_used vs o) (λ t. (turned_alike vs o t).used) ids,
      count_reversed (is_out_of_range vs) (λ t. (turned_alike vs o t).out_of_range) ids,
      count_reversed (is_sliver vs o) (λ t. (turned_alike vs o t).sliver) ids,
    )

-- ---- the areas of the keys

key_turned : (f f' : Facet) → UnitFacet f → TurnedFacet f f'
    → normal_key f'.nx f'.ny f'.nz ≡ opposite_key (normal_key f.nx f.ny f.nz)
unfolding normal_key
key_turned f f' u t =
    rw (
      tenths_opposite f.nx f'.nx t.nx u.x,
      tenths_opposite f.ny f'.ny t.ny u.y,
      tenths_opposite f.nz f'.nz t.nz u.z,
    )

part_turns : (bs : List Bucket) (q q' : Part) → TurnedPart q q' → ((f : Facet) → q ≡ used f → UnitFacet f)
    → with_surface (opposite_buckets bs) q' ≡ opposite_buckets (with_surface bs q)
unfolding with_surface
part_turns bs q q' none u = refl
part_turns bs q q' thin u = refl
part_turns bs q q' (turned {f} {f'} t) u =
    rw (key_turned f f' (u f refl) t, t.area32) (add_opposite (normal_key f.nx f.ny f.nz) f.area32 bs)

pub buckets_turned : (vs : List Float) (ids : List ℕ) → T (all_fine vs) → (n : ℕ) → n ≤ triangle_count ids
    → buckets_to vs (origin (box vs)) (reversed ids) n ≡ opposite_buckets (buckets_to vs (origin (box vs)) ids n)
unfolding buckets_to opposite_buckets
buckets_turned vs ids fine zero l = refl
buckets_turned vs ids fine (suc n) l =
    let o = origin (box vs) in
    rw ((reversed_is ids).each n (omega arith), buckets_turned vs ids fine n (omega arith))
    (part_turns (buckets_to vs o ids n) (part vs o (triangle ids n)) _ (part_turned vs o (triangle ids n))
    (λ f e. part_unit vs (triangle ids n) f fine e))
