-- Triangles are rebased by the box, so each adds the same where the mesh is moved; so do all of them, to the totals, to the surfaces and to
-- the counts. Assumes nothing.
use mathlib.Core.Path.{◌≡◌, refl, sym, ◌∙◌, ap}
use mathlib.Core.Bool.{Bool, true, false, not, ◌&&◌, cond}
use mathlib.Core.List.{List}
use Prim.Native.Nat.{ℕ, zero, suc, ◌+◌, ◌*◌, ◌<◌}
use lib.Dec.{T, lit<, ltb→lt}
use lib.IntN.{ℤ}
use lib.ListN.{length}
use lib.Ieee.{Float, binary64, lt, le}
use Rattle.ids.specs.Triangles.{Triangle, triangle}
use Rattle.vertices.specs.Vertices.{in_range, corners_in_range, coordinate}
use Rattle.sums.specs.declared.bounds.Bounds.{Bounds}
use Rattle.sums.specs.declared.totals.Thresholds.{Thresholds}
use Rattle.sums.specs.Box.{origin}
use Rattle.sums.specs.Facet.{out_of_range, normal, part, part_of, rebased, rebased_corners, shortest, size}
use Rattle.sums.specs.Totals.{totals_to}
use Rattle.walk.specs.Walk.{buckets_to}
use Rattle.walk.specs.Counts.{is_out_of_range, is_sliver, is_used, counts_of}
use Rattle.walk.proofs.Counts.{same_count}
use Rattle.place.specs.Moved.{Moved}
use Rattle.place.proofs.Shifted.{same_sub}
use Rattle.place.proofs.Vertices.{coordinate_shifted}
use Rattle.place.proofs.Box.{BoxShifted}

and_is : (a b : Bool) → a && b ≡ cond a b false
and_is true b = refl
and_is false b = refl

module _ (dx dy dz : ℤ) (vs vs' : List Float) (m : Moved dx dy dz vs vs') (b b' : Bounds) (k : BoxShifted dx dy dz b b') where
  same_corner : (v : ℕ) → 3 * v + 2 < length vs → rebased vs' (origin b') v ≡ rebased vs (origin b) v
  unfolding rebased
  same_corner v l =
      rw (
        same_sub dx (coordinate vs 0 v) b.xmin (coordinate vs' 0 v) b'.xmin
            (coordinate_shifted dx dy dz vs vs' m v 0 (lit< tt) l) k.xmin binary64,
        same_sub dy (coordinate vs 1 v) b.ymin (coordinate vs' 1 v) b'.ymin
            (coordinate_shifted dx dy dz vs vs' m v 1 (lit< tt) l) k.ymin binary64,
        same_sub dz (coordinate vs 2 v) b.zmin (coordinate vs' 2 v) b'.zmin
            (coordinate_shifted dx dy dz vs vs' m v 2 (lit< tt) l) k.zmin binary64,
      )

  -- whatever is made of the corners of a triangle in range
  same_by : {A : Type 0} (f : List (List Float) → A) (none : A) (t : Triangle)
      → cond (corners_in_range vs' t) (f (rebased_corners vs' (origin b') t)) none
      ≡ cond (corners_in_range vs t) (f (rebased_corners vs (origin b) t)) none
  unfolding corners_in_range in_range
  same_by {A} f none t =
      rw m.lengths (go (in_range vs t.a) (in_range vs t.b) (in_range vs t.c) (ltb→lt _ _) (ltb→lt _ _) (ltb→lt _ _))
    where
      go : (p q r : Bool) → (T p → 3 * t.a + 2 < length vs) → (T q → 3 * t.b + 2 < length vs) → (T r → 3 * t.c + 2 < length vs)
          → cond {A = A} (p && (q && r)) (f (rebased_corners vs' (origin b') t)) none
          ≡ cond (p && (q && r)) (f (rebased_corners vs (origin b) t)) none
      go false q r x y z = refl
      go true false r x y z = refl
      go true true false x y z = refl
      go true true true x y z = rw (same_corner t.a (x tt), same_corner t.b (y tt), same_corner t.c (z tt))

  same_part : (t : Triangle) → part vs' (origin b') t ≡ part vs (origin b) t
  unfolding part
  same_part t = same_by part_of out_of_range t

  -- a question of a triangle in range
  same_question : (f : List (List Float) → Bool) (t : Triangle)
      → corners_in_range vs' t && f (rebased_corners vs' (origin b') t) ≡ corners_in_range vs t && f (rebased_corners vs (origin b) t)
  same_question f t =
      and_is (corners_in_range vs' t) (f (rebased_corners vs' (origin b') t)) ∙ same_by f false t
      ∙ sym (and_is (corners_in_range vs t) (f (rebased_corners vs (origin b) t)))

  same_in_range : (t : Triangle) → corners_in_range vs' t ≡ corners_in_range vs t
  unfolding corners_in_range in_range
  same_in_range t = rw m.lengths

  pub same_counts : (ids : List ℕ) → counts_of vs' (origin b') ids ≡ counts_of vs (origin b) ids
  unfolding counts_of is_used is_out_of_range is_sliver
  same_counts ids =
      rw (
        same_count (is_used vs' (origin b')) (is_used vs (origin b)) (same_question (λ c. le shortest (size (normal c)))) ids,
        same_count (is_out_of_range vs') (is_out_of_range vs) (λ t. ap not (same_in_range t)) ids,
        same_count (is_sliver vs' (origin b')) (is_sliver vs (origin b)) (same_question (λ c. lt (size (normal c)) shortest)) ids,
      )

  pub same_totals : (p : Thresholds) (ids : List ℕ) (n : ℕ) → totals_to vs' (origin b') p ids n ≡ totals_to vs (origin b) p ids n
  unfolding totals_to
  same_totals p ids zero = refl
  same_totals p ids (suc n) = rw (same_totals p ids n, same_part (triangle ids n))

  pub same_buckets : (ids : List ℕ) (n : ℕ) → buckets_to vs' (origin b') ids n ≡ buckets_to vs (origin b) ids n
  unfolding buckets_to
  same_buckets ids zero = refl
  same_buckets ids (suc n) = rw (same_buckets ids n, same_part (triangle ids n))
