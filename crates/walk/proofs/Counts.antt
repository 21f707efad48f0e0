-- What the counts are worth: where no float is refused the three questions are answered as the walk counts by parts, one of them with yes,
-- and a triangle is counted as used where it adds to the sums. Assumes nothing.
use mathlib.Core.Path.{◌≡◌, refl, ◌∙◌, ap}
use Prim.Native.Nat.{ℕ, ◌+◌}
use mathlib.Core.Bool.{Bool, true, false, not}
use mathlib.Core.List.{List}
use lib.Dec.{T}
use lib.Ieee.{Float, is_nan, lt, le, of_bits}
use Rattle.ieee.proofs.Order.Comparison.{le_not_lt}
use Rattle.ids.specs.Triangles.{Triangle}
use Rattle.ids.specs.Uses.{bit}
use Rattle.vertices.specs.Vertices.{corners_in_range}
use Rattle.sums.specs.Box.{box, origin}
use Rattle.sums.specs.Facet.{part, part_of, shortest}
use Rattle.sums.specs.Fine.{all_fine}
use Rattle.sums.specs.Totals.{with_part}
use Rattle.sums.proofs.AreaLaws.{size_number}
use Rattle.walk.specs.Walk.{with_surface}
use Rattle.walk.specs.Counts.{is_out_of_range, is_sliver, is_used, cross_length, how_many, counts_of}
use Rattle.walk.specs.Counted.{CountsAddUp, CountedAsItAdds, UsedWhereItAdds}
use Rattle.walk.specs.inner.Counting.{is_facet, is_thin, is_none, part_counts}
use Rattle.walk.proofs.Counting.{one_of_three, same_sums, three_make_all, triangles_length}

shortest_number : T (not (is_nan shortest))
unfolding of_bits is_nan
shortest_number = tt

-- ---- the three questions, by whether it is in range and by the length of its cross product

pub record Asked (vs : List Float) (t : Triangle) : Type 0 where
  pub used : is_used vs (origin (box vs)) t ≡ is_facet (part vs (origin (box vs)) t)
  pub out_of_range : is_out_of_range vs t ≡ is_none (part vs (origin (box vs)) t)
  pub sliver : is_sliver vs (origin (box vs)) t ≡ is_thin (part vs (origin (box vs)) t)

module _ (vs : List Float) (fine : T (all_fine vs)) (t : Triangle) where
  abbrev o : List Float
  o = origin (box vs)

  long_enough : corners_in_range vs t ≡ true → le shortest (cross_length vs o t) ≡ not (lt (cross_length vs o t) shortest)
  long_enough r = le_not_lt shortest (cross_length vs o t) shortest_number (size_number vs t fine r)

  pub asked : Asked vs t
  unfolding is_used is_out_of_range is_sliver part part_of is_facet is_none is_thin
  asked = go (corners_in_range vs t) (lt (cross_length vs o t) shortest) refl refl
    where
      go : (r b : Bool) → corners_in_range vs t ≡ r → lt (cross_length vs o t) shortest ≡ b → Asked vs t
      go false b h k = record { used = rw h; out_of_range = rw h; sliver = rw h }
      go true false h k = record { used = rw (h, long_enough h, k); out_of_range = rw (h, k); sliver = rw (h, k) }
      go true true h k = record { used = rw (h, long_enough h, k); out_of_range = rw (h, k); sliver = rw (h, k) }

  counted_as_it_adds : CountedAsItAdds vs t
  unfolding is_used part part_of with_part with_surface
  counted_as_it_adds = go (corners_in_range vs t) (lt (cross_length vs o t) shortest) refl refl
    where
      go : (r b : Bool) → corners_in_range vs t ≡ r → lt (cross_length vs o t) shortest ≡ b → CountedAsItAdds vs t
      go false b h k = record { facet = λ y. absurd (rw h at y); no_total = λ y p s. rw h; no_surface = λ y bs. rw h }
      go true false h k =
          record {
            facet = λ y. rw (h, k);
            no_total = λ y p s. absurd (rw (h, long_enough h, k) at y);
            no_surface = λ y bs. absurd (rw (h, long_enough h, k) at y);
          }
      go true true h k =
          record {
            facet = λ y. absurd (rw (h, long_enough h, k) at y);
            no_total = λ y p s. rw (h, k);
            no_surface = λ y bs. rw (h, k);
          }

pub used_where_it_adds : UsedWhereItAdds
used_where_it_adds vs fine t = counted_as_it_adds vs fine t

-- ---- the counts

pub same_count : (f g : Triangle → Bool) → ((t : Triangle) → f t ≡ g t) → (ids : List ℕ) → how_many f ids ≡ how_many g ids
unfolding how_many
same_count f g e ids = same_sums _ _ (λ t. ap bit (e t)) _

pub counts_are : (vs : List Float) (ids : List ℕ) → T (all_fine vs) → part_counts vs (origin (box vs)) ids ≡ counts_of vs (origin (box vs)) ids
unfolding part_counts counts_of
counts_are vs ids fine =
    rw (
      same_count (is_used vs (origin (box vs))) _ (λ t. (asked vs fine t).used) ids,
      same_count (is_out_of_range vs) _ (λ t. (asked vs fine t).out_of_range) ids,
      same_count (is_sliver vs (origin (box vs))) _ (λ t. (asked vs fine t).sliver) ids,
    )

pub counts_add_up : CountsAddUp
unfolding counts_of how_many
counts_add_up vs ids fine = three_make_all _ _ _ one _ ∙ triangles_length ids
  where
    one : (t : Triangle) → bit (is_used vs (origin (box vs)) t) + bit (is_out_of_range vs t) + bit (is_sliver vs (origin (box vs)) t) ≡ 1
    one t = let a = asked vs fine t in rw (a.used, a.out_of_range, a.sliver) (one_of_three (part vs (origin (box vs)) t))
