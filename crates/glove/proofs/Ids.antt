-- The routines on ids do not see the turn: their answers are made of what edges, faces and pieces say, and that is the same. Assumes
-- nothing.
use mathlib.Core.Path.{◌≡◌, ap}
use mathlib.Core.List.{List}
use Prim.Native.Nat.{ℕ, ◌*◌}
use lib.ListN.{length}
use Rattle.ids.specs.Triangles.{triangle_count}
use Rattle.ids.specs.declared.refusal.Refusal.{Refusal}
use Rattle.ids.specs.Lent.{Gives}
use Rattle.ids.specs.Reversed.{reversed}
use Rattle.ids.proofs.Reversed.{reversed_is}
use Rattle.ids.proofs.ReversedAlike.{reversed_alike}
use Rattle.chain.specs.Answers.{incidence_of, net_of}
use Rattle.chain.specs.Numbers.{incidence_number, net_number}
use Rattle.glove.specs.Ids.{Unseen, IdsUnseen}

-- as many ids, so the same refusal and the same words; and the same answer
unseen : {A : Type 0} (needed : List ℕ → ℕ) (refused : Refusal → A) (answer : List ℕ → A)
    → ((ids : List ℕ) → needed (reversed ids) ≡ needed ids) → ((ids : List ℕ) → answer (reversed ids) ≡ answer ids)
    → Unseen (λ ids area r after. Gives (needed ids) refused (answer ids) ids area r after)
unseen needed refused answer n e ids area r r' after after' g g' =
    (rw (g.answers, g'.answers, (reversed_is ids).long, n ids, e ids), rw (g.leaves, g'.leaves, (reversed_is ids).long, n ids))

-- what the answers are made of
module _ (ids : List ℕ) where
  incidence_same : incidence_of (reversed ids) ≡ incidence_of ids
  incidence_same = let a = reversed_alike ids in rw (a.boundary_free_lem, a.over_incident_lem)

  net_same : net_of (reversed ids) ≡ net_of ids
  net_same = let a = reversed_alike ids in rw (a.max_abs_lem, a.all_cancel_lem)

  -- and how many words are asked for
  four_an_id : 4 * length (reversed ids) ≡ 4 * length ids
  four_an_id = rw (reversed_is ids).long

  four_a_triangle : 4 * triangle_count (reversed ids) ≡ 4 * triangle_count ids
  four_a_triangle = rw (reversed_is ids).long

  one_a_triangle : triangle_count (reversed ids) ≡ triangle_count ids
  one_a_triangle = rw (reversed_is ids).long

pub ids_unseen : IdsUnseen
ids_unseen =
    record {
      edge_chain = unseen _ _ _ four_an_id (λ ids. rw (incidence_same ids));
      face_net = unseen _ _ _ four_a_triangle (λ ids. rw (net_same ids));
      is_closed_manifold = unseen _ _ _ four_an_id (λ ids. rw (reversed_alike ids).closed_manifold_lem);
      winding_coherent = unseen _ _ _ four_an_id (λ ids. rw (reversed_alike ids).winding_coherent_lem);
      piece_count = unseen _ _ _ one_a_triangle (λ ids. rw (reversed_alike ids).piece_count);
      mf_edge_chain = unseen _ _ _ four_an_id (λ ids. ap incidence_number (incidence_same ids));
      mf_face_net = unseen _ _ _ four_a_triangle (λ ids. ap net_number (net_same ids));
      mf_is_closed_manifold = unseen _ _ _ four_an_id (λ ids. rw (reversed_alike ids).closed_manifold_lem);
      mf_winding_coherent = unseen _ _ _ four_an_id (λ ids. rw (reversed_alike ids).winding_coherent_lem);
      mf_pieces = unseen _ _ _ one_a_triangle (λ ids. rw (reversed_alike ids).piece_count);
    }
