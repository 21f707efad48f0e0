-- A turned triangle walks the same edges the other way and makes the opposite use of the same face; so does a whole list of reversed ids.
-- Assumes nothing.
use mathlib.Core.Path.{◌≡◌, refl, sym, ap, ◌∙◌}
use mathlib.Core.Logic.{◌≢◌}
use mathlib.Core.Bool.{Bool, true, false, not}
use mathlib.Core.List.{List, [], ◌∷◌}
use Prim.Native.Nat.{ℕ, ◌+◌, ◌*◌, ◌%◌, ◌≤◌, min, max}
use native.Mathlib.Omega.{arith}
use native.Mathlib.Nat.{min_comm, max_comm}
use native.Mathlib.Decide.{dec_lt, dec_le, ℕ_discrete}
use borrow.Author.Tests.{lt-ltb, le-ltb, eq-eqb, ne_eqb, eqb-false, not-true}
use lib.Dec.{ltb, eqb}
use lib.ListN.{length}
use Rattle.ids.specs.Triangles.{Triangle, distinct}
use Rattle.ids.specs.Uses.{bit}
use Rattle.ids.specs.EdgeChain.{same_edge, step, around, enough, chain, proper_step, around_proper, proper_edges}
use Rattle.ids.specs.FaceNet.{same_face, sorted_ids, falls, face_use, face, faces}
use Rattle.ids.specs.Reversed.{turned_triangle, reversed}
use Rattle.ids.proofs.Same.{both}
use Rattle.ids.proofs.Reversed.{reversed_is, turned_distinct}
use Rattle.ids.proofs.Opposite.{Opposite, none_opposite, one_opposite, back_opposite, cond_opposite, reversed_opposite}

-- of two ids that differ, just one is below the other
ltb_back : (u v : ℕ) → u ≢ v → ltb v u ≡ not (ltb u v)
ltb_back u v n =
    elim (dec_lt u v) [
      | yes l ↦ le-ltb v u (omega arith) ∙ sym (ap not (lt-ltb u v l))
      | no l ↦ lt-ltb v u (omega arith) ∙ sym (ap not (le-ltb u v (omega arith)))
    ]

-- the ids of a triangle that repeats none
differ : (t : Triangle) → distinct t ≡ true → (t.a ≢ t.b) × (t.b ≢ t.c) × (t.c ≢ t.a)
unfolding distinct
differ t d =
    let ab = both _ _ d in
    let bc = both _ _ ab.1 in
    (eqb-false _ _ (not-true _ ab.0), eqb-false _ _ (not-true _ bc.0), eqb-false _ _ (not-true _ bc.1))

-- ---- edges

step_back : (u v : ℕ) → u ≢ v → Opposite same_edge (step v u ∷ []) (step u v ∷ [])
unfolding step
step_back u v n = one_opposite same_edge (λ i. record { low = min_comm v u i; high = max_comm v u i }) (ltb_back u v n)

proper_back : (u v : ℕ) → Opposite same_edge (proper_step v u) (proper_step u v)
unfolding proper_step
proper_back u v =
    elim (ℕ_discrete u v) [
      | yes e ↦ rw (eq-eqb u v e, eq-eqb v u (sym e)) (none_opposite same_edge)
      | no n ↦ rw (ne_eqb u v n, ne_eqb v u (λ e. n (sym e))) (step_back u v n)
    ]

proper_turned : (t : Triangle) → Opposite same_edge (around_proper (turned_triangle t)) (around_proper t)
unfolding around_proper
proper_turned t = back_opposite same_edge (proper_back t.a t.b) (proper_back t.b t.c) (proper_back t.c t.a)

around_turned : (t : Triangle) → Opposite same_edge (around (turned_triangle t)) (around t)
unfolding around
around_turned t =
    rw (turned_distinct t) (cond_opposite same_edge (distinct t) (λ d. let n = differ t d in
    back_opposite same_edge (step_back t.a t.b n.0) (step_back t.b t.c n.1) (step_back t.c t.a n.2)))

pub proper_reversed : (ids : List ℕ) → Opposite same_edge (proper_edges (reversed ids)) (proper_edges ids)
proper_reversed = reversed_opposite same_edge around_proper proper_turned

pub chain_reversed : (ids : List ℕ) → Opposite same_edge (chain (reversed ids)) (chain ids)
unfolding chain
chain_reversed ids =
    rw (reversed_is ids).long (cond_opposite same_edge (enough (length ids)) (λ e. reversed_opposite same_edge around around_turned ids))

-- ---- faces

-- the middle of three, as `sorted_ids` has it; the last two may change places
middle : ℕ → ℕ → ℕ → ℕ
middle x y z = max (min x y) (min (max x y) z)

middle_ordered : (x y z : ℕ) → y ≤ z → (middle x y z ≡ max y (min x z)) × (middle x z y ≡ max y (min x z))
unfolding middle
middle_ordered x y z l = (omega arith, omega arith)

middle_swapped : (x y z : ℕ) → middle x z y ≡ middle x y z
middle_swapped x y z =
    elim (dec_le y z) [
      | yes l ↦ (let w = middle_ordered x y z l in w.1 ∙ sym w.0)
      | no l ↦ (let w = middle_ordered x z y (omega arith) in w.0 ∙ sym w.1)
    ]

sorted_turned : (t : Triangle) → sorted_ids (turned_triangle t) ≡ sorted_ids t
unfolding sorted_ids middle
sorted_turned t = λ i. record {
  low = min t.a (min_comm t.c t.b i);
  mid = middle_swapped t.a t.b t.c i;
  high = max t.a (max_comm t.c t.b i);
}

-- of two numbers with an odd sum, just one is even
even_other : (m n k : ℕ) → m + n ≡ 2 * k + 1 → eqb (m % 2) 0 ≡ not (eqb (n % 2) 0)
even_other m n k odd =
    elim (ℕ_discrete (n % 2) 0) [
      | yes e ↦ ne_eqb (m % 2) 0 (λ f. omega arith) ∙ sym (ap not (eq-eqb (n % 2) 0 e))
      | no f ↦ eq-eqb (m % 2) 0 (omega arith) ∙ sym (ap not (ne_eqb (n % 2) 0 f))
    ]

-- of two ids that differ, one pair falls and the other does not
one_falls : (u v : ℕ) → u ≢ v → bit (ltb u v) + bit (ltb v u) ≡ 1
unfolding bit
one_falls u v n = rw (ltb_back u v n) (one_of (ltb u v))
  where
    one_of : (b : Bool) → bit b + bit (not b) ≡ 1
    one_of true = refl
    one_of false = refl

-- turned, a triangle of three distinct ids has the other parity
falls_turned : (t : Triangle) → distinct t ≡ true → eqb (falls (turned_triangle t) % 2) 0 ≡ not (eqb (falls t % 2) 0)
unfolding falls
falls_turned t d =
    even_other (falls (turned_triangle t)) (falls t) (bit (ltb t.b t.a) + bit (ltb t.c t.a))
    (omega (arith, one_falls t.b t.c (differ t d).1))

face_turned : (t : Triangle) → Opposite same_face (face (turned_triangle t)) (face t)
unfolding face face_use
face_turned t =
    rw (turned_distinct t) (cond_opposite same_face (distinct t) (λ d. one_opposite same_face (sorted_turned t) (falls_turned t d)))

pub faces_reversed : (ids : List ℕ) → Opposite same_face (faces (reversed ids)) (faces ids)
faces_reversed = reversed_opposite same_face face face_turned
