-- The uses that one triangle makes: at most three, and of no edge two in one direction. So one triangle raises the bound on an edge's
-- uses each way by one. Assumes nothing.
use mathlib.Core.Path.{◌≡◌, refl, sym, ap, ◌∙◌}
use mathlib.Core.Logic.{◌≢◌}
use mathlib.Core.Bool.{Bool, true, false, ◌&&◌, true≢false}
use mathlib.Core.List.{List, [], ◌∷◌, ◌++◌}
use Prim.Native.Nat.{ℕ, ◌+◌, ◌≤◌, min, max}
use native.Mathlib.Omega.{arith}
use native.Mathlib.Decide.{ℕ_discrete, dec_lt}
use borrow.Author.Tests.{eq-eqb, ne_eqb, lt-ltb, le-ltb}
use lib.Dec.{ltb}
use lib.ListN.{length, length-append}
use Rattle.ids.specs.Triangles.{Triangle, distinct}
use Rattle.ids.specs.Uses.{Use, uses, bit}
use Rattle.ids.specs.EdgeChain.{Edge, same_edge, step, around, proper_step, around_proper}
use Rattle.table.specs.inner.Table.{ups}
use Rattle.ids.proofs.Triangles.{repeats_ab, repeats_bc, repeats_ca, repeats_none}
use Rattle.steps.specs.inner.Rows.{UsesWithin, EdgesAdded}
use Rattle.edges.specs.inner.Gather.{TriangleAdded}
use Rattle.ids.proofs.Same.{edge_eq}
use Rattle.ids.proofs.Uses.{uses_append}
use Rattle.steps.proofs.Within.{ups_append, within_length}

-- ---- one step

module _ (u v : ℕ) where
  pub step_level : u ≡ v → proper_step u v ≡ []
  unfolding proper_step
  step_level e = rw (eq-eqb u v e)

  pub step_proper : u ≢ v → proper_step u v ≡ step u v ∷ []
  unfolding proper_step
  step_proper n = rw (ne_eqb u v n)

  pub step_length : length (proper_step u v) ≤ 1
  step_length = elim (ℕ_discrete u v) [ yes e ↦ rw (step_level e) (omega arith) | no n ↦ rw (step_proper n) (omega arith) ]

-- ---- two steps, one after the other

-- two uses that are not of one edge in one direction
pair_within : (x y : Use Edge) → (x.up ≡ y.up → x.key ≢ y.key) → UsesWithin 1 (x ∷ y ∷ [])
unfolding uses ups bit
pair_within x y apart k = go (same_edge k x.key) (same_edge k y.key) x.up y.up refl refl refl refl
  where
    go : (s t p q : Bool) → same_edge k x.key ≡ s → same_edge k y.key ≡ t → x.up ≡ p → y.up ≡ q
        → (bit (s && p) + (bit (t && q) + 0) ≤ 1) × (bit s + (bit t + 0) ≤ bit (s && p) + (bit (t && q) + 0) + 1)
    go true true true true e f g h = absurd (apart (g ∙ sym h) (sym (edge_eq k x.key e) ∙ edge_eq k y.key f))
    go true true false false e f g h = absurd (apart (g ∙ sym h) (sym (edge_eq k x.key e) ∙ edge_eq k y.key f))
    go true true true false e f g h = (omega arith, omega arith)
    go true true false true e f g h = (omega arith, omega arith)
    go true false true q e f g h = (omega arith, omega arith)
    go true false false q e f g h = (omega arith, omega arith)
    go false true p true e f g h = (omega arith, omega arith)
    go false true p false e f g h = (omega arith, omega arith)
    go false false p q e f g h = (omega arith, omega arith)

module _ (u v w : ℕ) where
  -- if both were of one edge, the second would lead back to u, in the other direction
  turns : u ≢ v → v ≢ w → ltb u v ≡ ltb v w → (step u v).key ≢ (step v w).key
  unfolding step
  turns n o same e = elim (dec_lt u v) [
    | yes l ↦ true≢false (sym (lt-ltb u v l) ∙ same ∙ le-ltb v w (omega (arith, back)))
    | no l ↦ true≢false (sym (lt-ltb v w (omega (arith, back))) ∙ sym same ∙ le-ltb u v (omega arith))
  ]
    where
      back : u ≡ w
      back =
          let a : min u v ≡ min v w = ap (λ (z : Edge). z.low) e in let b : max u v ≡ max v w = ap (λ (z : Edge). z.high) e in omega arith

  -- two steps, one after the other, use no edge twice in one direction
  two_steps : UsesWithin 1 (proper_step u v ++ proper_step v w)
  unfolding step
  two_steps = elim (ℕ_discrete u v) [
    | yes e ↦ rw (step_level u v e) (within_length 1 (proper_step v w) (step_length v w))
    | no n ↦ elim (ℕ_discrete v w) [
      | yes e ↦ rw (step_level v w e) (within_length 1 (proper_step u v ++ []) (rw length-append (omega (arith, step_length u v))))
      | no o ↦ rw (step_proper u v n, step_proper v w o) (pair_within (step u v) (step v w) (turns n o))
    ]
  ]

-- ---- the three steps round a triangle

-- any two of them stand one after the other
proper_within : (t : Triangle) → UsesWithin 1 (around_proper t)
unfolding around_proper
proper_within t k =
    let ab : List (Use Edge) = proper_step t.a t.b in
    let bc : List (Use Edge) = proper_step t.b t.c in
    let ca : List (Use Edge) = proper_step t.c t.a in
    let p = two_steps t.a t.b t.c k in
    let q = two_steps t.b t.c t.a k in
    let r = two_steps t.c t.a t.b k in
    let e₁ = ups_append k ab (bc ++ ca) in
    let e₂ = ups_append k bc ca in
    let e₃ = ups_append k ab bc in
    let e₄ = ups_append k ca ab in
    let f₁ = uses_append same_edge k ab (bc ++ ca) in
    let f₂ = uses_append same_edge k bc ca in
    let f₃ = uses_append same_edge k ab bc in
    let f₄ = uses_append same_edge k ca ab in
    (omega (arith, p.0, q.0, r.0), omega (arith, p.1, q.1, r.1))

proper_length : (t : Triangle) → length (around_proper t) ≤ 3
unfolding around_proper
proper_length t = simp length-append (omega (arith, step_length t.a t.b, step_length t.b t.c, step_length t.c t.a))

-- ---- triangles that repeat an id

pub around_none : (t : Triangle) → distinct t ≡ false → around t ≡ []
unfolding around
around_none t e = rw e

pub around_all : (t : Triangle) → distinct t ≡ true → around t ≡ step t.a t.b ∷ step t.b t.c ∷ step t.c t.a ∷ []
unfolding around
around_all t e = rw e

around_proper_lem : (a b c : ℕ) → a ≢ b → b ≢ c → c ≢ a
    → around (record { a = a; b = b; c = c }) ≡ around_proper (record { a = a; b = b; c = c })
unfolding around_proper
around_proper_lem a b c n o p =
    around_all (record { a = a; b = b; c = c }) (repeats_none a b c n o p)
    ∙ sym (rw (step_proper a b n, step_proper b c o, step_proper c a p))

-- a triangle makes no use, or just those of its steps between distinct ids
none_or_proper : (P : List (Use Edge) → Type 0) (t : Triangle) → P [] → P (around_proper t) → P (around t)
none_or_proper P t none all =
    elim (ℕ_discrete t.a t.b) [
      | yes e ↦ rw (around_none t (repeats_ab t.a t.b t.c e)) none
      | no n ↦ elim (ℕ_discrete t.b t.c) [
        | yes e ↦ rw (around_none t (repeats_bc t.a t.b t.c n e)) none
        | no o ↦ elim (ℕ_discrete t.c t.a) [
          | yes e ↦ rw (around_none t (repeats_ca t.a t.b t.c n o e)) none
          | no p ↦ rw (around_proper_lem t.a t.b t.c n o p) all
        ]
      ]
    ]

-- ---- one triangle, either way of dropping

-- each edge is used at most once in each direction
pub triangle_within : (t : Triangle) → UsesWithin 1 (around t) × UsesWithin 1 (around_proper t)
triangle_within t = (none_or_proper (UsesWithin 1) t (within_length 1 [] (omega arith)) (proper_within t), proper_within t)

pub proper_added : {n : ℕ} {t u : List ℕ} (r : Triangle) → EdgesAdded n t u (around_proper r) → TriangleAdded n t u (around_proper r)
proper_added r a = record { added = a; few = proper_length r; within = (triangle_within r).1 }

pub whole_added : {n : ℕ} {t u : List ℕ} (r : Triangle) → EdgesAdded n t u (around r) → TriangleAdded n t u (around r)
whole_added r a = record {
  added = a;
  few = none_or_proper (λ es. length es ≤ 3) r (omega arith) (proper_length r);
  within = (triangle_within r).0;
}
