-- Two triangles share an edge where a side of the one has the edge of a side of the other. What changes with what joins triangles is here.
-- Assumes nothing.
use mathlib.Core.Path.{◌≡◌, refl, sym, ap, ◌∙◌}
use mathlib.Core.Logic.{◌≢◌}
use mathlib.Core.Bool.{Bool, true, false, ◌&&◌}
use mathlib.Core.List.{List}
use Prim.Native.Nat.{ℕ, zero, suc, ◌+◌, ◌-◌, ◌*◌, ◌/◌, ◌%◌, ◌<◌}
use native.Mathlib.Omega.{arith}
use native.Mathlib.Decide.{ℕ_discrete}
use borrow.Author.Tests.{eq-eqb, ne_eqb}
use lib.ListN.{get_or}
use Rattle.ids.specs.Triangles.{triangle}
use Rattle.ids.specs.EdgeChain.{Edge, edge}
use Rattle.ids.specs.Pieces.{solid}
use Rattle.ids.proofs.Same.{both}
use Rattle.ids.proofs.Shared.{side, share_side, side_share}
use Rattle.sides.specs.inner.Joins.{joins}
use Rattle.sides.specs.inner.Sides.{corner_after, side_edge, edge_class, taken}

pub after_next : (c : ℕ) → c % 3 ≢ 2 → corner_after c ≡ c + 1
unfolding corner_after
after_next c ne = rw (ne_eqb (c % 3) 2 ne)

pub after_last : (c : ℕ) → c % 3 ≡ 2 → corner_after c ≡ c - 2
unfolding corner_after
after_last c e = rw (eq-eqb (c % 3) 2 e)

pub after_in : (m c : ℕ) → c / 3 < m / 3 → corner_after c < m
after_in m c l =
    elim (ℕ_discrete (c % 3) 2) [
      | yes e ↦ omega (arith, after_last c e)
      | no ne ↦ omega (arith, after_next c ne)
    ]

ends : (ids : List ℕ) {c d c' d' : ℕ} → c ≡ c' → d ≡ d' → edge (get_or ids c 0) (get_or ids d 0) ≡ edge (get_or ids c' 0) (get_or ids d' 0)
ends ids p q = λ i. edge (get_or ids (p i) 0) (get_or ids (q i) 0)

-- the sides of triangle t, by number
pub side_at : (ids : List ℕ) (t k : ℕ) → k < 3 → side_edge ids (3 * t + k) ≡ side (triangle ids t) k
unfolding side side_edge triangle
side_at ids t zero l = ends ids (omega arith) (after_next (3 * t + 0) (λ e. omega arith) ∙ omega arith)
side_at ids t (suc zero) l = ends ids (omega arith) (after_next (3 * t + 1) (λ e. omega arith) ∙ omega arith)
side_at ids t (suc (suc zero)) l = ends ids (omega arith) (after_last (3 * t + 2) (omega arith) ∙ omega arith)
side_at ids t (suc (suc (suc k))) l = absurd (omega arith)

pub side_first : (ids : List ℕ) (t : ℕ) → side_edge ids (3 * t) ≡ side (triangle ids t) 0
side_first ids t = ap (side_edge ids) (omega arith) ∙ side_at ids t 0 (omega arith)

side_of : (ids : List ℕ) (c : ℕ) → side_edge ids c ≡ side (triangle ids (c / 3)) (c % 3)
side_of ids c =
    let e : c ≡ 3 * (c / 3) + c % 3 = omega arith in
    ap (side_edge ids) e ∙ side_at ids (c / 3) (c % 3) (omega arith)

-- sides with one edge are of triangles that share an edge
pub share_sides : (ids : List ℕ) (i j : ℕ) → side_edge ids i ≡ side_edge ids j → joins (triangle ids (i / 3)) (triangle ids (j / 3)) ≡ true
share_sides ids i j e =
    share_side (triangle ids (i / 3)) (triangle ids (j / 3)) (i % 3) (j % 3) (omega arith) (omega arith)
    (sym (side_of ids i) ∙ e ∙ side_of ids j)

-- and triangles that share an edge have such sides
pub sides_share : (ids : List ℕ) (x y : ℕ) → joins (triangle ids x) (triangle ids y) ≡ true
    → (i j : ℕ) × (i / 3 ≡ x) × (j / 3 ≡ y) × (side_edge ids i ≡ side_edge ids j)
sides_share ids x y h =
    let r = side_share (triangle ids x) (triangle ids y) h in
    let j = r.0 in
    let k = r.1 in
    let lj : j < 3 = r.2 in
    let lk : k < 3 = r.3 in
    (3 * x + j, 3 * y + k, omega arith, omega arith, side_at ids x j lj ∙ r.4 ∙ sym (side_at ids y k lk))

-- ---- classes

pub class_below : (e : Edge) → edge_class e < 3
unfolding edge_class
class_below e = omega arith

module _ (ids : List ℕ) (q c : ℕ) where
  pub taken_solid : taken ids q c ≡ true → solid ids (c / 3) ≡ true
  unfolding taken
  taken_solid h = (both (solid ids (c / 3)) _ h).0

  pub taken_here : solid ids (c / 3) ≡ true → edge_class (side_edge ids c) ≡ q → taken ids q c ≡ true
  unfolding taken
  taken_here s e = rw (s, eq-eqb (edge_class (side_edge ids c)) q e)

  -- no side of another class, and none of a triangle that repeats an id
  pub taken_not : edge_class (side_edge ids c) ≢ q → taken ids q c ≡ false
  unfolding taken
  taken_not ne = rw (ne_eqb (edge_class (side_edge ids c)) q ne) (no_and (solid ids (c / 3)))
    where
      no_and : (a : Bool) → a && false ≡ false
      no_and true = refl
      no_and false = refl

  pub flat_not : solid ids (c / 3) ≡ false → taken ids q c ≡ false
  unfolding taken
  flat_not flat = rw flat
