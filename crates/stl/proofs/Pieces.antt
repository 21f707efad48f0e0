-- Each triangle of an STL is a piece of its own: no two have an id in common, so none have an edge. Assumes nothing.
use mathlib.Core.Path.{◌≡◌, refl, ◌∙◌}
use mathlib.Core.Bool.{Bool, true, false}
use Prim.Native.Nat.{ℕ, ◌+◌, ◌*◌, ◌<◌}
use native.Mathlib.Omega.{arith}
use borrow.Author.Tests.{ne_eqb}
use Rattle.ids.specs.Triangles.{Triangle, distinct, triangle, triangle_count}
use Rattle.ids.specs.Pieces.{share_edge, solid, solids, pieces}
use Rattle.ids.specs.ByIds.{has, share_id}
use Rattle.ids.proofs.Shared.{edge_id}
use Rattle.ids.proofs.Apart.{down, as_many_groups, length_down, those_all, apart_down}
use Rattle.stl.specs.Stl.{ids_to}
use Rattle.stl.specs.Worth.{PiecesOfStl}
use Rattle.stl.proofs.Ids.{ids_length, each_id}

-- the triangle with the ids 3t, 3t + 1 and 3t + 2
abbrev numbered : ℕ → Triangle
numbered t = record { a = 3 * t; b = 3 * t + 1; c = 3 * t + 2 }

numbered_distinct : (t : ℕ) → distinct (numbered t) ≡ true
unfolding distinct
numbered_distinct t =
    rw (
      ne_eqb (3 * t) (3 * t + 1) (λ e. omega (arith, e)),
      ne_eqb (3 * t + 1) (3 * t + 2) (λ e. omega (arith, e)),
      ne_eqb (3 * t + 2) (3 * t) (λ e. omega (arith, e)),
    )

no_common_id : (s u : ℕ) → u < s → share_id (numbered s) (numbered u) ≡ false
unfolding share_id has
no_common_id s u l =
    rw (
      ne_eqb (3 * s) (3 * u) (λ e. omega (arith, e)),
      ne_eqb (3 * s) (3 * u + 1) (λ e. omega (arith, e)),
      ne_eqb (3 * s) (3 * u + 2) (λ e. omega (arith, e)),
      ne_eqb (3 * s + 1) (3 * u) (λ e. omega (arith, e)),
      ne_eqb (3 * s + 1) (3 * u + 1) (λ e. omega (arith, e)),
      ne_eqb (3 * s + 1) (3 * u + 2) (λ e. omega (arith, e)),
      ne_eqb (3 * s + 2) (3 * u) (λ e. omega (arith, e)),
      ne_eqb (3 * s + 2) (3 * u + 1) (λ e. omega (arith, e)),
      ne_eqb (3 * s + 2) (3 * u + 2) (λ e. omega (arith, e)),
    )

no_edge : (s t : Triangle) → share_id s t ≡ false → (b : Bool) → share_edge s t ≡ b → b ≡ false
no_edge s t none false e = refl
no_edge s t none true e =
    let common : share_id s t ≡ true = edge_id s t e in
    let y : ◌≡◌ {A = ℕ} 0 1 = cc in
    absurd (omega arith)

module _ (n : ℕ) where
  is_numbered : (t : ℕ) → t < n → triangle (ids_to n) t ≡ numbered t
  unfolding triangle
  is_numbered t l =
      let first : 3 * t + 0 ≡ 3 * t = omega arith in
      rw (rw first at (each_id n t 0 l (omega arith)), each_id n t 1 l (omega arith), each_id n t 2 l (omega arith))

  all_solid : (t : ℕ) → t < n → solid (ids_to n) t ≡ true
  unfolding solid
  all_solid t l = rw (is_numbered t l) (numbered_distinct t)

  solids_are : solids (ids_to n) ≡ down n
  unfolding solids
  solids_are =
      let count : triangle_count (ids_to n) ≡ n = omega (arith, ids_length n) in
      rw count (those_all (solid (ids_to n)) n all_solid)

  abbrev sharing : ℕ → ℕ → Bool
  sharing s u = share_edge (triangle (ids_to n) s) (triangle (ids_to n) u)

  none_sharing : (s u : ℕ) → s < n → u < s → sharing s u ≡ false
  none_sharing s u ls lu =
      rw (is_numbered s ls, is_numbered u (omega arith)) (no_edge (numbered s) (numbered u) (no_common_id s u lu) _ refl)

  one_each : pieces share_edge (ids_to n) ≡ n
  unfolding pieces
  one_each = rw solids_are (as_many_groups sharing (down n) (apart_down sharing n none_sharing) ∙ length_down n)

pub pieces_of_stl : PiecesOfStl
pieces_of_stl n = one_each n
