-- What one triangle adds to the raster, by whether it counts and by whether its ids are in range; and what all triangles so far have added.
-- Assumes nothing.
use mathlib.Core.Path.{◌≡◌, refl}
use mathlib.Core.Bool.{Bool, true, false, ◌&&◌, cond}
use mathlib.Core.List.{List}
use Prim.Native.Nat.{ℕ, ◌+◌, ◌/◌, ◌%◌}
use native.Mathlib.Numerals.{add-one}
use lib.Ieee.{Float}
use Rattle.ids.specs.Triangles.{Triangle, triangle, triangle_count}
use Rattle.vertices.specs.Vertices.{corners_in_range}
use Rattle.grid.specs.declared.Flat.{Flat}
use Rattle.grid.specs.declared.Grid.{Grid}
use Rattle.grid.specs.declared.Place.{Place}
use Rattle.grid.specs.Point.{counts, place_number}
use Rattle.grid.specs.Grid.{first_cell, last_cell}
use Rattle.paint.specs.Covered.{flat, between, centre_lies, in_rows, in_columns, cell_lies, lies}
use Rattle.paint.specs.inner.Painted.{only_if, centre_number, most_of, cell_number, Adds}
use Rattle.paint.proofs.Painting.{adds_none, adds_same, adds_both}

-- outside is 0
number_if : (b : Bool) (p : Place) → only_if b (place_number p) ≡ place_number (cond b p Place.Outside)
unfolding place_number
number_if true p = refl
number_if false p = refl

-- ---- a triangle in the plane

module _ (g : Grid) (t : Flat) where
  -- it counts: the cells of its box, by their centres
  pub counts_in : {s u : List ℕ} (lo hi first last : ℕ) → counts t ≡ true
      → lo ≡ first_cell g.columns t.a.x t.b.x t.c.x → hi ≡ last_cell g.columns t.a.x t.b.x t.c.x
      → first ≡ first_cell g.rows t.a.y t.b.y t.c.y → last ≡ last_cell g.rows t.a.y t.b.y t.c.y
      → Adds s u (λ k. only_if (between first last (k / g.columns.n) && between lo hi (k % g.columns.n)) (centre_number g t (k % g.columns.n) (k / g.columns.n)))
      → Adds s u (λ k. place_number (cell_lies g t (k % g.columns.n) (k / g.columns.n)))
  unfolding cell_lies in_rows in_columns centre_number
  counts_in lo hi first last e p q v w a =
      adds_same _ a (λ k. rw (e, p, q, v, w)
      (number_if (in_rows g t (k / g.columns.n) && in_columns g t (k % g.columns.n)) (centre_lies g t (k % g.columns.n) (k / g.columns.n))))

  -- it does not
  pub counts_out : (s : List ℕ) → counts t ≡ false → Adds s s (λ k. place_number (cell_lies g t (k % g.columns.n) (k / g.columns.n)))
  unfolding cell_lies place_number
  counts_out s e = adds_none s _ (λ k. rw e)

-- ---- a triangle of the mesh, and all of them

module _ (vs : List Float) (u v : ℕ) (g : Grid) where
  pub lies_in : {s w : List ℕ} (t : Triangle) → corners_in_range vs t ≡ true
      → Adds s w (λ k. place_number (cell_lies g (flat vs u v t) (k % g.columns.n) (k / g.columns.n)))
      → Adds s w (λ k. place_number (lies vs u v g t (k % g.columns.n) (k / g.columns.n)))
  unfolding lies
  lies_in t e a = adds_same _ a (λ k. rw e)

  pub lies_out : (s : List ℕ) (t : Triangle) → corners_in_range vs t ≡ false
      → Adds s s (λ k. place_number (lies vs u v g t (k % g.columns.n) (k / g.columns.n)))
  unfolding lies place_number
  lies_out s t e = adds_none s _ (λ k. rw e)

  -- what is said of cell k by the triangles with a number below n
  unfoldable pub all_sofar : List ℕ → ℕ → ℕ → ℕ
  all_sofar ids n k = most_of (λ t. place_number (lies vs u v g (triangle ids t) (k % g.columns.n) (k / g.columns.n))) n

  pub all_first : (ids s : List ℕ) → Adds s s (all_sofar ids 0)
  unfolding all_sofar most_of
  all_first ids s = adds_none s (all_sofar ids 0) (λ k. refl)

  pub all_next : {s t w : List ℕ} (ids : List ℕ) (n : ℕ) → Adds s t (all_sofar ids n)
      → Adds t w (λ k. place_number (lies vs u v g (triangle ids n) (k % g.columns.n) (k / g.columns.n)))
      → Adds s w (all_sofar ids (n + 1))
  unfolding all_sofar most_of
  all_next ids n a b = adds_same (all_sofar ids (n + 1)) (adds_both a b) (λ k. rw (add-one n))

  pub all_last : {s t : List ℕ} (ids : List ℕ) (n : ℕ) → n ≡ triangle_count ids → Adds s t (all_sofar ids n)
      → Adds s t (λ k. cell_number vs u v g ids (k % g.columns.n) (k / g.columns.n))
  unfolding all_sofar cell_number
  all_last ids n e a = adds_same _ a (λ k. rw e)
