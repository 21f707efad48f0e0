-- The rows of the reversed mesh are the rows of the mesh with opposite normals, put in order; so largest, smallest and their number stay.
-- Assumes nothing.
use mathlib.Core.Path.{◌≡◌, refl, sym, ◌∙◌, ap}
use mathlib.Core.List.{List}
use Prim.Native.Nat.{ℕ, ◌*◌}
use native.Mathlib.Omega.{arith}
use lib.Dec.{T}
use lib.ListN.{length, drop}
use lib.Seq.{take_at, drop_at}
use lib.Ieee.{Float}
use Rattle.ids.specs.Triangles.{triangle_count}
use Rattle.ids.specs.Reversed.{reversed}
use Rattle.ids.proofs.Reversed.{reversed_is}
use Rattle.rows.specs.declared.PlanarSurface.{PlanarSurface}
use Rattle.rows.specs.Rows.{flatten, rows_of, scaled, sorted, largest, smallest}
use Rattle.rows.specs.Plain.{all_plain}
use Rattle.rows.specs.Sorting.{all_single}
use Rattle.rows.specs.Opposite.{opposite_rows, Partnered, areas_of}
use Rattle.rows.proofs.Flat.{rows_flat, length_flatten}
use Rattle.rows.proofs.Opposite.{opposite_partnered, opposite_scaled, sorted_opposites}
use Rattle.rows.proofs.Erased.{opposite_areas, same_largest, same_length, same_smallest}
use Rattle.surfaces.specs.Surfaces.{rows}
use Rattle.surfaces.proofs.Opposite.{rows_opposite}
use Rattle.walk.proofs.Worth.{buckets_plain, rows_single}
use Rattle.walk.proofs.Turned.{buckets_turned}
use Rattle.refusals.specs.Refusals.{Passes}
use Rattle.qto.specs.Full.{square, buckets, surface_rows, surfaces_after}
use Rattle.qto.proofs.Measured.{unit_square}
use Rattle.glove.specs.Turned.{rows_in, TurnedRows}

-- n rows stand in front, and behind them what stood there
in_front : (vs : List Float) (ids : List ℕ) (u : Float) (s : List Float) (n : ℕ) → length (surface_rows vs ids u) ≡ n
    → (rows_in n (surfaces_after vs ids u s) ≡ surface_rows vs ids u) × (drop (4 * n) (surfaces_after vs ids u s) ≡ drop (4 * n) s)
unfolding surfaces_after
in_front vs ids u s n e =
    let rs = surface_rows vs ids u in
    let long : length (flatten rs) ≡ 4 * n = length_flatten rs ∙ ap (λ (k : ℕ). 4 * k) e in
    (ap rows_of (take_at (flatten rs) _ (4 * n) long) ∙ rows_flat rs, drop_at (flatten rs) _ (4 * n) long ∙ rw e)

module _ (vs : List Float) (ids : List ℕ) (u : Float) (e : ℕ) (p : Passes vs ids u e) where
  -- the rows before they are put in order
  abbrev loose : List PlanarSurface
  loose = scaled (square u) (rows (buckets vs ids))

  plain : T (all_plain loose)
  unfolding buckets
  plain = buckets_plain vs ids (square u) (triangle_count ids) p.fine (unit_square u p.unit)

  single : T (all_single loose)
  single = rows_single (square u) (buckets vs ids)

  loose_turned : scaled (square u) (rows (buckets vs (reversed ids))) ≡ opposite_rows loose
  unfolding buckets
  loose_turned =
      rw (
        (reversed_is ids).long,
        buckets_turned vs ids p.fine (triangle_count ids) (omega arith),
        rows_opposite,
        opposite_scaled,
      )

  pub rows_turned : surface_rows vs (reversed ids) u ≡ sorted (opposite_rows (surface_rows vs ids u))
  unfolding surface_rows
  rows_turned = ap sorted loose_turned ∙ sym (sorted_opposites loose plain single)

  areas_same : areas_of (surface_rows vs (reversed ids) u) ≡ areas_of (surface_rows vs ids u)
  unfolding surface_rows
  areas_same = rw loose_turned (opposite_areas loose plain single)

  partners : Partnered (surface_rows vs ids u) (surface_rows vs (reversed ids) u)
  unfolding surface_rows
  partners = rw (loose_turned, ← sorted_opposites loose plain single) (opposite_partnered loose plain single)

  pub same_count : length (surface_rows vs (reversed ids) u) ≡ length (surface_rows vs ids u)
  same_count = same_length _ _ areas_same

  pub largest_same : largest (surface_rows vs (reversed ids) u) ≡ largest (surface_rows vs ids u)
  largest_same = same_largest _ _ areas_same

  pub smallest_same : smallest (surface_rows vs (reversed ids) u) ≡ smallest (surface_rows vs ids u)
  smallest_same = same_smallest _ _ areas_same

  -- ---- in the surface area

  pub area_turned : (s : List Float)
      → TurnedRows (length (surface_rows vs ids u)) (surfaces_after vs ids u s) (surfaces_after vs (reversed ids) u s)
  area_turned s =
      let n = length (surface_rows vs ids u) in
      let here = in_front vs ids u s n refl in
      let there = in_front vs (reversed ids) u s n same_count in
      record {
        rows = rw (here.0, there.0) rows_turned;
        partners = rw (here.0, there.0) partners;
        areas = rw (here.0, there.0) areas_same;
        rest = there.1 ∙ sym here.1;
      }
