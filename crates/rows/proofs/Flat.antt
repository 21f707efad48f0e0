-- Rows and the floats that hold them: each is got back from the other, a row is read and written at four times its place. Assumes nothing.
use mathlib.Core.Path.{◌≡◌, refl, ap}
use mathlib.Core.Bool.{Bool, ◌&&◌}
use mathlib.Core.List.{List, [], ◌∷◌}
use Prim.Native.Nat.{ℕ, zero, suc, ◌+◌, ◌-◌, ◌*◌, ◌≤◌, ◌<◌}
use native.Mathlib.Omega.{arith}
use lib.Dec.{T}
use lib.Ieee.{Float, nan, binary32, fits}
use lib.Ieee.Fits.{and_i}
use lib.ListN.{length, get_or, set}
use Rattle.rows.specs.declared.PlanarSurface.{PlanarSurface}
use Rattle.rows.specs.Rows.{flatten, rows_of}
use Rattle.rows.specs.Sorting.{row_at, all_single}

pub rows_flat : (l : List PlanarSurface) → rows_of (flatten l) ≡ l
unfolding rows_of flatten
rows_flat [] = refl
rows_flat (r ∷ l) = ap (λ (m : List PlanarSurface). r ∷ m) (rows_flat l)

pub length_flatten : (l : List PlanarSurface) → length (flatten l) ≡ 4 * length l
unfolding flatten
length_flatten [] = refl
length_flatten (r ∷ l) = omega (arith, length_flatten l)

pub flat_rows : (t : List Float) (n : ℕ) → length t ≡ 4 * n → flatten (rows_of t) ≡ t
unfolding rows_of flatten
flat_rows [] n h = refl
flat_rows (a ∷ []) n h = absurd (omega arith)
flat_rows (a ∷ x ∷ []) n h = absurd (omega arith)
flat_rows (a ∷ x ∷ y ∷ []) n h = absurd (omega arith)
flat_rows (a ∷ x ∷ y ∷ z ∷ t) n h = ap (λ (u : List Float). a ∷ x ∷ y ∷ z ∷ u) (flat_rows t (n - 1) (omega arith))

-- as many rows as there are whole fours
pub length_rows : (t : List Float) → (4 * length (rows_of t) ≤ length t) × (length t < 4 * length (rows_of t) + 4)
unfolding rows_of
length_rows [] = (omega arith, omega arith)
length_rows (a ∷ []) = (omega arith, omega arith)
length_rows (a ∷ x ∷ []) = (omega arith, omega arith)
length_rows (a ∷ x ∷ y ∷ []) = (omega arith, omega arith)
length_rows (a ∷ x ∷ y ∷ z ∷ t) = let h = length_rows t in (omega (arith, h.0), omega (arith, h.1))

pub row_inside : (t : List Float) (j : ℕ) → 4 * j + 4 ≤ length t → j < length (rows_of t)
row_inside t j h = omega (arith, (length_rows t).1)

-- ---- the row at a place

next_0 : (j : ℕ) → 4 * suc j ≡ suc (suc (suc (suc (4 * j))))
next_0 j = omega arith

next : (j k : ℕ) → 4 * suc j + k ≡ suc (suc (suc (suc (4 * j + k))))
next j k = omega arith

pub row_at_lem : (t : List Float) (j : ℕ) → 4 * j + 4 ≤ length t
    → row_at (rows_of t) j ≡ record {
      area = get_or t (4 * j) nan;
      nx = get_or t (4 * j + 1) nan;
      ny = get_or t (4 * j + 2) nan;
      nz =
          get_or t (4 * j + 3) nan;
    }
unfolding rows_of
row_at_lem [] j h = absurd (omega arith)
row_at_lem (a ∷ []) j h = absurd (omega arith)
row_at_lem (a ∷ x ∷ []) j h = absurd (omega arith)
row_at_lem (a ∷ x ∷ y ∷ []) j h = absurd (omega arith)
row_at_lem (a ∷ x ∷ y ∷ z ∷ t) zero h = refl
row_at_lem (a ∷ x ∷ y ∷ z ∷ t) (suc j) h = rw (next j 3, next j 2, next j 1, next_0 j) (row_at_lem t j (omega arith))

pub rows_put : (t : List Float) (j : ℕ) (r : PlanarSurface) → 4 * j + 4 ≤ length t
    → rows_of (set (set (set (set t (4 * j) r.area) (4 * j + 1) r.nx) (4 * j + 2) r.ny) (4 * j + 3) r.nz) ≡ set (rows_of t) j r
unfolding rows_of
rows_put [] j r h = absurd (omega arith)
rows_put (a ∷ []) j r h = absurd (omega arith)
rows_put (a ∷ x ∷ []) j r h = absurd (omega arith)
rows_put (a ∷ x ∷ y ∷ []) j r h = absurd (omega arith)
rows_put (a ∷ x ∷ y ∷ z ∷ t) zero r h = refl
rows_put (a ∷ x ∷ y ∷ z ∷ t) (suc j) r h =
    rw (next j 3, next j 2, next j 1, next_0 j)
    (ap (λ (l : List PlanarSurface). record { area = a; nx = x; ny = y; nz = z } ∷ l) (rows_put t j r (omega arith)))

-- ---- floats of binary32 make rows of binary32

pub rows_single : (t : List Float) → ((i : ℕ) → T (fits binary32 (get_or t i nan))) → T (all_single (rows_of t))
unfolding rows_of all_single
rows_single [] h = tt
rows_single (a ∷ []) h = tt
rows_single (a ∷ x ∷ []) h = tt
rows_single (a ∷ x ∷ y ∷ []) h = tt
rows_single (a ∷ x ∷ y ∷ z ∷ t) h =
    let f : Float → Bool = fits binary32 in
    and_i (f a && (f x && (f y && f z))) (all_single (rows_of t))
    (and_i (f a) (f x && (f y && f z)) (h 0) (and_i (f x) (f y && f z) (h 1) (and_i (f y) (f z) (h 2) (h 3))))
    (rows_single t (λ i. h (suc (suc (suc (suc i))))))
