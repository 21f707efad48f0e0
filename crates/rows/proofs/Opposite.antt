-- The glove on rows (02, A9): opposite rows are as many, scaled as the rows are, plain and of binary32 where the rows are. Sorted they are
-- the same whether the rows were sorted before or not, and each row's opposite is among them. Assumes nothing.
use mathlib.Core.Path.{◌≡◌, refl, ap, ◌∙◌}
use mathlib.Core.List.{List, [], ◌∷◌}
use Prim.Native.Nat.{zero, suc}
use native.Mathlib.Omega.{arith}
use lib.Dec.{T}
use lib.Ieee.{Float, nan, inf, fin, binary32, neg}
use lib.Ieee.Fits.{neg-fits}
use lib.ListN.{length}
use Rattle.ieee.specs.Number.{as_number, opposite}
use Rattle.ieee.proofs.Values.AsNumber.{as_number_fits}
use Rattle.rows.specs.declared.PlanarSurface.{PlanarSurface}
use Rattle.rows.specs.Rows.{sorted, scaled, scaled_row}
use Rattle.rows.specs.Plain.{plain_float, all_plain}
use Rattle.rows.specs.Sorting.{all_single}
use Rattle.rows.specs.Opposite.{opposite_row, opposite_rows, Partnered}
use Rattle.rows.proofs.Order.{sorted_same, plain_same, single_same}
use Rattle.rows.proofs.Kept.{row_kept}
use Rattle.rows.proofs.Mapped.{RowByRow, mapped_length, mapped_at, sorted_mapped, normals_plain, normals_single}

-- ---- row by row

pub opposite_rows_lem : RowByRow opposite_row opposite_rows
unfolding opposite_rows
opposite_rows_lem = record { none = refl; next = λ r l. refl }

pub opposite_length : (l : List PlanarSurface) → length (opposite_rows l) ≡ length l
opposite_length = mapped_length opposite_rows_lem

pub opposite_scaled : (by : Float) (l : List PlanarSurface) → scaled by (opposite_rows l) ≡ opposite_rows (scaled by l)
unfolding scaled opposite_rows
opposite_scaled by [] = refl
opposite_scaled by (r ∷ l) = ap (λ (m : List PlanarSurface). opposite_row (scaled_row by r) ∷ m) (opposite_scaled by l)

-- ---- plain and of binary32

plain_opposite : (x : Float) → T (plain_float x) → T (plain_float (opposite x))
unfolding plain_float neg as_number
plain_opposite nan h = h
plain_opposite (inf s) h = tt
plain_opposite (fin s zero e) h = tt
plain_opposite (fin s (suc m) e) h = tt

pub opposite_plain : (l : List PlanarSurface) → T (all_plain l) → T (all_plain (opposite_rows l))
opposite_plain = normals_plain opposite opposite_rows_lem plain_opposite

pub opposite_single : (l : List PlanarSurface) → T (all_single l) → T (all_single (opposite_rows l))
opposite_single = normals_single opposite opposite_rows_lem (λ x h. as_number_fits binary32 (neg x) (neg-fits binary32 x h))

-- ---- sorted

pub sorted_opposites : (l : List PlanarSurface) → T (all_plain l) → T (all_single l)
    → sorted (opposite_rows (sorted l)) ≡ sorted (opposite_rows l)
sorted_opposites l a f = sorted_mapped opposite_rows_lem l (opposite_plain l a) (opposite_single l f)

pub opposite_partnered : (l : List PlanarSurface) → T (all_plain l) → T (all_single l)
    → Partnered (sorted l) (sorted (opposite_rows (sorted l)))
opposite_partnered l a f i h =
    let s = sorted l in
    let o = opposite_rows s in
    let plain = opposite_plain s (plain_same l s (sorted_same l) a) in
    let single = opposite_single s (single_same l s (sorted_same l) f) in
    let k = row_kept o (sorted o) plain single (sorted_same o) i (omega (arith, opposite_length s)) in
    (k.0, k.1, k.2 ∙ mapped_at opposite_rows_lem s i h)
