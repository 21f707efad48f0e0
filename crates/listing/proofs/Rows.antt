-- Lines of rows: what is left from row i on is its line and what is left from row i + 1 on, and a line has 36 bytes. Assumes nothing.
use mathlib.Core.Path.{◌≡◌, refl, ◌∙◌}
use mathlib.Core.List.{List, [], ◌∷◌, ◌++◌}
use Prim.Native.Nat.{ℕ, suc, ◌+◌, ◌-◌, ◌*◌, ◌≤◌, ◌<◌}
use native.Mathlib.Omega.{arith}
use lib.ListN.{length, get_or, take, drop, drop_of_length-le}
use lib.Seq.{drop-cons}
use lib.Ieee.{Float, nan}
use Rattle.rows.specs.declared.PlanarSurface.{PlanarSurface}
use Rattle.rows.specs.Rows.{rows_of}
use Rattle.rows.proofs.Flat.{length_rows}
use Rattle.spelling.specs.Text.{codes, hex, bits}
use Rattle.spelling.specs.inner.Steps.{filled_at, filled}
use Rattle.listing.specs.Listing.{row_line, row_lines}

drop_more : (s : List Float) (i j : ℕ) → j ≡ suc i → i < length s → drop i s ≡ get_or s i nan ∷ drop j s
drop_more s i j e l = rw e (drop-cons s i nan l)

drop_four : (s : List Float) (i j : ℕ) → j ≡ i + 4 → i + 4 ≤ length s
    → drop i s ≡ get_or s i nan ∷ get_or s (i + 1) nan ∷ get_or s (i + 2) nan ∷ get_or s (i + 3) nan ∷ drop j s
drop_four s i j e l =
    drop_more s i (i + 1) (omega arith) (omega arith)
    ∙ rw (drop_more s (i + 1) (i + 2) (omega arith) (omega arith), drop_more s (i + 2) (i + 3) (omega arith) (omega arith))
    (rw (drop_more s (i + 3) j (omega arith) (omega arith)))

-- the lines from row i on
abbrev pub lines_from : List Float → ℕ → List ℕ
lines_from s i = row_lines (rows_of (drop (4 * i) s))

row_filled : (a x y z : Float) → row_line (record { area = a; nx = x; ny = y; nz = z }) ≡ filled (codes "# # # #\n") (a ∷ x ∷ y ∷ z ∷ [])
unfolding row_line filled_at filled bits hex
row_filled a x y z = refl

-- what the code puts for row i
abbrev pub row_text : List Float → ℕ → List ℕ
row_text s i = filled (codes "# # # #\n") (take (4 * i + 4 - 4 * i) (drop (4 * i) s))

module _ (s : List Float) (i : ℕ) where
  pub lines_next : 4 * i + 4 ≤ length s → lines_from s i ≡ row_text s i ++ lines_from s (i + 1)
  unfolding row_lines rows_of
  lines_next l =
      let e : 4 * i + 4 - 4 * i ≡ 4 = omega arith in
      rw (e, drop_four s (4 * i) (4 * (i + 1)) (omega arith) l, row_filled)

  pub lines_end : length s ≤ 4 * i → lines_from s i ≡ []
  unfolding row_lines rows_of
  lines_end l = rw (drop_of_length-le s l)

lines_length : (rows : List PlanarSurface) → length (row_lines rows) ≡ 36 * length rows
unfolding row_lines row_line bits hex
lines_length [] = refl
lines_length (r ∷ rows) = omega (arith, lines_length rows)

pub lines_room : (s : List Float) (n : ℕ) → length s ≡ 4 * n → length (lines_from s 0) ≤ 36 * n
lines_room s n h = omega (arith, lines_length (rows_of s), length_rows s)
