-- From the table of all faces to document 01's answers: what `net` reads off the rows is the largest magnitude and whether all sums are
-- 0. Assumes nothing.
use mathlib.Core.Path.{◌≡◌, ap}
use mathlib.Core.List.{List}
use Prim.Native.Nat.{ℕ}
use lib.Dec.{eqb}
use Rattle.ids.specs.EdgeChain.{unbalanced}
use Rattle.ids.specs.FaceNet.{same_face, faces, max_abs, all_cancel}
use Rattle.table.specs.inner.Rows.{sum_to}
use Rattle.table.specs.inner.Table.{max_to}
use Rattle.table.proofs.Tally.{rows_that, rows_largest}
use Rattle.faces.specs.inner.Rows.{FaceTable, face_at, face_uses, face_ups, row_off, row_size}

module _ (ids : List ℕ) (n : ℕ) (t : List ℕ) (m : FaceTable ids n t (faces ids)) where
  pub net-max : max_to (row_size t) n ≡ max_abs ids
  unfolding max_abs row_size
  net-max = rows_largest same_face n (face_at ids t) (face_uses t) (face_ups t) (faces ids) m.means.rows

  pub net-off : eqb (sum_to (row_off t) n) 0 ≡ all_cancel ids
  unfolding all_cancel row_off
  net-off = ap (λ (k : ℕ). eqb k 0) (rows_that same_face n (face_at ids t) (face_uses t) (face_ups t) (faces ids) m.means.rows unbalanced)
