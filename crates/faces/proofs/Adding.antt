-- One use more, from what the functions that `add` calls ensure: sort and hash, find the row, weigh, write. So it serves wherever the ids
-- stand.
-- Assumes nothing.
use mathlib.Core.Path.{◌≡◌}
use mathlib.Core.Bool.{cond}
use mathlib.Core.List.{List, [], ◌∷◌}
use Prim.Native.Nat.{ℕ, ◌+◌, ◌*◌, ◌≤◌, ◌<◌}
use native.Mathlib.Omega.{arith}
use lib.ListN.{length}
use Rattle.ids.specs.Triangles.{triangle}
use Rattle.ids.specs.FaceNet.{Face, sorted_ids, face_use}
use Rattle.table.specs.inner.Rows.{home_row, Found}
use Rattle.faces.specs.inner.Rows.{face_at, face_word, face_uses, put_face, face_hash, FaceSearch, FaceToAdd, FacesAdded}
use Rattle.faces.proofs.Parity.{weight_small}
use Rattle.faces.proofs.Faces.{found_face}
use Rattle.faces.proofs.Rows.{added, row_small, room_free}

-- a search can start
pub seekable : {ids : List ℕ} {n : ℕ} {table : List ℕ} {t start : ℕ} → FaceToAdd ids n table t → start < n → FaceSearch ids n start table
seekable {ids} {n} {table} a l = record {
  few = a.of.few;
  space = a.space;
  starts = l;
  named = a.room.means.named;
  free = room_free ids n table a.room;
}

-- for triangle t: the sorted ids f, their hash, the row r found from `start` on, and the weight `by`
pub record FaceSought (ids : List ℕ) (n : ℕ) (table : List ℕ) (t : ℕ) (f : Face) (hash start r by : ℕ) : Type 0 where
  pub sorting : sorted_ids (triangle ids t) ≡ f
  pub hashing : hash ≡ face_hash f
  pub homing : start ≡ home_row n hash
  pub found : Found n start (face_at ids table) (face_uses table) f r
  pub weighed : by ≡ cond (face_use (triangle ids t)).up 65536 1

module _ {ids : List ℕ} {n : ℕ} {table : List ℕ} {t : ℕ} {f : Face} {hash start r by : ℕ} (a : FaceToAdd ids n table t)
    (w : FaceSought ids n table t f hash start r by) where
  small : face_uses table r < 32768
  small = omega (arith, row_small ids n table a.room.so_far a.room.means r w.found.within, a.room.counts_left)

  pub bump_fits : (r < 65536) × (2 * r + 1 < length table) × (t < 32768) × (by ≤ 65536) × (face_uses table r < 32768)
  bump_fits =
      let within = w.found.within in
      let space = a.space in
      let of = a.of in
      let light : by ≤ 65536 = omega (arith, w.weighed, weight_small (face_use (triangle ids t)).up) in
      (omega (arith, space.most), omega (arith, space.fits), omega (arith, of.few, of.here), light, small)

  pub adding : FacesAdded ids n table (put_face table r t (face_word table r + by)) (face_use (triangle ids t) ∷ [])
  adding =
      let found = found_face n start hash (sorted_ids (triangle ids t)) f (face_at ids table) (face_uses table) r w.sorting
      w.hashing w.homing w.found in
      record { adds = λ es m. rw w.weighed (added ids n table es r t a.space.fits a.of.here (omega (arith, small)) m found) }
