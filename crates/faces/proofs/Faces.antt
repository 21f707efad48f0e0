-- Faces as keys of a table: how the code sorts, and where a search for a face starts. Assumes nothing.
use mathlib.Core.Path.{◌≡◌, refl}
use Prim.Native.Nat.{ℕ, ◌<◌, min, max}
use native.Mathlib.Omega.{arith}
use Rattle.ids.specs.Triangles.{Triangle}
use Rattle.ids.specs.FaceNet.{Face, sorted_ids}
use Rattle.table.specs.inner.Rows.{home_row, Found}
use Rattle.table.proofs.Search.{home_below}
use Rattle.faces.specs.inner.Rows.{face_hash, face_home}

-- a face by its three ids
face_by : (f : Face) (low mid high : ℕ) → f.low ≡ low → f.mid ≡ mid → f.high ≡ high
    → f ≡ record { low = low; mid = mid; high = high }
face_by f low mid high p q r = λ i. record { low = p i; mid = q i; high = r i }

-- the three ids sorted as the code does it
pub sorted_by : (t : Triangle) → sorted_ids t ≡ record {
  low = min (min t.a t.b) t.c;
  mid = max (min t.a t.b) (min (max t.a t.b) t.c);
  high = max (max t.a t.b) t.c;
}
unfolding sorted_ids
sorted_by t = face_by (sorted_ids t) _ _ _ (omega arith) refl (omega arith)

pub home_in_lem : (n : ℕ) (f : Face) → 0 < n → face_home n f < n
unfolding face_home face_hash
home_in_lem n f pos = home_below n (face_hash f) pos (omega arith)

-- a search from the row that the code computes, for the ids that it sorted, is one from the face's home for the face
pub found_face : (n start hash : ℕ) (f g : Face) (key : ℕ → Face) (mark : ℕ → ℕ) (r : ℕ)
    → f ≡ g → hash ≡ face_hash g → start ≡ home_row n hash → Found n start key mark g r → Found n (face_home n f) key mark f r
unfolding face_home
found_face n start hash f g key mark r same hashed home found = rw (same, ← hashed, ← home) found
