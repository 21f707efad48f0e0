-- What a turn of `gather` adds: the uses so far, and those of the triangles that are left, are all uses. Assumes nothing.
use mathlib.Core.Path.{◌≡◌}
use mathlib.Core.Bool.{Bool, true, false, cond}
use mathlib.Core.List.{List, [], ◌∷◌, ◌++◌}
use Prim.Native.Nat.{ℕ, ◌+◌, ◌*◌, ◌≤◌, ◌<◌}
use native.Mathlib.Omega.{arith}
use lib.ListN.{length, drop, length-append}
use Rattle.ids.specs.Triangles.{Triangle, triangle, triangle_count, distinct}
use Rattle.ids.specs.Uses.{Use}
use Rattle.ids.specs.FaceNet.{Face, face_use, face, faces}
use Rattle.ids.proofs.Triangles.{append_none, turn, turned}
use Rattle.faces.specs.inner.Rows.{FacesAdded}

-- a triangle that repeats an id adds no use, another one
module _ {ids : List ℕ} {n : ℕ} {w : List ℕ} (t : Triangle) where
  pub adds_none : distinct t ≡ false → FacesAdded ids n w w (face t)
  unfolding face
  adds_none e = record { adds = λ es m. rw (e, append_none) m }

  pub adds_one : {u : List ℕ} → distinct t ≡ true → FacesAdded ids n w u (face_use t ∷ []) → FacesAdded ids n w u (face t)
  unfolding face
  adds_one e a = rw e a

cond_short : (b : Bool) (x : Use Face) → length (cond b (x ∷ []) []) ≤ 1
cond_short true x = omega arith
cond_short false x = omega arith

pub length_next : (es : List (Use Face)) (t : Triangle) → length (es ++ face t) ≤ length es + 1
unfolding face
length_next es t = rw length-append (omega (arith, cond_short (distinct t) (face_use t)))

module _ (ids : List ℕ) (t : ℕ) (es : List (Use Face)) (all : es ++ faces (drop (3 * t) ids) ≡ faces ids) where
  pub next_turn : t < triangle_count ids → (es ++ face (triangle ids t)) ++ faces (drop (3 * (t + 1)) ids) ≡ faces ids
  unfolding triangle
  next_turn l = let e : 3 * (t + 1) ≡ 3 * t + 3 = omega arith in rw e (turn face ids (3 * t) es all (omega arith))

  pub last_turn : triangle_count ids ≤ t → es ≡ faces ids
  last_turn l = turned face ids (3 * t) es all (omega arith)
