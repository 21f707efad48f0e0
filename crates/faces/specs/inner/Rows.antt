-- The table of faces: rows of 2 words, a triangle and the word that counts the uses of its face. There are 2 rows for a triangle, so at
-- most one in two is used.
use Rattle.std.specs.Prelude.{ℕ, ◌+◌, ◌*◌, ◌%◌, ◌≤◌, ◌<◌, List, [], ◌++◌, length, get_or, set}
use Rattle.ids.specs.Triangles.{triangle, triangle_count}
use Rattle.ids.specs.Uses.{Use, bit}
use Rattle.ids.specs.Lent.{most_entries}
use Rattle.ids.specs.EdgeChain.{unbalanced}
use Rattle.ids.specs.FaceNet.{Face, same_face, sorted_ids}
use Rattle.table.specs.inner.Rows.{home_row, Free}
use Rattle.table.specs.inner.Words.{TriangleOf}
use Rattle.table.specs.inner.Counts.{ups_in, uses_in, sum_size}
use Rattle.table.specs.inner.Table.{gate, MeansUses}
use Rattle.faces.specs.declared.Face as faces

-- the face that the code's three ids are
abbrev pub face_of : faces.Face → Face
face_of f = record { low = f.low; mid = f.mid; high = f.high }

-- the triangle that row i names, and its face
abbrev pub named_at : List ℕ → ℕ → ℕ
named_at t i = get_or t (2 * i) 0

abbrev pub face_at : List ℕ → List ℕ → ℕ → Face
face_at ids t i = sorted_ids (triangle ids (named_at t i))

abbrev pub face_word : List ℕ → ℕ → ℕ
face_word t i = get_or t (2 * i + 1) 0

abbrev pub face_uses : List ℕ → ℕ → ℕ
face_uses t i = uses_in (face_word t i)

abbrev pub face_ups : List ℕ → ℕ → ℕ
face_ups t i = ups_in (face_word t i)

-- the table with row r written
abbrev pub put_face : List ℕ → ℕ → ℕ → ℕ → List ℕ
put_face t r named word = set (set t (2 * r) named) (2 * r + 1) word

-- the hash of a face, below 2^32, and the row at which a search for it starts
unfoldable pub face_hash : Face → ℕ
face_hash f = ((f.low * 1014252765 % 4294967296 + f.mid * 2645834705) % 4294967296 + f.high * 1973868335) % 4294967296

unfoldable pub face_home : ℕ → Face → ℕ
face_home n f = home_row n (face_hash f)

-- the first 2 * n words mean the uses es, and every row names a triangle of the list
pub record FaceTable (ids : List ℕ) (n : ℕ) (t : List ℕ) (es : List (Use Face)) : Type 0 where
  pub named : (i : ℕ) → i < n → named_at t i < triangle_count ids
  pub means : MeansUses same_face n (face_home n) (face_at ids t) (face_uses t) (face_ups t) es

-- they mean some uses, and there is room for one more
pub record FaceRoom (ids : List ℕ) (n : ℕ) (t : List ℕ) : Type 0 where
  pub so_far : List (Use Face)
  pub rows_left : length so_far < n
  pub counts_left : length so_far < 32768
  pub means : FaceTable ids n t so_far

-- there are words for n rows
pub record FaceRows (n : ℕ) (t : List ℕ) : Type 0 where
  pub most : n ≤ 65536
  pub fits : 2 * n ≤ length t

-- a search in them can start, each row names a triangle, and some row is free
pub record FaceSearch (ids : List ℕ) (n start : ℕ) (t : List ℕ) : Type 0 where
  pub few : length ids ≤ most_entries
  pub space : FaceRows n t
  pub starts : start < n
  pub named : (i : ℕ) → i < n → named_at t i < triangle_count ids
  pub free : Free n (face_uses t)

-- there is room for the use that triangle i makes
pub record FaceToAdd (ids : List ℕ) (n : ℕ) (t : List ℕ) (i : ℕ) : Type 0 where
  pub of : TriangleOf ids i
  pub space : FaceRows n t
  pub room : FaceRoom ids n t

-- no use yet, and rows for all triangles
pub record FacesToCome (ids : List ℕ) (n : ℕ) (t : List ℕ) : Type 0 where
  pub few : length ids ≤ most_entries
  pub rows : triangle_count ids ≤ n
  pub space : FaceRows n t
  pub empty : FaceTable ids n t []

-- from t to u the uses fs were added
pub record FacesAdded (ids : List ℕ) (n : ℕ) (t u : List ℕ) (fs : List (Use Face)) : Type 0 where
  pub adds : (es : List (Use Face)) → FaceTable ids n t es → FaceTable ids n u (es ++ fs)

-- what a row adds to the count of sums other than 0, and to the largest
unfoldable pub row_off : List ℕ → ℕ → ℕ
row_off t i = gate (face_uses t i) (bit (unbalanced (face_uses t i) (sum_size (face_uses t i) (face_ups t i))))

unfoldable pub row_size : List ℕ → ℕ → ℕ
row_size t i = gate (face_uses t i) (sum_size (face_uses t i) (face_ups t i))
