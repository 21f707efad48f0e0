-- Face net: the faces that the triangles of a list of ids use, each a sorted id triple, plus or minus by parity.
use Rattle.std.specs.Prelude.{ℕ, ◌+◌, ◌%◌, min, max, Bool, cond, ◌&&◌, List, [], ◌∷◌, ltb, eqb}
use Rattle.ids.specs.Triangles.{Triangle, distinct, over_triangles}
use Rattle.ids.specs.Uses.{Use, bit, keys_that, largest_sum}
use Rattle.ids.specs.EdgeChain.{unbalanced}

pub record Face : Type 0 where
  pub low : ℕ
  pub mid : ℕ
  pub high : ℕ

unfoldable pub same_face : Face → Face → Bool
same_face f g = eqb f.low g.low && (eqb f.mid g.mid && eqb f.high g.high)

-- the three ids sorted
unfoldable pub sorted_ids : Triangle → Face
sorted_ids t = record {
  low = min t.a (min t.b t.c);
  mid = max (min t.a t.b) (min (max t.a t.b) t.c);
  high = max t.a (max t.b t.c);
}

-- how many of its three pairs fall: sorting takes an even number of swaps where this is even
unfoldable pub falls : Triangle → ℕ
falls t = bit (ltb t.b t.a) + (bit (ltb t.c t.b) + bit (ltb t.c t.a))

-- the use that a triangle of three distinct ids makes
unfoldable pub face_use : Triangle → Use Face
face_use t = record { key = sorted_ids t; up = eqb (falls t % 2) 0 }

-- none if it repeats an id
unfoldable pub face : Triangle → List (Use Face)
face t = cond (distinct t) (face_use t ∷ []) []

abbrev pub faces : List ℕ → List (Use Face)
faces ids = over_triangles face ids

-- the largest magnitude of a face's sum: 0 without faces
unfoldable pub max_abs : List ℕ → ℕ
max_abs ids = largest_sum same_face (faces ids)

-- every face's sum is 0: so too without faces
unfoldable pub all_cancel : List ℕ → Bool
all_cancel ids = eqb (keys_that same_face unbalanced (faces ids)) 0
