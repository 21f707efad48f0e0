-- Binary STL (02, A4): 80 header bytes, a u32 count, then 50 bytes a triangle: its normal (12), its three corners (36), two attribute
-- bytes. How many triangles a file holds, or the refusal of the fault that is met first; their corners, and their ids. The greatest count
-- is a parameter.
use Rattle.std.specs.Prelude.{ℕ, ◌+◌, ◌*◌, not, cond, List, [], ◌∷◌, eqb, ltb, length, take, drop, Result, Ok, Err}
use Rattle.ids.specs.Triangles.{over_numbers}
use Rattle.words.specs.Words.{u32_at, words_in}
use Rattle.ids.specs.declared.refusal.Refusal.{Refusal}

-- what the count says, and how long a file of so many triangles is
abbrev pub stl_count : List ℕ → ℕ
stl_count bytes = u32_at bytes 80

abbrev pub stl_length : ℕ → ℕ
stl_length n = 84 + 50 * n

-- Under 84 bytes: no such file. A count above the greatest, whatever the length: too large. Any other wrong length: no such file.
unfoldable pub stl_of : ℕ → List ℕ → Result ℕ Refusal
stl_of most bytes =
    cond (ltb (length bytes) 84) (Err Refusal.File)
    (cond (ltb most (stl_count bytes)) (Err Refusal.FileTooLarge)
    (cond (not (eqb (length bytes) (stl_length (stl_count bytes)))) (Err Refusal.File)
    (Ok (stl_count bytes))))

-- the nine words of triangle t's corners: they stand behind its normal. It begins where a file of t triangles would end
abbrev pub corners_at : List ℕ → ℕ → List ℕ
corners_at bytes t = words_in (take 36 (drop (stl_length t + 12) bytes))

-- those of the first n triangles, one after the other, in file order
abbrev pub corners_to : List ℕ → ℕ → List ℕ
corners_to bytes n = over_numbers (corners_at bytes) n

-- the ids of triangle t, and of the first n
abbrev pub ids_at : ℕ → List ℕ
ids_at t = 3 * t ∷ (3 * t + 1) ∷ (3 * t + 2) ∷ []

abbrev pub ids_to : ℕ → List ℕ
ids_to n = over_numbers ids_at n
