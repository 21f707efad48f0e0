-- The triangles of a list of ids: its complete triples, in order. One or two ids left over at the end belong to none.
use Rattle.std.specs.Prelude.{ℕ, zero, suc, ◌+◌, ◌*◌, ◌/◌, Bool, not, ◌&&◌, List, [], ◌∷◌, ◌++◌, eqb, length, get_or}
use Rattle.ids.specs.declared.triangle.Triangle as code

-- its three ids
abbrev pub Triangle : Type 0
Triangle = code.Triangle

-- its three ids differ
unfoldable pub distinct : Triangle → Bool
distinct t = not (eqb t.a t.b) && (not (eqb t.b t.c) && not (eqb t.c t.a))

-- what f gives for each triangle, one after the other
unfoldable pub over_triangles : {A : Type 0} → (Triangle → List A) → List ℕ → List A
over_triangles f [] = []
over_triangles f (a ∷ []) = []
over_triangles f (a ∷ b ∷ []) = []
over_triangles f (a ∷ b ∷ c ∷ ids) = f (record { a = a; b = b; c = c }) ++ over_triangles f ids

-- how many there are
abbrev pub triangle_count : List ℕ → ℕ
triangle_count ids = length ids / 3

-- the one with number t, for t below their count
unfoldable pub triangle : List ℕ → ℕ → Triangle
triangle ids t = record { a = get_or ids (3 * t) 0; b = get_or ids (3 * t + 1) 0; c = get_or ids (3 * t + 2) 0 }

-- what g gives for each number below n, one after the other: triangle by triangle it is the same as `over_triangles` (`by_number`)
unfoldable pub over_numbers : {A : Type 0} → (ℕ → List A) → ℕ → List A
over_numbers g zero = []
over_numbers g (suc n) = over_numbers g n ++ g n
