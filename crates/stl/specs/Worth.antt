-- What reading an STL means, in words that do not say how it is done: which files are taken, what the mesh of one is, and which of its
-- bytes matter.
use Rattle.std.specs.Prelude.{◌≡◌, ◌⊎◌, ℕ, ◌+◌, ◌*◌, ◌-◌, ◌%◌, ◌≤◌, ◌<◌, List, length, get_or, take, Float, Result, Ok}
use Rattle.std.specs.Float.{nan, binary32}
use Rattle.std.specs.Float.Ieee.{of_bits}
use Rattle.ids.specs.Pieces.{share_edge, pieces}
use Rattle.words.specs.Words.{byte, u32_at, floats_of}
use Rattle.ids.specs.declared.refusal.Refusal.{Refusal}
use Rattle.stl.specs.Stl.{stl_count, stl_length, stl_of, corners_to, ids_to}
use Rattle.stl.specs.Reading.{ReadsStl}

-- ---- Taken are exactly the files of 84 + 50n bytes with that count, up to the greatest.

pub record IsStl (most n : ℕ) (bytes : List ℕ) : Type 0 where
  pub size : length bytes ≡ stl_length n
  pub count : stl_count bytes ≡ n
  pub few : n ≤ most

pub record TakenFiles (most n : ℕ) (bytes : List ℕ) : Type 0 where
  pub only_these : stl_of most bytes ≡ Ok n → IsStl most n bytes
  pub all_these : IsStl most n bytes → stl_of most bytes ≡ Ok n

-- (`taken_exactly`)
abbrev pub TakenExactly : Type 0
TakenExactly = (most n : ℕ) (bytes : List ℕ) → TakenFiles most n bytes

-- ---- Triangle t has the nine floats at its place, and the ids 3t, 3t + 1 and 3t + 2.

pub record MeshOf (n : ℕ) (bytes : List ℕ) : Type 0 where
  pub floats_length : length (floats_of (corners_to bytes n)) ≡ 9 * n
  pub each_float :
      (t j : ℕ) → t < n → j < 9
      → get_or (floats_of (corners_to bytes n)) (9 * t + j) nan ≡ of_bits binary32 (u32_at bytes (stl_length t + 12 + 4 * j))
  pub ids_length : length (ids_to n) ≡ 3 * n
  pub each_id : (t k : ℕ) → t < n → k < 3 → get_or (ids_to n) (3 * t + k) 0 ≡ 3 * t + k

-- (`mesh_of_stl`)
abbrev pub MeshOfStl : Type 0
MeshOfStl = (n : ℕ) (bytes : List ℕ) → stl_length n ≤ length bytes → MeshOf n bytes

-- Each triangle is a piece of its own: no two have an id in common. (`pieces_of_stl`)
abbrev pub PiecesOfStl : Type 0
PiecesOfStl = (n : ℕ) → pieces share_edge (ids_to n) ≡ n

-- ---- Header, normals and attributes do not matter.

-- the bytes that are looked at: the four of the count, and of each triangle's 50 the 36 of its corners, which stand behind the first 12
abbrev pub Seen : ℕ → Type 0
Seen i = ((80 ≤ i) × (i < 84)) ⊎ ((96 ≤ i) × ((i - 96) % 50 < 36))

pub record SameWhereSeen (bytes bytes' : List ℕ) : Type 0 where
  pub as_long : length bytes' ≡ length bytes
  pub seen : (i : ℕ) → Seen i → byte bytes' i ≡ byte bytes i

-- Two files that differ only elsewhere read alike: whatever the contract allows for one it allows for the other. (`unseen_does_not_matter`)
abbrev pub UnseenDoesNotMatter : Type 0
UnseenDoesNotMatter = (most : ℕ) (bytes bytes' : List ℕ) → SameWhereSeen bytes bytes'
    → (vs : List Float) (ids : List ℕ) (r : Result ℕ Refusal) (vs' : List Float) (ids' : List ℕ)
    → ReadsStl most bytes vs ids r vs' ids' → ReadsStl most bytes' vs ids r vs' ids'

-- ---- Of input that is longer than any file one byte more than the longest decides, and it is refused. (`stl_front_decides`,
-- `stl_files_are_short`)

abbrev pub StlFrontDecides : Type 0
StlFrontDecides = (most : ℕ) (bytes : List ℕ) → stl_length most < length bytes
    → stl_of most (take (stl_length most + 1) bytes) ≡ stl_of most bytes

abbrev pub StlFilesAreShort : Type 0
StlFilesAreShort = (most n : ℕ) (bytes : List ℕ) → stl_of most bytes ≡ Ok n → length bytes ≤ stl_length most
