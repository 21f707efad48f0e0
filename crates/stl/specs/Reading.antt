-- What comes back of `read` and `read_large`, and what they leave in the lent floats and ids: for every list of bytes one answer, and one
-- later content of each area.
use Rattle.std.specs.Prelude.{◌≡◌, ◌⊎◌, ℕ, ◌*◌, ◌||◌, cond, List, ◌++◌, ltb, length, drop, Float, Result, Ok, Err}
use Rattle.words.specs.Words.{floats_of}
use Rattle.ids.specs.declared.refusal.Refusal.{Refusal}
use Rattle.stl.specs.Stl.{stl_of, corners_to, ids_to}

-- with areas of f floats and i ids: refused if one is too short for what the file holds
unfoldable pub in_areas : Result ℕ Refusal → ℕ → ℕ → Result ℕ Refusal
in_areas (Err refusal) f i = Err refusal
in_areas (Ok n) f i = cond (ltb f (9 * n) || ltb i (3 * n)) (Err Refusal.ShortArea) (Ok n)

-- what stands in an area afterwards, by the answer: the corners or the ids first, the rest untouched; all of it on a refusal
unfoldable pub corners_later : Result ℕ Refusal → List ℕ → List Float → List Float
corners_later (Err refusal) bytes area = area
corners_later (Ok n) bytes area = floats_of (corners_to bytes n) ++ drop (9 * n) area

unfoldable pub ids_later : Result ℕ Refusal → List ℕ → List ℕ
ids_later (Err refusal) area = area
ids_later (Ok n) area = ids_to n ++ drop (3 * n) area

-- The complete contract, with a greatest count: of bytes and lent floats vs and ids come the answer r and the later vs' and ids'.
pub record ReadsStl (most : ℕ) (bytes : List ℕ) (vs : List Float) (ids : List ℕ) (r : Result ℕ Refusal) (vs' : List Float)
    (ids' : List ℕ) : Type 0 where
  pub answers : r ≡ in_areas (stl_of most bytes) (length vs) (length ids)
  pub floats : vs' ≡ corners_later r bytes vs
  pub ids_later_lem : ids' ≡ ids_later r ids

-- 02's greatest count, for the program and `mf_read_stl`; and what 98,304 floats hold
abbrev pub most_triangles : ℕ
most_triangles = 170

abbrev pub most_large : ℕ
most_large = 10922

-- Any two answers that the contract allows are equal, and so is what is left in the areas. (`stl_one`)
abbrev pub StlOne : Type 0
StlOne = (most : ℕ) (bytes : List ℕ) (vs : List Float) (ids : List ℕ) (r r' : Result ℕ Refusal) (vs₁ vs₂ : List Float) (ids₁ ids₂ : List ℕ)
    → ReadsStl most bytes vs ids r vs₁ ids₁ → ReadsStl most bytes vs ids r' vs₂ ids₂ → (r ≡ r') × (vs₁ ≡ vs₂) × (ids₁ ≡ ids₂)

-- Reading refuses by 3, 5 and 6 of document 01's table only, and a refusal leaves both areas as they were.
-- (`stl_refuses_by_356`, `stl_refusals_write_nothing`)
unfoldable pub StlRefuses : Result ℕ Refusal → Type 0
StlRefuses (Ok n) = Unit {0}
StlRefuses (Err refusal) = (refusal ≡ Refusal.ShortArea) ⊎ (refusal ≡ Refusal.File) ⊎ (refusal ≡ Refusal.FileTooLarge)

abbrev pub StlRefusesBy356 : Type 0
StlRefusesBy356 = (most : ℕ) (bytes : List ℕ) (vs : List Float) (ids : List ℕ) (r : Result ℕ Refusal) (vs' : List Float) (ids' : List ℕ)
    → ReadsStl most bytes vs ids r vs' ids' → StlRefuses r

abbrev pub StlRefusalsWriteNothing : Type 0
StlRefusalsWriteNothing = (most : ℕ) (bytes : List ℕ) (vs : List Float) (ids : List ℕ) (refusal : Refusal)
    (vs' : List Float) (ids' : List ℕ)
    → ReadsStl most bytes vs ids (Err refusal) vs' ids' → (vs' ≡ vs) × (ids' ≡ ids)
