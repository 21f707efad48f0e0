-- What comes back of `read` and of `read_bits`, and what they leave in the lent vertices and ids: for every list of bytes one answer,
-- and one later content of each area. `read` is `read_bits` with each pattern taken as a float, the unit's too.
use Rattle.std.specs.Prelude.{◌≡◌, ◌⊎◌, ℕ, Bool, ◌||◌, cond, List, ◌++◌, eqb, ltb, length, drop, Float, Result, Ok, Err}
use Rattle.std.specs.Float.{binary32}
use Rattle.std.specs.Float.Ieee.{of_bits}
use Rattle.record.specs.Numbers.{profile_at}
use Rattle.words.specs.Words.{floats_of}
use Rattle.meshfile.specs.declared.MeshFile.{MeshFile}
use Rattle.meshfile.specs.Format.{Contents, File, file_of}
use Rattle.ids.specs.declared.refusal.Refusal.{Refusal}

-- ---- on patterns

-- refused: an area of f floats or of i ids is too short for what the file holds
unfoldable pub mesh_areas_short : Contents → ℕ → ℕ → Bool
mesh_areas_short m f i = ltb f (length m.vertices) || ltb i (length m.ids)

-- `of_word` says what a word stands for: itself, or the float of the pattern
abbrev pub mesh_as : {A : Type 0} → (ℕ → A) → Contents → MeshFile A
mesh_as of_word m =
    record {
      unit = of_word m.unit;
      floats = length m.vertices;
      ids = length m.ids;
      clip = eqb m.clip 1;
      profile = profile_at m.defect;
    }

abbrev pub mesh_bits : Contents → MeshFile ℕ
mesh_bits = mesh_as (λ (w : ℕ). w)

-- by the lengths of the two areas
unfoldable pub reading_of : File → ℕ → ℕ → Result (MeshFile ℕ) Refusal
reading_of (Err refusal) f i = Err refusal
reading_of (Ok m) f i = cond (mesh_areas_short m f i) (Err Refusal.ShortArea) (Ok (mesh_bits m))

-- ---- a pattern taken as what it stands for, and as a float

abbrev pub unit_as : {A : Type 0} → (ℕ → A) → MeshFile ℕ → MeshFile A
unit_as of_word m = record { unit = of_word m.unit; floats = m.floats; ids = m.ids; clip = m.clip; profile = m.profile }

unfoldable pub answer_as : {A : Type 0} → (ℕ → A) → Result (MeshFile ℕ) Refusal → Result (MeshFile A) Refusal
answer_as of_word (Err refusal) = Err refusal
answer_as of_word (Ok m) = Ok (unit_as of_word m)

abbrev pub as_floats : Result (MeshFile ℕ) Refusal → Result (MeshFile Float) Refusal
as_floats = answer_as (of_bits binary32)

-- ---- the areas

-- what stands in an area afterwards: first the file's vertices, what `taken` makes of their words, or its ids, the rest untouched; on a
-- refusal all of it
unfoldable pub vertices_after : {A : Type 0} → (List ℕ → List A) → File → ℕ → List A → List A
vertices_after taken (Err refusal) i area = area
vertices_after taken (Ok m) i area =
    cond (mesh_areas_short m (length area) i) area (taken m.vertices ++ drop (length m.vertices) area)

unfoldable pub ids_after : File → ℕ → List ℕ → List ℕ
ids_after (Err refusal) f area = area
ids_after (Ok m) f area = cond (mesh_areas_short m f (length area)) area (m.ids ++ drop (length m.ids) area)

-- The complete contract: of bytes and lent vertices vs and ids come the answer r and the later vs' and ids'. `taken` says what the
-- vertices' words become, `answer` what the answer on patterns becomes.
pub record ReadsAs {A R : Type 0} (taken : List ℕ → List A) (answer : Result (MeshFile ℕ) Refusal → R) (bytes : List ℕ) (vs : List A)
    (ids : List ℕ) (r : R) (vs' : List A) (ids' : List ℕ) : Type 0 where
  pub answers : r ≡ answer (reading_of (file_of bytes) (length vs) (length ids))
  pub vertices : vs' ≡ vertices_after taken (file_of bytes) (length ids) vs
  pub ids_after_lem : ids' ≡ ids_after (file_of bytes) (length vs) ids

-- of `read_bits`: the words themselves
abbrev pub ReadsBits : List ℕ → List ℕ → List ℕ → Result (MeshFile ℕ) Refusal → List ℕ → List ℕ → Type 0
ReadsBits = ReadsAs (λ (ws : List ℕ). ws) (λ (r : Result (MeshFile ℕ) Refusal). r)

-- of `read`: each as a float
abbrev pub Reads : List ℕ → List Float → List ℕ → Result (MeshFile Float) Refusal → List Float → List ℕ → Type 0
Reads = ReadsAs floats_of as_floats

-- ---- what is proved of it

abbrev pub By356 : Refusal → Type 0
By356 refusal = (refusal ≡ Refusal.ShortArea) ⊎ (refusal ≡ Refusal.File) ⊎ (refusal ≡ Refusal.FileTooLarge)

-- Reading refuses by 3, 5 and 6 of document 01's table only, and a refusal leaves both areas as they were.
-- (`refused_reading`, `refused_reading_bits`)
abbrev pub RefusedReading : Type 0
RefusedReading = (bytes : List ℕ) (vs : List Float) (ids : List ℕ) (refusal : Refusal) (vs' : List Float) (ids' : List ℕ)
    → Reads bytes vs ids (Err refusal) vs' ids' → By356 refusal × (vs' ≡ vs) × (ids' ≡ ids)

abbrev pub RefusedReadingBits : Type 0
RefusedReadingBits = (bytes ps ids : List ℕ) (refusal : Refusal) (ps' ids' : List ℕ)
    → ReadsBits bytes ps ids (Err refusal) ps' ids' → By356 refusal × (ps' ≡ ps) × (ids' ≡ ids)

-- Any two answers that the contract allows are equal, and so is what is left in the areas. (`read_one`)
abbrev pub ReadOne : Type 1
ReadOne = (A R : Type 0) (taken : List ℕ → List A) (answer : Result (MeshFile ℕ) Refusal → R) (bytes : List ℕ) (vs : List A) (ids : List ℕ)
    (r r' : R) (vs₁ vs₂ : List A) (ids₁ ids₂ : List ℕ)
    → ReadsAs taken answer bytes vs ids r vs₁ ids₁ → ReadsAs taken answer bytes vs ids r' vs₂ ids₂
    → (r ≡ r') × (vs₁ ≡ vs₂) × (ids₁ ≡ ids₂)

-- Lent the floats of what `read_bits` is lent, `read` answers and leaves the floats of what `read_bits` does. (`read_as_floats`)
abbrev pub ReadAsFloats : Type 0
ReadAsFloats = (bytes ps ids : List ℕ) (b : Result (MeshFile ℕ) Refusal) (ps' ids₁ : List ℕ) (r : Result (MeshFile Float) Refusal)
    (vs' : List Float)
    (ids₂ : List ℕ)
    → ReadsBits bytes ps ids b ps' ids₁ → Reads bytes (floats_of ps) ids r vs' ids₂
    → (r ≡ as_floats b) × (vs' ≡ floats_of ps') × (ids₂ ≡ ids₁)
