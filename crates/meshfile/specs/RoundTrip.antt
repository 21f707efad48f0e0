-- There and back: what was written is read to the bit, and what was read is written to the byte.
use Rattle.std.specs.Prelude.{◌≡◌, ℕ, ◌+◌, ◌*◌, ◌^◌, ◌≤◌, ◌<◌, Bool, cond, List, [], ◌∷◌, ◌++◌, ltb, length, take, drop, Option, Result, Ok}
use Rattle.words.specs.Words.{Below}
use Rattle.record.specs.declared.ProfileDefect.{ProfileDefect}
use Rattle.meshfile.specs.declared.MeshFile.{MeshFile}
use Rattle.meshfile.specs.Format.{Contents, File, file_of}
use Rattle.meshfile.specs.Written.{chunk_of}
use Rattle.meshfile.specs.Reading.{ReadsBits}
use Rattle.meshfile.specs.Writing.{contents_of, put_into, bytes_after, Writes}
use Rattle.ids.specs.declared.refusal.Refusal.{Refusal}

-- Reading what was written gives the same unit, floats, ids and flags, to the bit: of every pattern, a NaN's too. (`reads_back`)
abbrev pub ReadsBack : Type 0
ReadsBack = (u : ℕ) (vs is : List ℕ) (clip : Bool) (profile : Option ProfileDefect) → u < 2 ^ 32 → Below (2 ^ 32) vs → Below (2 ^ 32) is
    → (area : List ℕ) (n : ℕ) (area' : List ℕ) → Writes (contents_of u vs is clip profile) area (Ok n) area'
    → (ps ids : List ℕ) → length vs ≤ length ps → length is ≤ length ids
    → (r : Result (MeshFile ℕ) Refusal) (ps' ids' : List ℕ) → ReadsBits (take n area') ps ids r ps' ids'
    → (r ≡ Ok (record { unit = u; floats = length vs; ids = length is; clip = clip; profile = profile }))
    × (ps' ≡ vs ++ drop (length vs) ps) × (ids' ≡ is ++ drop (length is) ids)

-- Three headers and the unit are 22 bytes: a file of f floats and i ids has its kind 4 record where bytes stand behind these and the ids.
-- Where it has none, one of no flags is put there.
unfoldable pub with_kind4 : ℕ → ℕ → List ℕ → List ℕ
with_kind4 f i bytes = cond (ltb (22 + 4 * f + 4 * i) (length bytes)) bytes (bytes ++ chunk_of 4 (0 ∷ 0 ∷ []))

-- the contract of writing what was read into ps and ids
abbrev pub Rewrites : MeshFile ℕ → List ℕ → List ℕ → List ℕ → Result ℕ Refusal → List ℕ → Type 0
Rewrites m ps ids = Writes (contents_of m.unit (take m.floats ps) (take m.ids ids) m.clip m.profile)

-- these bytes are put into an area
pub record FilePut (file area : List ℕ) (w : Result ℕ Refusal) (area' : List ℕ) : Type 0 where
  pub answers : w ≡ put_into file (length area)
  pub bytes : area' ≡ bytes_after (put_into file (length area)) file area

-- Writing what was read gives the same bytes, with their kind 4 record. (`writes_back`)
abbrev pub WritesBack : Type 0
WritesBack = (bytes : List ℕ) → Below 256 bytes
    → (ps ids : List ℕ) (m : MeshFile ℕ) (ps' ids' : List ℕ) → ReadsBits bytes ps ids (Ok m) ps' ids'
    → (area : List ℕ) (w : Result ℕ Refusal) (area' : List ℕ) → Rewrites m ps' ids' area w area'
    → FilePut (with_kind4 m.floats m.ids bytes) area w area'

-- and these bytes are read as the file was (`same_file`)
abbrev pub SameFile : Type 0
SameFile = (bytes : List ℕ) → Below 256 bytes → (m : Contents) → file_of bytes ≡ Ok m
    → file_of (with_kind4 (length m.vertices) (length m.ids) bytes) ≡ Ok m
