-- What comes back of `write`, and what it leaves in the lent bytes: for every unit, vertices, ids and flags one answer, and one later
-- content.
use Rattle.std.specs.Prelude.{◌≡◌, ◌⊎◌, ℕ, ◌+◌, ◌*◌, ◌≤◌, Bool, false, ◌||◌, cond, List, ◌++◌, ltb, length, drop, Option, Result, Ok, Err}
use Rattle.record.specs.declared.ProfileDefect.{ProfileDefect}
use Rattle.record.specs.Numbers.{profile_number}
use Rattle.meshfile.specs.Format.{most_in_file, Contents}
use Rattle.meshfile.specs.Written.{file_bytes, longest}
use Rattle.ids.specs.declared.refusal.Refusal.{Refusal}

-- what is to be written
abbrev pub contents_of : ℕ → List ℕ → List ℕ → Bool → Option ProfileDefect → Contents
contents_of u vs is clip profile =
    record { unit = u; vertices = vs; ids = is; clip = cond clip 1 0; defect = profile_number profile }

-- more than a file may have
unfoldable pub too_many : Contents → Bool
too_many m = ltb most_in_file (length m.vertices) || ltb most_in_file (length m.ids)

-- a file put into an area of n bytes: its length, or the refusal of an area that is too short
unfoldable pub put_into : List ℕ → ℕ → Result ℕ Refusal
put_into file n = cond (ltb n (length file)) (Err Refusal.ShortArea) (Ok (length file))

-- that there are too many is tried first
unfoldable pub writing_of : Contents → ℕ → Result ℕ Refusal
writing_of m n = cond (too_many m) (Err Refusal.FileTooLarge) (put_into (file_bytes m) n)

-- what stands in the area afterwards, by the answer: the file first, the rest untouched; on a refusal all of it
unfoldable pub bytes_after : Result ℕ Refusal → List ℕ → List ℕ → List ℕ
bytes_after (Err refusal) file area = area
bytes_after (Ok n) file area = file ++ drop n area

-- The complete contract: of contents m and a lent area come the answer r and the later area.
pub record Writes (m : Contents) (area : List ℕ) (r : Result ℕ Refusal) (area' : List ℕ) : Type 0 where
  pub answers : r ≡ writing_of m (length area)
  pub bytes : area' ≡ bytes_after (writing_of m (length area)) (file_bytes m) area

-- ---- what is proved of it

-- record by record: the unit, the floats, the ids, the flags (`file_length`)
abbrev pub FileLength : Type 0
FileLength = (m : Contents) → length (file_bytes m) ≡ (6 + 4) + (6 + 4 * length m.vertices) + (6 + 4 * length m.ids) + (6 + 2)

-- so an area of 12,318 bytes is never too short (`longest_suffices`)
abbrev pub LongestSuffices : Type 0
LongestSuffices = (m : Contents) → too_many m ≡ false → length (file_bytes m) ≤ longest

-- Writing refuses by 3 and 6 of document 01's table only, and a refusal leaves the area as it was. (`refused_writing`)
abbrev pub RefusedWriting : Type 0
RefusedWriting = (m : Contents) (area : List ℕ) (refusal : Refusal) (area' : List ℕ) → Writes m area (Err refusal) area'
    → ((refusal ≡ Refusal.ShortArea) ⊎ (refusal ≡ Refusal.FileTooLarge)) × (area' ≡ area)

-- Any two answers that the contract allows are equal, and so is what is left in the area. (`write_one`)
abbrev pub WriteOne : Type 0
WriteOne = (m : Contents) (area : List ℕ) (r r' : Result ℕ Refusal) (area₁ area₂ : List ℕ) → Writes m area r area₁
    → Writes m area r' area₂
    → (r ≡ r') × (area₁ ≡ area₂)
