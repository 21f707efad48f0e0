-- The format from the writer's side: the bytes of a file that holds given contents. Reading accepts these and no others.
use Rattle.std.specs.Prelude.{◌≡◌, ◌⊎◌, ℕ, ◌^◌, ◌≤◌, ◌<◌, List, [], ◌∷◌, ◌++◌, T, length, take, Ok}
use Rattle.record.specs.Numbers.{flags_fit}
use Rattle.words.specs.Words.{bytes_of, all_bytes, Below}
use Rattle.meshfile.specs.Format.{most_in_file, Contents, File, file_of}

-- one record
unfoldable pub chunk_of : ℕ → List ℕ → List ℕ
chunk_of kind payload = bytes_of (length payload) ++ (kind ∷ 0 ∷ payload)

-- a file without kind 4, and the one that is written, which has it always
unfoldable pub plain_file : Contents → List ℕ
plain_file m = chunk_of 1 (bytes_of m.unit) ++ (chunk_of 2 (all_bytes m.vertices) ++ chunk_of 3 (all_bytes m.ids))

unfoldable pub file_bytes : Contents → List ℕ
file_bytes m = plain_file m ++ chunk_of 4 (m.clip ∷ m.defect ∷ [])

-- what a file can hold
pub record Proper (m : Contents) : Type 0 where
  pub unit : m.unit < 2 ^ 32
  pub vertices : Below (2 ^ 32) m.vertices
  pub ids : Below (2 ^ 32) m.ids
  pub floats_most : length m.vertices ≤ most_in_file
  pub ids_most : length m.ids ≤ most_in_file
  pub flags : T (flags_fit m.clip m.defect)

-- a file that holds m: with its flags, or without kind 4 where both are 0
unfoldable pub IsFileOf : Contents → List ℕ → Type 0
IsFileOf m bytes = (bytes ≡ file_bytes m) ⊎ ((bytes ≡ plain_file m) × (m.clip ≡ 0) × (m.defect ≡ 0))

-- The theorems: reading holds exactly what was written; a file is at most 12,318 bytes long, and of longer input the first
-- 12,319 bytes decide, which is why the program needs to keep no more.
abbrev pub Accepts : Type 0
Accepts = (m : Contents) (bytes : List ℕ) → Proper m → IsFileOf m bytes → file_of bytes ≡ Ok m

abbrev pub AcceptsOnly : Type 0
AcceptsOnly = (m : Contents) (bytes : List ℕ) → Below 256 bytes → file_of bytes ≡ Ok m → Proper m × IsFileOf m bytes

abbrev pub longest : ℕ
longest = 12318

abbrev pub FilesAreShort : Type 0
FilesAreShort = (m : Contents) (bytes : List ℕ) → file_of bytes ≡ Ok m → length bytes ≤ longest

abbrev pub FrontDecidesFile : Type 0
FrontDecidesFile = (bytes : List ℕ) → longest < length bytes → file_of (take 12319 bytes) ≡ file_of bytes
