-- The answers as numbers, as the C interface has them, the contracts of its two forms, and there and back by them. A refusal of the
-- number n is 2^31 + n.
use Rattle.std.specs.Prelude.{◌≡◌, ℕ, ◌+◌, ◌^◌, ◌≤◌, ◌<◌, not, cond, List, [], ◌∷◌, ◌++◌, length, take, drop, Result, Ok, Err}
use Rattle.record.specs.Numbers.{profile_number, flags_fit}
use Rattle.words.specs.Words.{Below}
use Rattle.meshfile.specs.declared.MeshFile.{MeshFile}
use Rattle.meshfile.specs.Format.{Contents, file_of}
use Rattle.meshfile.specs.Written.{file_bytes}
use Rattle.meshfile.specs.Reading.{reading_of, vertices_after, ids_after}
use Rattle.meshfile.specs.Writing.{writing_of, bytes_after}
use Rattle.meshfile.specs.RoundTrip.{with_kind4, FilePut}
use Rattle.ids.specs.declared.refusal.Refusal.{Refusal}
use Rattle.ids.specs.Refusal.{refusal_number}

-- ---- mf_write_mesh

-- the flags come as numbers: a value that is none is refused, tried first
unfoldable pub flags_then : Contents → Result ℕ Refusal → Result ℕ Refusal
flags_then m r = cond (not (flags_fit m.clip m.defect)) (Err Refusal.File) r

unfoldable pub writing_number : Result ℕ Refusal → ℕ
writing_number (Ok n) = n
writing_number (Err refusal) = 2147483648 + refusal_number refusal

-- of contents m with flags of any value and a lent area come the number k and the later area
pub record WritesNumbered (m : Contents) (area : List ℕ) (k : ℕ) (area' : List ℕ) : Type 0 where
  pub number : k ≡ writing_number (flags_then m (writing_of m (length area)))
  pub bytes : area' ≡ bytes_after (flags_then m (writing_of m (length area))) (file_bytes m) area

-- any two outcomes that it allows are equal (`write_numbered_one`)
abbrev pub WriteNumberedOne : Type 0
WriteNumberedOne = (m : Contents) (area : List ℕ) (k k' : ℕ) (area₁ area₂ : List ℕ)
    → WritesNumbered m area k area₁ → WritesNumbered m area k' area₂ → (k ≡ k') × (area₁ ≡ area₂)

-- ---- mf_read_mesh

unfoldable pub reading_number : Result (MeshFile ℕ) Refusal → ℕ
reading_number (Ok m) = 0
reading_number (Err refusal) = 2147483648 + refusal_number refusal

-- the numbers of floats and ids, the unit's pattern, the flags; a refusal leaves what was there
unfoldable pub counts_after : Result (MeshFile ℕ) Refusal → List ℕ → List ℕ
counts_after (Ok m) five =
    m.floats ∷ m.ids ∷ m.unit ∷ cond m.clip 1 0 ∷ profile_number m.profile ∷ []
counts_after (Err refusal) five = five

-- of bytes, lent patterns, ids and five counts come the number k and their later contents
pub record ReadsNumbered (bytes ps ids five : List ℕ) (k : ℕ) (ps' ids' five' : List ℕ) : Type 0 where
  pub number : k ≡ reading_number (reading_of (file_of bytes) (length ps) (length ids))
  pub counts : five' ≡ counts_after (reading_of (file_of bytes) (length ps) (length ids)) five
  pub vertices : ps' ≡ vertices_after (λ (ws : List ℕ). ws) (file_of bytes) (length ids) ps
  pub ids_after_lem : ids' ≡ ids_after (file_of bytes) (length ps) ids

-- any two outcomes that it allows are equal (`read_numbered_one`)
abbrev pub ReadNumberedOne : Type 0
ReadNumberedOne = (bytes ps ids five : List ℕ) (k k' : ℕ) (ps₁ ps₂ ids₁ ids₂ five₁ five₂ : List ℕ)
    → ReadsNumbered bytes ps ids five k ps₁ ids₁ five₁ → ReadsNumbered bytes ps ids five k' ps₂ ids₂ five₂
    → (k ≡ k') × (ps₁ ≡ ps₂) × (ids₁ ≡ ids₂) × (five₁ ≡ five₂)

-- ---- there and back

-- Reading what was written gives the same bits: a number below 2^31 is a length. (`reads_back_numbered`)
abbrev pub ReadsBackNumbered : Type 0
ReadsBackNumbered = (m : Contents) → m.unit < 2 ^ 32 → Below (2 ^ 32) m.vertices → Below (2 ^ 32) m.ids
    → (area : List ℕ) (n : ℕ) (area' : List ℕ) → n < 2 ^ 31 → WritesNumbered m area n area'
    → (ps ids five : List ℕ) → length m.vertices ≤ length ps → length m.ids ≤ length ids
    → (k : ℕ) (ps' ids' five' : List ℕ) → ReadsNumbered (take n area') ps ids five k ps' ids' five'
    → (k ≡ 0) × (ps' ≡ m.vertices ++ drop (length m.vertices) ps) × (ids' ≡ m.ids ++ drop (length m.ids) ids)
    × (five' ≡ length m.vertices ∷ length m.ids ∷ m.unit ∷ m.clip ∷ m.defect ∷ [])

-- Writing what was read, by the five counts, gives the same bytes, with their kind 4 record. (`writes_back_numbered`)
abbrev pub WritesBackNumbered : Type 0
WritesBackNumbered = (bytes : List ℕ) → Below 256 bytes
    → (ps ids five ps' ids' : List ℕ) (f i u c d : ℕ) → ReadsNumbered bytes ps ids five 0 ps' ids' (f ∷ i ∷ u ∷ c ∷ d ∷ [])
    → (area : List ℕ) (k : ℕ) (area' : List ℕ)
    → WritesNumbered (record { unit = u; vertices = take f ps'; ids = take i ids'; clip = c; defect = d }) area k area'
    → (w : Result ℕ Refusal) × (k ≡ writing_number w) × FilePut (with_kind4 f i bytes) area w area'
