-- The program's input (01, The program `takeoff`): what a file holds, record by record, or the refusal of the fault that is met first.
use Rattle.std.specs.Prelude.{ℕ, ◌+◌, ◌/◌, ◌%◌, Bool, not, cond, List, [], ◌∷◌, eqb, ltb, length, take, drop, Result, Ok, Err}
use Rattle.record.specs.Numbers.{flags_fit}
use Rattle.words.specs.Words.{byte, u16_at, u32_at, words_in}
use Rattle.meshfile.specs.declared.FlagValues.{FlagValues}
use Rattle.ids.specs.declared.refusal.Refusal.{Refusal}

-- ---- one record: u32 payload length, u16 kind, payload

abbrev pub payload : ℕ → List ℕ → List ℕ
payload n bytes = take n (drop 6 bytes)

abbrev pub behind : ℕ → List ℕ → List ℕ
behind n bytes = drop (6 + n) bytes

-- at most so many floats, and so many ids
abbrev pub most_in_file : ℕ
most_in_file = 1536

-- by the kind: 4 bytes for the unit, 2 for the flags, else whole words
unfoldable pub length_fits : ℕ → ℕ → Bool
length_fits kind n = cond (eqb kind 1) (eqb n 4) (cond (eqb kind 4) (eqb n 2) (eqb (n % 4) 0))

-- What stands in front of the bytes: a record of this kind, its payload so many bytes long, or the fault that is met first.
-- Header missing or cut, wrong kind, wrong length: no such file. Too many: too large. Payload cut: no such file.
unfoldable pub front_of : ℕ → List ℕ → Result ℕ Refusal
front_of kind bytes =
    cond (ltb (length bytes) 6) (Err Refusal.File)
    (cond (not (eqb (u16_at bytes 4) kind)) (Err Refusal.File)
    (cond (not (length_fits kind (u32_at bytes 0))) (Err Refusal.File)
    (cond (ltb most_in_file (u32_at bytes 0 / 4)) (Err Refusal.FileTooLarge)
    (cond (ltb (length bytes) (6 + u32_at bytes 0)) (Err Refusal.File)
    (Ok (u32_at bytes 0))))))

-- ---- the records in their order

-- what a file holds: the unit, the floats and the ids as words, and the flags' values
pub record Contents : Type 0 where
  pub unit : ℕ
  pub vertices : List ℕ
  pub ids : List ℕ
  pub clip : ℕ
  pub defect : ℕ

-- or the refusal
abbrev pub File : Type 0
File = Result Contents Refusal

abbrev pub flag_values : ℕ → ℕ → FlagValues
flag_values c d = record { clip = c; defect = d }

-- behind the ids: the end, or kind 4 with known values and then the end
unfoldable pub flags_in : Result ℕ Refusal → List ℕ → Result FlagValues Refusal
flags_in (Err refusal) bytes = Err refusal
flags_in (Ok n) bytes =
    cond (flags_fit (byte bytes 6) (byte bytes 7))
    (cond (ltb (6 + n) (length bytes)) (Err Refusal.File) (Ok (flag_values (byte bytes 6) (byte bytes 7))))
    (Err Refusal.File)

unfoldable pub ending_of : List ℕ → Result FlagValues Refusal
ending_of [] = Ok (flag_values 0 0)
ending_of (b ∷ bytes) = flags_in (front_of 4 (b ∷ bytes)) (b ∷ bytes)

unfoldable pub ended : ℕ → List ℕ → List ℕ → Result FlagValues Refusal → File
ended u vs is (Err refusal) = Err refusal
ended u vs is (Ok flags) = Ok (record { unit = u; vertices = vs; ids = is; clip = flags.clip; defect = flags.defect })

-- kind 3: ids
unfoldable pub ids_in : ℕ → List ℕ → Result ℕ Refusal → List ℕ → File
ids_in u vs (Err refusal) bytes = Err refusal
ids_in u vs (Ok n) bytes = ended u vs (words_in (payload n bytes)) (ending_of (behind n bytes))

-- kind 2: vertex floats
unfoldable pub vertices_in : ℕ → Result ℕ Refusal → List ℕ → File
vertices_in u (Err refusal) bytes = Err refusal
vertices_in u (Ok n) bytes = ids_in u (words_in (payload n bytes)) (front_of 3 (behind n bytes)) (behind n bytes)

-- kind 1: unit
unfoldable pub unit_in : Result ℕ Refusal → List ℕ → File
unit_in (Err refusal) bytes = Err refusal
unit_in (Ok n) bytes = vertices_in (u32_at bytes 6) (front_of 2 (behind n bytes)) (behind n bytes)

unfoldable pub file_of : List ℕ → File
file_of bytes = unit_in (front_of 1 bytes) bytes
