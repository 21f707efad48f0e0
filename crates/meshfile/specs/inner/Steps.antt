-- How reading goes about it: first where everything stands, and whether the areas take it, then what stands there. `file_of` is the format.
use Rattle.std.specs.Prelude.{◌≡◌, ◌||◌, cond, ℕ, ◌+◌, ◌*◌, ◌/◌, List, ltb, length, take, drop, Result, Ok, Err}
use Rattle.ids.specs.declared.refusal.Refusal.{Refusal}
use Rattle.meshfile.specs.declared.FlagValues.{FlagValues}
use Rattle.meshfile.specs.declared.MeshFile.{MeshFile}
use Rattle.meshfile.specs.declared.Parts.{Parts}
use Rattle.words.specs.Words.{u32_at, words_in}
use Rattle.meshfile.specs.Format.{behind, front_of, ending_of, Contents, File, file_of}
use Rattle.meshfile.specs.Reading.{reading_of, answer_as, ids_after}

unfoldable pub parts_by : ℕ → ℕ → Result FlagValues Refusal → Result Parts Refusal
parts_by f i (Err refusal) = Err refusal
parts_by f i (Ok flags) = Ok (record { floats = f; ids = i; flags = flags })

unfoldable pub ids_from : ℕ → Result ℕ Refusal → List ℕ → Result Parts Refusal
ids_from f (Err refusal) bytes = Err refusal
ids_from f (Ok n) bytes = parts_by f (n / 4) (ending_of (behind n bytes))

unfoldable pub vertices_from : Result ℕ Refusal → List ℕ → Result Parts Refusal
vertices_from (Err refusal) bytes = Err refusal
vertices_from (Ok n) bytes = ids_from (n / 4) (front_of 3 (behind n bytes)) (behind n bytes)

unfoldable pub unit_from : Result ℕ Refusal → List ℕ → Result Parts Refusal
unit_from (Err refusal) bytes = Err refusal
unit_from (Ok n) bytes = vertices_from (front_of 2 (behind n bytes)) (behind n bytes)

unfoldable pub layout_of : List ℕ → Result Parts Refusal
layout_of bytes = unit_from (front_of 1 bytes) bytes

-- and the refusal of areas of v floats and w ids
unfoldable pub in_room : ℕ → ℕ → Result Parts Refusal → Result Parts Refusal
in_room v w (Err refusal) = Err refusal
in_room v w (Ok p) = cond (ltb v p.floats || ltb w p.ids) (Err Refusal.ShortArea) (Ok p)

-- floats stand from byte 16 on, ids behind them and a header
unfoldable pub contents_at : List ℕ → Parts → Contents
contents_at bytes p =
    record {
      unit = u32_at bytes 6;
      vertices = words_in (take (4 * p.floats) (drop 16 bytes));
      ids = words_in (take (4 * p.ids) (drop (22 + 4 * p.floats) bytes));
      clip = p.flags.clip;
      defect = p.flags.defect;
    }

unfoldable pub file_at : List ℕ → Result Parts Refusal → File
file_at bytes (Err refusal) = Err refusal
file_at bytes (Ok p) = Ok (contents_at bytes p)

-- what reading all but the vertices gives, for which there is room for v
pub record IdsRead {A : Type 0} (of_word : ℕ → A) (bytes : List ℕ) (v : ℕ) (ids : List ℕ) (r : Result (MeshFile A) Refusal) (ids' : List ℕ)
    : Type 0 where
  pub answers : r ≡ answer_as of_word (reading_of (file_of bytes) v (length ids))
  pub ids_after_lem : ids' ≡ ids_after (file_of bytes) v ids
