-- What is proved of the programs beside their contracts: which refusals a file can meet, what of an STL does not show, what is
-- printed for a file that was written, that no NaN gets past, and what becomes of input that is longer than any file.
use Rattle.std.specs.Prelude.{◌≡◌, ◌⊎◌, ℕ, ◌+◌, ◌%◌, ◌^◌, ◌≤◌, ◌<◌, Bool, false, not, ◌||◌, cond, List, eqb, ltb, length, take, Float, Option, Result, Ok, Err}
use Rattle.std.specs.Float.{binary32}
use Rattle.std.specs.Float.Ieee.{of_bits}
use Rattle.ids.specs.declared.refusal.Refusal.{Refusal}
use Rattle.ids.specs.Refusal.{refusal_number}
use Rattle.sums.specs.Fine.{fine, all_fine}
use Rattle.refusals.specs.declared.Check.{Check}
use Rattle.refusals.specs.Refusals.{unit_fits}
use Rattle.words.specs.Words.{floats_of, Below}
use Rattle.record.specs.declared.ProfileDefect.{ProfileDefect}
use Rattle.meshfile.specs.Format.{Contents, File, file_of}
use Rattle.meshfile.specs.Writing.{contents_of, Writes}
use Rattle.meshfile.specs.RoundTrip.{with_kind4}
use Rattle.stl.specs.Stl.{stl_of}
use Rattle.stl.specs.Reading.{most_triangles}
use Rattle.stl.specs.Worth.{SameWhereSeen}
use Rattle.listing.specs.Listing.{refused_line}
use Rattle.program.specs.Program.{check_mesh, mesh_text, text_of, Prints}
use Rattle.program.specs.StlText.{stl_contents, stl_text_of}
use Rattle.program.specs.Place.{mesh_floats, mesh_unit}

-- the rows of the table that a file can meet: it is never too large, the edition is known, and no area is too short (`areas_suffice`)
unfoldable pub check_file : List Float → List ℕ → Float → Result Check Refusal
check_file vs ids u =
    cond (ltb (length ids) 3 || ltb (length vs) 9) (Ok Check.Zero)
    (cond (not (unit_fits u)) (Err Refusal.Unit)
    (cond (not (all_fine vs)) (Err Refusal.Float)
    (Ok Check.Full)))

abbrev pub AreasSuffice : Type 0
AreasSuffice = (vs : List Float) (ids : List ℕ) (u : Float) → length vs ≤ 1536 → length ids ≤ 1536 → check_mesh vs ids u ≡ check_file vs ids u

-- those that an STL of n triangles can meet: with none it is the zero record; its unit is always one that 2 lets pass (`stl_check`)
unfoldable pub check_stl : ℕ → List Float → Result Check Refusal
check_stl n vs = cond (eqb n 0) (Ok Check.Zero) (cond (not (all_fine vs)) (Err Refusal.Float) (Ok Check.Full))

abbrev pub StlCheck : Type 0
StlCheck = (bytes : List ℕ) (n : ℕ) → stl_of most_triangles bytes ≡ Ok n
    → let m = stl_contents bytes n in check_mesh (mesh_floats m) m.ids (mesh_unit m) ≡ check_stl n (mesh_floats m)

-- Header, normals and attributes of an STL do not show in its text. (`stl_unseen`)
abbrev pub StlUnseen : Type 0
StlUnseen = (bytes bytes' : List ℕ) → SameWhereSeen bytes bytes' → stl_text_of bytes' ≡ stl_text_of bytes

-- What is printed for a mesh file that was written is the text of what was written. (`written_text`)
abbrev pub WrittenText : Type 0
WrittenText = (u : ℕ) (vs is : List ℕ) (clip : Bool) (profile : Option ProfileDefect) → u < 2 ^ 32 → Below (2 ^ 32) vs → Below (2 ^ 32) is
    → (area : List ℕ) (n : ℕ) (area' : List ℕ) → Writes (contents_of u vs is clip profile) area (Ok n) area'
    → text_of (take n area') ≡ mesh_text (floats_of vs) is (of_bits binary32 u) clip profile

-- A file that was read and written back prints the same. (`rewritten_text`)
abbrev pub RewrittenText : Type 0
RewrittenText = (bytes : List ℕ) → Below 256 bytes → (m : Contents) → file_of bytes ≡ Ok m
    → text_of (with_kind4 (length m.vertices) (length m.ids) bytes) ≡ text_of bytes

-- no pattern of an infinity or a NaN, whatever its digits, gets past refusal 4
abbrev pub NotFiniteRefused : Type 0
NotFiniteRefused = (w : ℕ) → 0x7f80_0000 ≤ w % 2 ^ 31 → fine (of_bits binary32 w) ≡ false

-- ---- input that is longer than any file, for either program: `text` is what it prints for bytes, `most` how many its longest file has

-- Of input that is longer one byte more decides, so the program needs to keep no more. (`front_decides`: of `text_of` and 12,318;
-- `stl_text_front_decides`: of `stl_text_of` and 8,584)
abbrev pub KeptDecides : (List ℕ → List ℕ) → ℕ → Type 0
KeptDecides text most = (bytes : List ℕ) → most < length bytes → text (take (most + 1) bytes) ≡ text bytes

-- and it is refused (`long_refused`, `stl_long_refused`: of the same)
abbrev pub LongRefused : (List ℕ → List ℕ) → ℕ → Type 0
LongRefused text most = (bytes : List ℕ) → most < length bytes
    → (refusal : Refusal) × ((refusal ≡ Refusal.File) ⊎ (refusal ≡ Refusal.FileTooLarge)) × (text bytes ≡ refused_line (refusal_number refusal))

-- The complete contract of `run_front` and `run_stl_front`, of an area of bytes and a number n: the text of the first n bytes is printed,
-- and that is the text of every input that begins with them, whether they are all of it or as many as the area holds. So what a program
-- need not keep does not matter.
pub record PrintsFront (text : List ℕ → List ℕ) (bytes : List ℕ) (n : ℕ) (area : List ℕ) (r : ℕ) (area' : List ℕ) : Type 0 where
  pub prints : Prints (text (take n bytes)) area r area'
  pub decides : (input : List ℕ) → take n bytes ≡ take (length bytes) input → text (take n bytes) ≡ text input

-- Any two answers that it allows are equal, and so is what stands in the area. (`run_front_one`)
abbrev pub RunFrontOne : Type 0
RunFrontOne = (text : List ℕ → List ℕ) (bytes : List ℕ) (n : ℕ) (area : List ℕ) (r₁ r₂ : ℕ) (area₁ area₂ : List ℕ)
    → PrintsFront text bytes n area r₁ area₁ → PrintsFront text bytes n area r₂ area₂ → (r₁ ≡ r₂) × (area₁ ≡ area₂)
