-- The program `takeoff` (01): the text that it prints, for every list of bytes that it reads.
use Rattle.std.specs.Prelude.{◌≡◌, ℕ, Bool, List, [], ◌++◌, eqb, length, drop, Float, Option, Result, Ok, Err}
use Rattle.std.specs.Float.{binary32}
use Rattle.std.specs.Float.Ieee.{of_bits}
use Rattle.ids.specs.declared.refusal.Refusal.{Refusal}
use Rattle.ids.specs.Refusal.{refusal_number}
use Rattle.ids.specs.Pieces.{share_edge, pieces}
use Rattle.sums.specs.Editions.{thresholds_of}
use Rattle.rows.specs.declared.PlanarSurface.{PlanarSurface}
use Rattle.record.specs.declared.ProfileDefect.{ProfileDefect}
use Rattle.record.specs.declared.MeshQto.{MeshQto}
use Rattle.record.specs.Record.{zero_record}
use Rattle.record.specs.Flags.{flagged}
use Rattle.record.specs.Numbers.{profile_at}
use Rattle.refusals.specs.declared.Check.{Check}
use Rattle.refusals.specs.Refusals.{check_of}
use Rattle.qto.specs.Full.{record_of, surface_rows}
use Rattle.words.specs.Words.{floats_of}
use Rattle.meshfile.specs.Format.{File, file_of}
use Rattle.listing.specs.Listing.{listing_of, refused_line}

-- ---- a mesh

-- the record with its flags, listed with its rows and the pieces of the ids
unfoldable pub listed : List ℕ → Bool → Option ProfileDefect → MeshQto → List PlanarSurface → List ℕ
listed ids clip profile q rows = listing_of (flagged clip profile q) rows (pieces share_edge ids)

-- the programs name edition 1 (02, A6)
abbrev pub named_edition : ℕ
named_edition = 1

-- by what the table says: `refused N`, or the listing; the zero record has one too
unfoldable pub text_at : Result Check Refusal → List Float → List ℕ → Float → Bool → Option ProfileDefect → List ℕ
text_at (Err why) vs ids u clip profile = refused_line (refusal_number why)
text_at (Ok Check.Zero) vs ids u clip profile = listed ids clip profile zero_record []
text_at (Ok Check.Full) vs ids u clip profile = listed ids clip profile (record_of vs ids u (thresholds_of named_edition))
    (surface_rows vs ids u)

-- The program lends 13,824 work words, 65,536 raster bytes and 2,048 surface floats, enough for every file, and names an edition that is
-- known: so it never prints 1, 3 or 7 (`areas_suffice`).
abbrev pub check_mesh : List Float → List ℕ → Float → Result Check Refusal
check_mesh vs ids u = check_of vs ids u named_edition 13824 65536 2048

unfoldable pub mesh_text : List Float → List ℕ → Float → Bool → Option ProfileDefect → List ℕ
mesh_text vs ids u clip profile = text_at (check_mesh vs ids u) vs ids u clip profile

-- ---- a file

-- faults of the file come before the table
unfoldable pub text_for : File → List ℕ
text_for (Err refusal) = refused_line (refusal_number refusal)
text_for (Ok m) = mesh_text (floats_of m.vertices) m.ids (of_bits binary32 m.unit) (eqb m.clip 1) (profile_at m.defect)

-- what the program prints for the bytes that it reads
unfoldable pub text_of : List ℕ → List ℕ
text_of bytes = text_for (file_of bytes)

-- The complete contract of all that print: the text stands first in the area and is r bytes long; the rest is untouched.
pub record Prints (text area : List ℕ) (r : ℕ) (area' : List ℕ) : Type 0 where
  pub answers : r ≡ length text
  pub later : area' ≡ text ++ drop (length text) area

-- Any two answers that the contract of `run`, or of `run_stl`, allows are equal, and so is what stands in the area. (`run_one`)
abbrev pub RunOne : Type 0
RunOne = (text area : List ℕ) (r₁ r₂ : ℕ) (area₁ area₂ : List ℕ)
    → Prints text area r₁ area₁ → Prints text area r₂ area₂ → (r₁ ≡ r₂) × (area₁ ≡ area₂)
