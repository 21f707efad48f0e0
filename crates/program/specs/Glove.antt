-- The glove for the program (02, A9): what it prints for a file, and for the same file with the last two ids of every triangle swapped.
use Rattle.std.specs.Prelude.{◌≡◌, List, ℕ, Ok}
use Rattle.ids.specs.Pieces.{share_edge, pieces}
use Rattle.ids.specs.Reversed.{reversed}
use Rattle.refusals.specs.declared.Check.{Check}
use Rattle.glove.specs.Turned.{TurnedRecords}
use Rattle.glove.specs.Stations.{turned_rows}
use Rattle.meshfile.specs.Format.{Contents, File, file_of}
use Rattle.listing.specs.Listing.{listing_of}
use Rattle.program.specs.Program.{check_mesh, text_of}
use Rattle.program.specs.Place.{mesh_floats, mesh_unit, mesh_record, mesh_rows}

-- the table of checks lets the mesh pass
abbrev pub IsFull : Contents → Type 0
IsFull m = check_mesh (mesh_floats m) m.ids (mesh_unit m) ≡ Ok Check.Full

-- The listings of two records, the second the first turned over. Equal are the lines quality, profile, aabb, surface, side, inclined,
-- largest, smallest, pieces, used, range, sliver and surfaces, and of a mesh that is not open reliable, method, best and prism too; what
-- stands behind top and bottom has changed places; volume is negated, and a zero may have either sign. The rows are those of the first with
-- opposite normals, put in order.
pub record TurnedListings (m m' : Contents) (text text' : List ℕ) : Type 0 where
  pub lists : text ≡ listing_of (mesh_record m) (mesh_rows m) (pieces share_edge m.ids)
  pub lists' : text' ≡ listing_of (mesh_record m') (turned_rows (mesh_rows m)) (pieces share_edge m.ids)
  pub turned : TurnedRecords (mesh_record m) (mesh_record m')

pub record TurnedTexts (m m' : Contents) (text text' : List ℕ) : Type 0 where
  -- a refusal or the zero record: the same bytes
  pub same : (IsFull m → ⊥) → text' ≡ text
  pub if_full : IsFull m → TurnedListings m m' text text'

-- (`text_turns`)
abbrev pub TextTurns : Type 0
TextTurns =
    (m m' : Contents) (bytes bytes' : List ℕ) → file_of bytes ≡ Ok m → file_of bytes' ≡ Ok m'
    → m'.unit ≡ m.unit → m'.vertices ≡ m.vertices → m'.ids ≡ reversed m.ids → m'.clip ≡ m.clip → m'.defect ≡ m.defect
    → TurnedTexts m m' (text_of bytes) (text_of bytes')
