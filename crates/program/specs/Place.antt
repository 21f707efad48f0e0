-- Demand 3 for the programs: what is printed for a file, and for the same file with its mesh moved.
use Rattle.std.specs.Prelude.{◌≡◌, List, ℕ, T, eqb, ℤ, Float, Ok}
use Rattle.std.specs.Float.{binary32}
use Rattle.std.specs.Float.Ieee.{of_bits}
use Rattle.ids.specs.Pieces.{share_edge, pieces}
use Rattle.sums.specs.Editions.{thresholds_of}
use Rattle.rows.specs.declared.PlanarSurface.{PlanarSurface}
use Rattle.verdict.specs.declared.Quality.{Quality}
use Rattle.record.specs.declared.MeshQto.{MeshQto}
use Rattle.record.specs.Flags.{flagged}
use Rattle.record.specs.Numbers.{profile_at}
use Rattle.refusals.specs.declared.Check.{Check}
use Rattle.qto.specs.Full.{record_of, surface_rows}
use Rattle.place.specs.Moved.{Moved, unit_enough}
use Rattle.road.specs.Agree.{AgreeButBest}
use Rattle.words.specs.Words.{floats_of}
use Rattle.meshfile.specs.Format.{Contents, File, file_of}
use Rattle.stl.specs.Stl.{stl_of}
use Rattle.stl.specs.Reading.{most_triangles}
use Rattle.listing.specs.Listing.{listing_of}
use Rattle.program.specs.Program.{named_edition, check_mesh, text_of}
use Rattle.program.specs.StlText.{stl_contents, stl_text_of}

-- ---- a file's mesh

abbrev pub mesh_floats : Contents → List Float
mesh_floats m = floats_of m.vertices

abbrev pub mesh_unit : Contents → Float
mesh_unit m = of_bits binary32 m.unit

-- its record, with the file's flags
abbrev pub mesh_record : Contents → MeshQto
mesh_record m = flagged (eqb m.clip 1) (profile_at m.defect) (record_of (mesh_floats m) m.ids (mesh_unit m) (thresholds_of named_edition))

abbrev pub mesh_rows : Contents → List PlanarSurface
mesh_rows m = surface_rows (mesh_floats m) m.ids (mesh_unit m)

-- the table of checks lets it pass, and its verdict is open
pub record IsOpen (m : Contents) : Type 0 where
  pub passes : check_mesh (mesh_floats m) m.ids (mesh_unit m) ≡ Ok Check.Full
  pub verdict : (mesh_record m).mesh_quality ≡ Quality.OpenShell

-- ---- the text of a file with the mesh m, and that of one with m', the same mesh moved

-- the listings of their records, with the same rows and pieces: they differ in four lines at most, which are reliable, method, best and
-- prism
pub record OpenListings (m m' : Contents) (text text' : List ℕ) : Type 0 where
  pub lists : text ≡ listing_of (mesh_record m) (mesh_rows m) (pieces share_edge m.ids)
  pub lists' : text' ≡ listing_of (mesh_record m') (mesh_rows m) (pieces share_edge m.ids)
  pub is_open : IsOpen m'
  pub agree : AgreeButBest (mesh_record m) (mesh_record m')

pub record AgreeTexts (m m' : Contents) (text text' : List ℕ) : Type 0 where
  -- a refusal, a zero record, a closed or a degenerate mesh: the same bytes
  pub same : (IsOpen m → ⊥) → text' ≡ text
  pub if_open : IsOpen m → OpenListings m m' text text'

-- (`text_does_not_show`)
abbrev pub TextDoesNotShow : Type 0
TextDoesNotShow =
    (dx dy dz : ℤ) (m m' : Contents) (bytes bytes' : List ℕ) → file_of bytes ≡ Ok m → file_of bytes' ≡ Ok m'
    → m'.unit ≡ m.unit → m'.ids ≡ m.ids → m'.clip ≡ m.clip → m'.defect ≡ m.defect
    → Moved dx dy dz (mesh_floats m) (mesh_floats m') → T (unit_enough (mesh_unit m))
    → AgreeTexts m m' (text_of bytes) (text_of bytes')

-- ---- the same for an STL

-- Two files whose corners are whole numbers, those of the second the first's moved by whole numbers: unless the mesh is open they print the
-- same bytes, and if it is they differ in four lines at most. 0.001 is a unit of which demand 3 speaks, so it is no premise.
-- (`stl_text_does_not_show`)
abbrev pub StlTextDoesNotShow : Type 0
StlTextDoesNotShow =
    (dx dy dz : ℤ) (bytes bytes' : List ℕ) (n n' : ℕ)
    → stl_of most_triangles bytes ≡ Ok n → stl_of most_triangles bytes' ≡ Ok n'
    → Moved dx dy dz (mesh_floats (stl_contents bytes n)) (mesh_floats (stl_contents bytes' n'))
    → AgreeTexts (stl_contents bytes n) (stl_contents bytes' n') (stl_text_of bytes) (stl_text_of bytes')
