-- The program `takeoff_stl` (02, A4): the text that it prints, for every list of bytes that it reads. It is that of the mesh which the STL
-- holds, with the unit 0.001 and no flags.
use Rattle.std.specs.Prelude.{ℕ, List, Result, Ok, Err}
use Rattle.ids.specs.declared.refusal.Refusal.{Refusal}
use Rattle.meshfile.specs.Format.{Contents, File}
use Rattle.stl.specs.Stl.{stl_of, corners_to, ids_to}
use Rattle.stl.specs.Reading.{most_triangles}
use Rattle.program.specs.Program.{text_for}

-- the f32 nearest to 0.001
abbrev pub stl_unit : ℕ
stl_unit = 0x3a83_126f

-- the mesh of n triangles as a mesh file would hold it, without flags
abbrev pub stl_contents : List ℕ → ℕ → Contents
stl_contents bytes n = record { unit = stl_unit; vertices = corners_to bytes n; ids = ids_to n; clip = 0; defect = 0 }

unfoldable pub stl_file : Result ℕ Refusal → List ℕ → File
stl_file (Err refusal) bytes = Err refusal
stl_file (Ok n) bytes = Ok (stl_contents bytes n)

-- what the program prints for the bytes that it reads; from the mesh on it is what `takeoff` prints
unfoldable pub stl_text_of : List ℕ → List ℕ
stl_text_of bytes = text_for (stl_file (stl_of most_triangles bytes) bytes)
