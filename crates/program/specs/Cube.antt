-- The cube of document 01 as a file: what the program prints for it is the listing that stands there. (`cube_printed`)
use Rattle.std.specs.Prelude.{◌≡◌, [], ◌∷◌, ℕ}
use Rattle.meshfile.specs.Format.{Contents}
use Rattle.meshfile.specs.Written.{plain_file}
use Rattle.listing.specs.Cube.{ended_lines, cube_text}
use Rattle.program.specs.Program.{text_of}

-- 2 as a word; 0 is 0
abbrev pub two : ℕ
two = 0x4000_0000

-- unit 1.0, side 2, vertex id = x/2 + 2(y/2) + 4(z/2), triangles 023 031 457 476 015 054 267 273 046 062 137 175, no kind 4
unfoldable pub cube_file : Contents
cube_file =
    record {
      unit = 0x3f80_0000;
      vertices = 0 ∷ 0 ∷ 0 ∷ two ∷ 0 ∷ 0 ∷ 0 ∷ two ∷ 0 ∷ two ∷ two ∷ 0 ∷ 0 ∷ 0 ∷ two ∷ two ∷ 0 ∷ two ∷ 0 ∷ two ∷ two ∷ two ∷ two ∷ two ∷ [];
      ids =
          0 ∷ 2 ∷ 3 ∷ 0 ∷ 3 ∷ 1 ∷ 4 ∷ 5 ∷ 7 ∷ 4 ∷ 7 ∷ 6 ∷ 0 ∷ 1 ∷ 5 ∷ 0 ∷ 5 ∷ 4
          ∷ 2 ∷ 6 ∷ 7 ∷ 2 ∷ 7 ∷ 3 ∷ 0 ∷ 4 ∷ 6 ∷ 0 ∷ 6 ∷ 2 ∷ 1 ∷ 3 ∷ 7 ∷ 1 ∷ 7 ∷ 5 ∷ [];
      clip = 0;
      defect = 0;
    }

abbrev pub CubePrinted : Type 0
CubePrinted = text_of (plain_file cube_file) ≡ ended_lines cube_text
