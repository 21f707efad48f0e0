-- The cube's listing is the one that document 01 prints: both compute. Assumes nothing.
use mathlib.Core.Path.{refl}
use lib.Ieee.{to_bits, of_bits}
use Rattle.ids.specs.Uses.{bit}
use Rattle.record.specs.Names.{quality_name, method_name, profile_name}
use Rattle.spelling.specs.Text.{glyph, hex, bits, decimal_in, line}
use Rattle.listing.specs.Listing.{trust_lines, number_lines, prism_text, triangle_lines, count_lines, head_lines}
use Rattle.listing.specs.Listing.{row_line, row_lines, listing_of}
use Rattle.listing.specs.Cube.{cube_record, cube_rows, ended_lines, cube_text, CubeLines}

pub cube_lines : CubeLines
unfolding CubeLines cube_record cube_rows ended_lines cube_text quality_name method_name profile_name bit glyph hex bits decimal_in line
    trust_lines number_lines prism_text triangle_lines count_lines row_line row_lines head_lines listing_of to_bits of_bits
cube_lines = refl
