-- The cube of document 01: its record and rows, and the listing printed there.
use Rattle.std.specs.Prelude.{ℕ, ◌≡◌, true, List, [], ◌∷◌, ◌++◌, Float, None}
use Prim.Native.String.{String}
use Rattle.std.specs.Float.{binary32}
use Rattle.std.specs.Float.Ieee.{of_bits}
use Rattle.rows.specs.declared.PlanarSurface.{PlanarSurface}
use Rattle.verdict.specs.declared.Quality.{Quality}
use Rattle.volume.specs.declared.Method.{Method}
use Rattle.record.specs.declared.MeshQto.{MeshQto}
use Rattle.spelling.specs.Text.{codes}
use Rattle.listing.specs.Listing.{listing_of}

abbrev pub f32_of : ℕ → Float
f32_of b = of_bits binary32 b

unfoldable pub cube_record : MeshQto
cube_record =
    record {
      volume_m3 = f32_of 0x4100_0000;
      aabb_volume_m3 = f32_of 0x4100_0000;
      surface_area_m2 = f32_of 0x41c0_0000;
      area_top_m2 = f32_of 0x4080_0000;
      area_bottom_m2 = f32_of 0x4080_0000;
      area_side_m2 = f32_of 0x4180_0000;
      area_inclined_m2 = f32_of 0;
      largest_surface_m2 = f32_of 0x4080_0000;
      smallest_surface_m2 = f32_of 0x4080_0000;
      surface_count = 6;
      mesh_quality = Quality.Closed;
      volume_reliable = true;
      volume_method = Method.Mesh;
      volume_best_m3 = f32_of 0x4100_0000;
      volume_prism_bound_m3 = None;
      profile_invalid = None;
      triangles_used = 12;
      triangles_out_of_range = 0;
      triangles_sliver = 0;
    }

-- four square units towards nx, ny, nz
abbrev pub cube_side : ℕ → ℕ → ℕ → PlanarSurface
cube_side x y z = record { area = f32_of 0x4080_0000; nx = f32_of x; ny = f32_of y; nz = f32_of z }

unfoldable pub cube_rows : List PlanarSurface
cube_rows =
    cube_side 0xbf80_0000 0 0
    ∷ cube_side 0 0xbf80_0000 0
    ∷ cube_side 0 0 0xbf80_0000
    ∷ cube_side 0 0 0x3f80_0000
    ∷ cube_side 0 0x3f80_0000 0
    ∷ cube_side 0x3f80_0000 0 0
    ∷ []

-- lines, each with its end
unfoldable pub ended_lines : List String → List ℕ
ended_lines [] = []
ended_lines (l ∷ ls) = codes l ++ (codes "\n" ++ ended_lines ls)

unfoldable pub cube_text : List String
cube_text =
    "quality closed"
    ∷ "reliable 1"
    ∷ "method mesh"
    ∷ "profile none"
    ∷ "volume 41000000"
    ∷ "aabb 41000000"
    ∷ "surface 41c00000"
    ∷ "top 40800000"
    ∷ "bottom 40800000"
    ∷ "side 41800000"
    ∷ "inclined 00000000"
    ∷ "largest 40800000"
    ∷ "smallest 40800000"
    ∷ "best 41000000"
    ∷ "prism none"
    ∷ "pieces 1"
    ∷ "used 12"
    ∷ "range 0"
    ∷ "sliver 0"
    ∷ "surfaces 6"
    ∷ "40800000 bf800000 00000000 00000000"
    ∷ "40800000 00000000 bf800000 00000000"
    ∷ "40800000 00000000 00000000 bf800000"
    ∷ "40800000 00000000 00000000 3f800000"
    ∷ "40800000 00000000 3f800000 00000000"
    ∷ "40800000 3f800000 00000000 00000000"
    ∷ []

-- a cube of one piece
unfoldable pub CubeLines : Type 0
CubeLines = listing_of cube_record cube_rows 1 ≡ ended_lines cube_text
