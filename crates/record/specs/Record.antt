-- The record of a mesh that is none: fewer than 3 ids or 9 floats (01, the zero record).
use Rattle.std.specs.Prelude.{false, Some, None}
use Rattle.ieee.specs.Single.{nought}
use Rattle.verdict.specs.declared.Quality.{Quality}
use Rattle.volume.specs.declared.Method.{Method}
use Rattle.record.specs.declared.MeshQto.{MeshQto}

-- all numbers 0, prism bound the number 0, degenerate, prism_fallback, not reliable, no surfaces
abbrev pub zero_record : MeshQto
zero_record =
    record {
      volume_m3 = nought;
      aabb_volume_m3 = nought;
      surface_area_m2 = nought;
      area_top_m2 = nought;
      area_bottom_m2 = nought;
      area_side_m2 = nought;
      area_inclined_m2 = nought;
      largest_surface_m2 = nought;
      smallest_surface_m2 = nought;
      surface_count = 0;
      mesh_quality = Quality.Degenerate;
      volume_reliable = false;
      volume_method = Method.PrismFallback;
      volume_best_m3 = nought;
      volume_prism_bound_m3 = Some nought;
      profile_invalid = None;
      triangles_used = 0;
      triangles_out_of_range = 0;
      triangles_sliver = 0;
    }
