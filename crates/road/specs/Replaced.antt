-- A record with another volume and other areas by slope: the glove turns both, an edition can change the areas.
use Rattle.std.specs.Prelude.{Float}
use Rattle.sums.specs.declared.totals.Areas.{Areas}
use Rattle.record.specs.declared.MeshQto.{MeshQto}

unfoldable pub replaced : Float → Areas → MeshQto → MeshQto
replaced volume areas q =
    record {
      volume_m3 = volume;
      aabb_volume_m3 = q.aabb_volume_m3;
      surface_area_m2 = q.surface_area_m2;
      area_top_m2 = areas.top;
      area_bottom_m2 = areas.bottom;
      area_side_m2 = areas.side;
      area_inclined_m2 = areas.inclined;
      largest_surface_m2 = q.largest_surface_m2;
      smallest_surface_m2 = q.smallest_surface_m2;
      surface_count = q.surface_count;
      mesh_quality = q.mesh_quality;
      volume_reliable = q.volume_reliable;
      volume_method = q.volume_method;
      volume_best_m3 = q.volume_best_m3;
      volume_prism_bound_m3 = q.volume_prism_bound_m3;
      profile_invalid = q.profile_invalid;
      triangles_used = q.triangles_used;
      triangles_out_of_range = q.triangles_out_of_range;
      triangles_sliver = q.triangles_sliver;
    }

-- the four areas of a record
abbrev pub areas_in : MeshQto → Areas
areas_in q =
    record { top = q.area_top_m2; bottom = q.area_bottom_m2; side = q.area_side_m2; inclined = q.area_inclined_m2 }
