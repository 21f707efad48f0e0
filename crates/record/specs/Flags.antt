-- Flags (01): what an unapplied clip and a profile defect do to a record. Its numbers and its quality stay.
use Rattle.std.specs.Prelude.{Bool, true, false, Option, Some, None}
use Rattle.volume.specs.declared.Method.{Method}
use Rattle.record.specs.declared.MeshQto.{MeshQto}
use Rattle.record.specs.declared.ProfileDefect.{ProfileDefect}

-- `mesh` and `mesh_open` become another method; the rest say already which number is carried
unfoldable pub relabelled : Method → Method → Method
relabelled to Method.Mesh = to
relabelled to Method.MeshOpen = to
relabelled to Method.PrismFallback = Method.PrismFallback
relabelled to Method.MeshUnclipped = Method.MeshUnclipped
relabelled to Method.MeshProfileInvalid = Method.MeshProfileInvalid

-- not reliable, with a method and a profile
unfoldable pub marked : Method → Option ProfileDefect → MeshQto → MeshQto
marked m p q =
    record {
      volume_m3 = q.volume_m3;
      aabb_volume_m3 = q.aabb_volume_m3;
      surface_area_m2 = q.surface_area_m2;
      area_top_m2 = q.area_top_m2;
      area_bottom_m2 = q.area_bottom_m2;
      area_side_m2 = q.area_side_m2;
      area_inclined_m2 = q.area_inclined_m2;
      largest_surface_m2 = q.largest_surface_m2;
      smallest_surface_m2 = q.smallest_surface_m2;
      surface_count = q.surface_count;
      mesh_quality = q.mesh_quality;
      volume_reliable = false;
      volume_method = m;
      volume_best_m3 = q.volume_best_m3;
      volume_prism_bound_m3 = q.volume_prism_bound_m3;
      profile_invalid = p;
      triangles_used = q.triangles_used;
      triangles_out_of_range = q.triangles_out_of_range;
      triangles_sliver = q.triangles_sliver;
    }

-- clip unapplied: not reliable, and mesh_unclipped
abbrev pub clip_unapplied : MeshQto → MeshQto
clip_unapplied q = marked (relabelled Method.MeshUnclipped q.volume_method) q.profile_invalid q

-- a profile defect: not reliable, recorded, and mesh_profile_invalid
abbrev pub profile_invalid : MeshQto → ProfileDefect → MeshQto
profile_invalid q d = marked (relabelled Method.MeshProfileInvalid q.volume_method) (Some d) q

-- both: clip first
unfoldable pub if_clip : Bool → MeshQto → MeshQto
if_clip true q = clip_unapplied q
if_clip false q = q

unfoldable pub if_invalid : Option ProfileDefect → MeshQto → MeshQto
if_invalid None q = q
if_invalid (Some d) q = profile_invalid q d

abbrev pub flagged : Bool → Option ProfileDefect → MeshQto → MeshQto
flagged clip profile q = if_invalid profile (if_clip clip q)
