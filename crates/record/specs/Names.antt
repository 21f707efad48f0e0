-- The names of the cases of each enum: 000's text for a quality and a method, and `as_str` of a defect.
use Rattle.std.specs.Prelude.{Option, Some, None}
use Prim.Native.String.{String}
use Rattle.verdict.specs.declared.Quality.{Quality}
use Rattle.volume.specs.declared.Method.{Method}
use Rattle.record.specs.declared.ProfileDefect.{ProfileDefect}

unfoldable pub quality_name : Quality → String
quality_name Quality.Closed = "closed"
quality_name Quality.OpenShell = "open_shell"
quality_name Quality.Degenerate = "degenerate"

unfoldable pub method_name : Method → String
method_name Method.Mesh = "mesh"
method_name Method.MeshOpen = "mesh_open"
method_name Method.PrismFallback = "prism_fallback"
method_name Method.MeshUnclipped = "mesh_unclipped"
method_name Method.MeshProfileInvalid = "mesh_profile_invalid"

unfoldable pub defect_name : ProfileDefect → String
defect_name ProfileDefect.SelfIntersecting = "self_intersecting"
defect_name ProfileDefect.Degenerate = "degenerate"
defect_name ProfileDefect.HoleOutside = "hole_outside"
defect_name ProfileDefect.Overlapping = "overlapping"

-- none, or the defect's name
unfoldable pub profile_name : Option ProfileDefect → String
profile_name None = "none"
profile_name (Some d) = defect_name d
