-- Best volume (01): which volume is carried, by what method, whether it is to be trusted, and the prism bound. f32, each step rounded once.
use Rattle.std.specs.Prelude.{ℕ, Bool, true, false, not, ◌&&◌, cond, List, Float, Some, None}
use Rattle.std.specs.Float.{inf, binary32}
use Rattle.std.specs.Float.Ieee.{lt, le, of_bits}
use Rattle.ieee.specs.Cube.{cube_above}
use Rattle.ieee.specs.Order.{least}
use Rattle.ieee.specs.Single.{◌⊗◌, nought, extent}
use Rattle.vertices.specs.declared.Axis.{Axis}
use Rattle.raster.specs.declared.Window.{Window}
use Rattle.raster.specs.Footprint.{window_of, footprint}
use Rattle.sums.specs.declared.bounds.Bounds.{Bounds}
use Rattle.verdict.specs.declared.Quality.{Quality}
use Rattle.volume.specs.declared.Best.{Best}
use Rattle.volume.specs.declared.Method.{Method}

-- ---- the prism: the least positive of three products footprint × extent

-- the window across each axis
abbrev pub across_x : Bounds → Window
across_x b = window_of Axis.Y Axis.Z b.ymin b.ymax b.zmin b.zmax

abbrev pub across_y : Bounds → Window
across_y b = window_of Axis.X Axis.Z b.xmin b.xmax b.zmin b.zmax

abbrev pub across_z : Bounds → Window
across_z b = window_of Axis.X Axis.Y b.xmin b.xmax b.ymin b.ymax

-- is there a footprint in a window, e being the extent on the third axis? Not where the box is flat on one of them
abbrev pub has_footprint : Window → Float → Bool
has_footprint s e = lt nought e && (lt s.xmin s.xmax && lt s.ymin s.ymax)

-- its area times that extent, or 0
unfoldable pub prism_on : List Float → List ℕ → Window → Float → Float
prism_on vs ids s e = cond (has_footprint s e) ((footprint vs ids s).area ⊗ e) nought

abbrev pub prism_x : List Float → List ℕ → Bounds → Float
prism_x vs ids b = prism_on vs ids (across_x b) (extent b.xmin b.xmax)

abbrev pub prism_y : List Float → List ℕ → Bounds → Float
prism_y vs ids b = prism_on vs ids (across_y b) (extent b.ymin b.ymax)

abbrev pub prism_z : List Float → List ℕ → Bounds → Float
prism_z vs ids b = prism_on vs ids (across_z b) (extent b.zmin b.zmax)

-- the lesser of m and p, if p is positive
unfoldable pub or_less : Float → Float → Float
or_less m p = cond (lt nought p) (least m p) m

abbrev pub least_positive : Float → Float → Float → Float
least_positive x y z = or_less (or_less (or_less (inf false) x) y) z

-- times u³; 0 where none is positive
unfoldable pub or_none : Float → Float → Float
or_none p cube = cond (lt p (inf false)) (p ⊗ cube) nought

unfoldable pub prism : List Float → List ℕ → Bounds → Float → Float
prism vs ids b cube = or_none (least_positive (prism_x vs ids b) (prism_y vs ids b) (prism_z vs ids b)) cube

-- ---- whether the volume of an open shell is to be trusted

-- the smaller positive of prism and box
unfoldable pub upper : Float → Float → Float
upper prism box = cond (lt nought prism) (cond (lt nought box) (least prism box) prism) (cond (lt nought box) box nought)

-- 1e-3 and 1.05
abbrev pub thousandth : Float
thousandth = of_bits binary32 0x3a83_126f

abbrev pub margin : Float
margin = of_bits binary32 0x3f86_6666

-- collapsed: prism p at least 1e-3, the volume v under a thousandth of the upper bound, and the surface area s above half of p to the power
-- 2/3
unfoldable pub collapsed : Float → Float → Float → Float → Bool
collapsed p most v s = le thousandth p && (cube_above s p && lt v (most ⊗ thousandth))

unfoldable pub trusted : Float → Float → Float → Float → Bool
trusted p most v s = lt nought most && (lt nought v && (not (collapsed p most v s) && le v (most ⊗ margin)))

-- ---- the best volume, by |volume| v, the surface area s, the box and the prism p

unfoldable pub open_best : Float → Float → Float → Float → Best
open_best v s box p =
    cond (trusted p (upper p box) v s)
    (record { volume = v; method = Method.MeshOpen; reliable = true; prism = Some p })
    (record { volume = p; method = Method.PrismFallback; reliable = false; prism = Some p })

abbrev pub closed_best : Float → Best
closed_best v = record { volume = v; method = Method.Mesh; reliable = true; prism = None }

abbrev pub degenerate_best : Best
degenerate_best = record { volume = nought; method = Method.PrismFallback; reliable = false; prism = Some nought }

unfoldable pub best_of : Quality → Float → Float → Float → Float → Best
best_of Quality.Closed v s box p = closed_best v
best_of Quality.Degenerate v s box p = degenerate_best
best_of Quality.OpenShell v s box p = open_best v s box p
