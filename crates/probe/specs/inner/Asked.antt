-- What numbers in a row mean to the runs: an axis, a triangle in the plane, a window, a footprint's cells.
use Rattle.std.specs.Prelude.{ℕ, zero, suc, ◌+◌, List, [], ◌∷◌, get_or, Float}
use Rattle.std.specs.Float.{nan}
use Rattle.vertices.specs.declared.Axis.{Axis}
use Rattle.grid.specs.declared.Point.{Point}
use Rattle.grid.specs.declared.Flat.{Flat}
use Rattle.raster.specs.declared.Pair.{Pair}
use Rattle.raster.specs.declared.Window.{Window}

abbrev pub float_at : List Float → ℕ → Float
float_at q i = get_or q i nan

abbrev pub point_at : List Float → ℕ → Point
point_at q i = record { x = float_at q i; y = float_at q (i + 1) }

-- behind the point that is asked about
abbrev pub flat_at : List Float → Flat
flat_at q = record { a = point_at q 2; b = point_at q 4; c = point_at q 6 }

-- 0 is x, 1 is y, and any other number z
unfoldable pub axis_at : ℕ → Axis
axis_at zero = Axis.X
axis_at (suc zero) = Axis.Y
axis_at (suc (suc n)) = Axis.Z

abbrev pub window_at : List ℕ → List Float → Window
window_at axes b =
    record {
      u = axis_at (get_or axes 0 0);
      v = axis_at (get_or axes 1 0);
      xmin = float_at b 0;
      xmax = float_at b 1;
      ymin = float_at b 2;
      ymax = float_at b 3;
    }

abbrev pub words_of_pair : Pair → List ℕ
words_of_pair p = p.covered ∷ p.rim ∷ []
