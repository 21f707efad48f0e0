-- The pairs (02, A3): how many cells of each footprint that the prism is made of are covered, and how many of these are on the rim.
use Rattle.std.specs.Prelude.{ℕ, cond, List, Float}
use Rattle.ieee.specs.Single.{extent}
use Rattle.raster.specs.declared.Pair.{Pair}
use Rattle.raster.specs.declared.Window.{Window}
use Rattle.raster.specs.Footprint.{no_cells, footprint}
use Rattle.sums.specs.declared.bounds.Bounds.{Bounds}
use Rattle.verdict.specs.declared.Quality.{Quality}
use Rattle.volume.specs.declared.Pairs.{Pairs}
use Rattle.volume.specs.Best.{across_x, across_y, across_z, has_footprint}

-- the cells of a footprint in a window, e being the extent on the third axis; none where the box is flat on one of them
unfoldable pub pair_on : List Float → List ℕ → Window → Float → Pair
pair_on vs ids s e = cond (has_footprint s e) (footprint vs ids s).cells no_cells

unfoldable pub prism_pairs : List Float → List ℕ → Bounds → Pairs
prism_pairs vs ids b =
    record {
      z = pair_on vs ids (across_z b) (extent b.zmin b.zmax);
      y = pair_on vs ids (across_y b) (extent b.ymin b.ymax);
      x = pair_on vs ids (across_x b) (extent b.xmin b.xmax);
    }

abbrev pub no_pairs : Pairs
no_pairs = record { z = no_cells; y = no_cells; x = no_cells }

-- an open shell has those of its own prism, p; any other six zeros
unfoldable pub pairs_of : Quality → Pairs → Pairs
pairs_of Quality.Closed p = no_pairs
pairs_of Quality.Degenerate p = no_pairs
pairs_of Quality.OpenShell p = p
