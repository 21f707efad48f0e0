-- `volume::prism` meets its contract: by its parts. Assumes nothing.
use native.Mathlib.Omega.{arith}
use lib.Ieee.{nan_bits}
use Rattle.volume.specs.Best.{across_x, across_y, across_z}
use Rattle.volume.proofs.Prisms.{IsAcross, prism_is, pairs_are}
use borrow.Author.Rules.{rules}
use Rattle.volume.proofs.prism.Goals as goal

pub float_from_bits-none : goal.float_from_bits-none
unfolding nan_bits
float_from_bits-none c = search rules

-- the raster keeps its length
pub prism_on-on_x-requires : goal.prism_on-on_x-requires
prism_on-on_x-requires c =
    omega (arith, c.prism_on-on_y.auto, c.prism_on-on_z.auto, c.requires)

pub shape_of-raster : goal.shape_of-raster
shape_of-raster c =
    omega (arith, c.prism_on-on_x.auto, c.prism_on-on_y.auto, c.prism_on-on_z.auto)

pub returns : goal.returns
returns c =
    let a = c.args in
    let vs = a.vertices.now in
    let ids = a.indices.now in
    let z : IsAcross vs ids c.window_on-across_z.result (across_z a.b) a.b.zmin a.b.zmax c.extent-tall.result c.prism_on-on_z.result =
    record {
      is_window = c.window_on-across_z.ensures;
      is_extent = c.extent-tall.ensures;
      is_prism = c.prism_on-on_z.ensures.0;
      is_pair = c.prism_on-on_z.ensures.1;
    } in
    let y : IsAcross vs ids c.window_on-across_y.result (across_y a.b) a.b.ymin a.b.ymax c.extent-deep.result c.prism_on-on_y.result =
    record {
      is_window = c.window_on-across_y.ensures;
      is_extent = c.extent-deep.ensures;
      is_prism = c.prism_on-on_y.ensures.0;
      is_pair = c.prism_on-on_y.ensures.1;
    } in
    let x : IsAcross vs ids c.window_on-across_x.result (across_x a.b) a.b.xmin a.b.xmax c.extent-wide.result c.prism_on-on_x.result =
    record {
      is_window = c.window_on-across_x.ensures;
      is_extent = c.extent-wide.ensures;
      is_prism = c.prism_on-on_x.ensures.0;
      is_pair = c.prism_on-on_x.ensures.1;
    } in (
      prism_is vs ids a.b z y x a.cube _ _ _ _ c.or_less.ensures c.or_less-2.ensures c.or_less-least.ensures c.or_none.ensures,
      pairs_are vs ids a.b z y x,
      c.prism_on-on_x.ensures.2,
    )
