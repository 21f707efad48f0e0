-- `raster::footprint_on` meets its contract: the part is zero before, so that its bytes say what all triangles paint. Assumes nothing.
use Rattle.std.proofs.Common.{◌≡◌, length, replicate, arith}
use Rattle.grid.specs.Grid.{cells}
use Rattle.raster.proofs.Counting.{few_cells, counted, footprint_of}
use Rattle.raster.proofs.footprint_on.Goals as goal

pub tally-cells-requires : goal.tally-cells-requires
tally-cells-requires c = omega (arith, c.paint_all.ensures.long, c.fill.ensures.len, c.requires.1, few_cells c.args.g c.requires.0)

pub returns : goal.returns
returns c =
    let long : length c.paint_all.new.part ≡ cells c.args.g = omega (arith, c.paint_all.ensures.long, c.fill.ensures.len, c.requires.1) in
    let zero : c.fill.new.self ≡ replicate (cells c.args.g) 0 = rw (← c.requires.1) (c.fill.ensures.after (λ y e. e)) in
    footprint_of _ _ _ _ _ _ _ (counted _ _ _ _ _ _ _ _ zero long c.paint_all.ensures c.tally-cells.ensures) c.nearest_u32_to_f32.ensures
