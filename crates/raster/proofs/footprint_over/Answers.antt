-- `raster::footprint_over` meets its contract: nothing for a box with no length, else the footprint on its grid, over the front of the
-- raster. Assumes nothing.
use Rattle.std.proofs.Common.{◌≡◌, length, refl, ◌∙◌, arith}
use Rattle.std.proofs.lemmas.List.{length-take-le}
use Rattle.std.proofs.lemmas.Slice.{drop-append-drop}
use Rattle.ids.specs.Lent.{cleared}
use Rattle.vertices.specs.Areas.{raster_bytes}
use Rattle.grid.specs.Grid.{cells}
use Rattle.raster.proofs.Counting.{few_cells, foot_none, foot_some}
use Rattle.raster.proofs.footprint_over.Goals as goal

pub returns-then-w-h : goal.returns-then-w-h
returns-then-w-h c =
    let a = c.args in
    let w = c.greatest-w in
    let h = c.greatest-h in
    let m = c.greatest-size in (
      foot_none a.vertices.now a.ids.now a.s w.result h.result m.result w.ensures h.ensures m.ensures
          c.no_footprint.result c.if-w-h.true c.no_footprint.ensures,
      refl,
    )

pub returns : goal.returns
unfolding cleared
returns c =
    let found = c.footprint_on in
    let a = c.args in
    let w = c.greatest-w in
    let h = c.greatest-h in
    let m = c.greatest-size in
    let g = c.grid_over-g in
    let few = few_cells g.result g.ensures.1 in
    let front = length-take-le (cells g.result) a.raster.now (omega (arith, few, c.requires)) in
    let long : length found.new.part ≡ cells g.result = found.auto.part ∙ front in (
      foot_some a.vertices.now a.ids.now a.s w.result h.result m.result w.ensures h.ensures m.ensures
          g.result found.result c.if-w-h.false g.ensures.0 found.ensures,
      rw (drop-append-drop (cells g.result) a.raster.now found.new.part raster_bytes few long),
    )
