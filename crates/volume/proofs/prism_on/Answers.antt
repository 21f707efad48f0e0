-- `volume::prism_on` meets its contract: a footprint is asked where the box has a length on each axis; else the raster is cleared. Assumes
-- nothing.
use Rattle.volume.specs.Best.{prism_on}
use Rattle.volume.specs.Pairs.{pair_on}
use Rattle.ids.proofs.Lent.{cleared_all}
use mathlib.Core.Path.{◌∙◌}
use Rattle.volume.proofs.prism_on.Goals as goal

pub returns-then-along-s : goal.returns-then-along-s
unfolding prism_on pair_on
returns-then-along-s c =
    let p = c.footprint_raw-found in (
      rw (c.if-along-s.true, ← p.ensures.0),
      rw (c.if-along-s.true, ← p.ensures.0),
      p.ensures.1 ∙ cleared_all _ _ c.requires,
    )

pub returns : goal.returns
unfolding prism_on pair_on
returns c = (
  rw c.if-along-s.false,
  rw c.if-along-s.false c.no_cells.ensures,
  c.clear.ensures ∙ cleared_all _ _ c.requires,
)
