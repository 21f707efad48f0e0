-- `volume::without_footprints` meets its contract: the whole raster is cleared. Assumes nothing.
use Rattle.ids.proofs.Lent.{cleared_all}
use mathlib.Core.Path.{refl, ◌∙◌}
use Rattle.volume.proofs.without_footprints.Goals as goal

pub returns : goal.returns
returns c = (refl, c.no_pairs.ensures, c.clear.ensures ∙ cleared_all _ _ c.requires)
