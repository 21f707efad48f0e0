-- `paint::View::flat` meets its contract: ids in range have their coordinates. Assumes nothing.
use Rattle.vertices.proofs.Range.{corners_below}
use Rattle.paint.proofs.View.flat.Goals as goal

pub point-requires : goal.point-requires
point-requires c = (corners_below _ _ c.requires).0

pub point-requires-2 : goal.point-requires-2
point-requires-2 c = (corners_below _ _ c.requires).1

pub point-requires-3 : goal.point-requires-3
point-requires-3 c = (corners_below _ _ c.requires).2
