-- `probe::probe_point_in_triangle` meets its contract: the number of what the point test answers. Assumes nothing.
use mathlib.Core.Path.{◌∙◌, ap}
use Rattle.grid.specs.Point.{place_number}
use Rattle.probe.proofs.probe_point_in_triangle.Goals as goal

pub returns : goal.returns
returns c = c.from.ensures ∙ ap place_number c.point_in_triangle.ensures
