-- `program::stl_mesh` meets its contract: the unit is the float of 0.001's pattern. Assumes nothing.
use mathlib.Core.Path.{refl}
use Rattle.program.proofs.stl_mesh.Goals as goal

pub returns : goal.returns
returns c = record { unit = c.float_of.ensures; clip = refl; profile = refl; floats = refl; ids = refl }
