-- `listing::profile_line` meets its contract: none, or the defect's line. Assumes nothing.
use mathlib.Core.Path.{refl}
use native.Mathlib.Omega.{arith}
use Rattle.spelling.specs.Text.{line}
use Rattle.record.specs.Names.{profile_name}
use Rattle.listing.proofs.profile_line.Goals as goal

pub returns-in-None : goal.returns-in-None
unfolding line profile_name
returns-in-None c = rw c.in-None.is (refl, omega arith)

pub returns-in-Some : goal.returns-in-Some
unfolding profile_name
returns-in-Some c = rw c.in-Some.is c.defect_line.ensures
