-- `listing::quality_line` meets its contract: case by case the text is the line. Assumes nothing.
use mathlib.Core.Path.{refl}
use native.Mathlib.Omega.{arith}
use Rattle.spelling.specs.Text.{line}
use Rattle.record.specs.Names.{quality_name}
use Rattle.listing.proofs.quality_line.Goals as goal

pub returns-in-Closed : goal.returns-in-Closed
unfolding line quality_name
returns-in-Closed c = rw c.in-Closed.is (refl, omega arith)

pub returns-in-OpenShell : goal.returns-in-OpenShell
unfolding line quality_name
returns-in-OpenShell c = rw c.in-OpenShell.is (refl, omega arith)

pub returns-in-Degenerate : goal.returns-in-Degenerate
unfolding line quality_name
returns-in-Degenerate c = rw c.in-Degenerate.is (refl, omega arith)
