-- `listing::defect_line` meets its contract: case by case the text is the line. Assumes nothing.
use mathlib.Core.Path.{refl}
use native.Mathlib.Omega.{arith}
use Rattle.spelling.specs.Text.{line}
use Rattle.record.specs.Names.{defect_name}
use Rattle.listing.proofs.defect_line.Goals as goal

pub returns-in-SelfIntersecting : goal.returns-in-SelfIntersecting
unfolding line defect_name
returns-in-SelfIntersecting c = rw c.in-SelfIntersecting.is (refl, omega arith)

pub returns-in-Degenerate : goal.returns-in-Degenerate
unfolding line defect_name
returns-in-Degenerate c = rw c.in-Degenerate.is (refl, omega arith)

pub returns-in-HoleOutside : goal.returns-in-HoleOutside
unfolding line defect_name
returns-in-HoleOutside c = rw c.in-HoleOutside.is (refl, omega arith)

pub returns-in-Overlapping : goal.returns-in-Overlapping
unfolding line defect_name
returns-in-Overlapping c = rw c.in-Overlapping.is (refl, omega arith)
