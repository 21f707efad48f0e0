-- `record::profile_of` meets its contract: the numbers from 4 are one case of the definition. Assumes nothing.
use native.Mathlib.Omega.{arith}
use Rattle.record.specs.Numbers.{profile_at}
use Rattle.record.proofs.Numbers.{profile_from_four}
use Rattle.record.proofs.profile_of.Goals as goal

pub returns-in-0 : goal.returns-in-0
unfolding profile_at
returns-in-0 c = rw c.in-0.is

pub returns-in-1 : goal.returns-in-1
unfolding profile_at
returns-in-1 c = rw c.in-1.is

pub returns-in-2 : goal.returns-in-2
unfolding profile_at
returns-in-2 c = rw c.in-2.is

pub returns-in-3 : goal.returns-in-3
unfolding profile_at
returns-in-3 c = rw c.in-3.is

pub returns-in_default : goal.returns-in_default
returns-in_default c = profile_from_four c.args.defect (omega arith)
