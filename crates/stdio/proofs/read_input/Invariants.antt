-- What the loop keeps: the n bytes stay, and those that are there are counted. Each turn but the last reads one at least.
use Rattle.std.proofs.Common.{length, ◌-◌, ◌≤◌, ◌≡◌, take}
use Rattle.stdio.proofs.read_input.Given as goal

abbrev pub invariant-loop-have : goal.invariant-loop-have
invariant-loop-have g l = (l.fn.n ≤ l.have) × (l.have ≤ length l.bytes) × (take l.fn.n l.bytes ≡ take l.fn.n l.initial.bytes)

abbrev pub decreases-loop-have : goal.decreases-loop-have
decreases-loop-have g l = length l.initial.bytes - l.have
