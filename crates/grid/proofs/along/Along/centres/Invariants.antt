-- What the loop keeps: there are no more than 256 floats, and the first i are the centres of their cells.
use Rattle.std.proofs.Common.{◌≡◌, ◌≤◌, ◌<◌, ℕ, length, slice_index_or}
use lib.Ieee.{nan}
use Rattle.grid.specs.Grid.{centre_of}
use Rattle.grid.proofs.along.Along.centres.Given as goal

abbrev pub invariant-loop-i : goal.invariant-loop-i
invariant-loop-i l = (length l.list ≤ 256) × ((k : ℕ) → k < l.i → slice_index_or l.list k nan ≡ centre_of l.self k)
