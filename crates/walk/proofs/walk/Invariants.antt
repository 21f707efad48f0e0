-- What the loop keeps: what is under way after t turns.
use Rattle.std.proofs.Common.{◌≡◌, length}
use Rattle.walk.specs.inner.Steps.{given, state, Underway}
use Rattle.walk.proofs.walk.Given as goal

abbrev pub invariant-loop-t : goal.invariant-loop-t
invariant-loop-t l =
    (length l.index ≡ length l.initial.index) × (length l.rows ≡ length l.initial.rows)
    × Underway (given l.vertices l.origin l.pair l.indices l.initial.rows) l.t (state l.index l.rows l.s) l.held l.next
