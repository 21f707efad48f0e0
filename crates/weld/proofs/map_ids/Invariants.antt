-- What the loop keeps.
use Rattle.std.proofs.Common.{◌≡◌, ℕ, ◌<◌, get_or}
use Rattle.weld.specs.inner.Mapped.{id_by}
use Rattle.weld.proofs.map_ids.Given as goal

abbrev pub invariant-loop-i : goal.invariant-loop-i
invariant-loop-i l = (k : ℕ) → k < l.i → get_or l.to k 0 ≡ id_by l.names (get_or l.ids k 0)
