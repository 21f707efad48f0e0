-- `meshfile::layout_within` meets its contract: its tests are the definition's. Assumes nothing.
use Rattle.ids.proofs.PassedOn.{passed_on}
use Rattle.meshfile.specs.inner.Steps.{in_room}
use Rattle.meshfile.proofs.layout_within.Goals as goal

pub returns-in_err-p : goal.returns-in_err-p
unfolding in_room
returns-in_err-p c = rw (passed_on _ _ c.from_residual.ensures, ← c.in_err-p.ensures)

pub returns-then-v-p : goal.returns-then-v-p
unfolding in_room
returns-then-v-p c = rw (← c.in_ok-p.ensures, c.if-v-p.true)

pub returns : goal.returns
unfolding in_room
returns c = rw (← c.in_ok-p.ensures, c.if-v-p.false)
