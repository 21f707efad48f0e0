-- `sides::enter_from` meets its contract. The triangles from `from` on below t are entered, or looked up where no slot is to be
-- filled. Assumes nothing.
use mathlib.Core.Path.{◌≡◌, refl}
use mathlib.Core.Bool.{Bool, true, false, not, ◌&&◌, true≢false}
use native.Mathlib.Omega.{arith}
use borrow.Author.Tests.{ltb-true}
use lib.Dec.{ltb}
use lib.ListN.{length}
use Rattle.ids.proofs.Same.{both}
use Rattle.sides.proofs.Rows.{entered_none}
use Rattle.sides.proofs.Passes.{ready_then, enters_kept, enters_then}
use Rattle.sides.proofs.enter_from.Goals as goal

pub loop-t-init : goal.loop-t-init
loop-t-init c = entered_none c.requires.0.slots (λ i la lb. absurd (omega arith))

pub enter-entered-requires : goal.enter-entered-requires
enter-entered-requires c = (ready_then _ c.requires.0 c.loop-t.auto.work c.loop-t.invariant, omega (arith, c.loop-t.auto.work))

pub returns-then-entered-filling : goal.returns-then-entered-filling
returns-then-entered-filling c =
    let l = c.loop-t in
    let some = ltb-true 0 c.args.most (both (not c.enter-entered.result) _ c.if-entered-filling.true).1 in
    record {
      ahead = l.auto.t;
      within = omega arith;
      enters = enters_kept _ l.auto.work l.invariant c.enter-entered.ensures;
      all = λ z. absurd (omega (arith, some));
    }

-- the loop goes on where no slot is to be filled, or all is entered
goes_on : (filling entered : Bool) → not entered && filling ≡ false → filling && entered ≡ filling
goes_on true true h = refl
goes_on true false h = absurd (true≢false h)
goes_on false entered h = refl

pub loop-t-preserved : goal.loop-t-preserved
loop-t-preserved c =
    let l = c.loop-t in
    let then = enters_then _ l.auto.work l.invariant c.enter-entered.ensures refl in
    rw (goes_on (ltb 0 c.args.most) c.enter-entered.result c.if-entered-filling.false) at then

pub returns : goal.returns
returns c =
    let l = c.loop-t in
    let end : l.t ≡ length c.args.work.now = omega arith in
    record { ahead = c.requires.1; within = omega arith; enters = rw end at l.invariant; all = λ z. omega arith }
