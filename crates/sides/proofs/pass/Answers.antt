-- `sides::pass` meets its contract. The slots are freed, filled, and the triangles behind looked up. Assumes nothing.
use mathlib.Core.Path.{◌≡◌, refl, ◌∙◌, subst}
use Prim.Native.Nat.{ℕ, ◌-◌, ◌*◌, ◌/◌}
use native.Mathlib.Omega.{arith}
use borrow.Author.Tests.{lt-ltb}
use lib.ListN.{length}
use Rattle.sides.specs.inner.Passes.{SlotsReady, Settles}
use Rattle.sides.specs.inner.Sides.{taken}
use Rattle.sides.proofs.Joins.{good_kept}
use Rattle.sides.proofs.Rows.{slots_free}
use Rattle.sides.proofs.Passes.{ready_then, swept}
use Rattle.sides.proofs.pass.Goals as goal
use Rattle.sides.proofs.pass.Lts as lts
use Rattle.sides.proofs.pass.Tie.{the-claims}
use Rattle.sides.proofs.pass.Reads.{Pre, Post}

-- the slots are free
module _ (c : lts.After-plan_of the-claims Pre Post) where
  long : length c.free.new.work ≡ length c.args.work.now
  long = c.free.auto.work

  emptied : SlotsReady c.plan_of-plan.result c.args.ids.now c.free.new.work
  emptied =
      let z = c.requires.0.labelled in
      let limit = c.plan_of-plan.ensures.1 in
      record {
        sized = record { few = c.requires.0.sized.few; long = long ∙ c.requires.0.sized.long };
        limited = (omega (arith, limit, c.requires.1, long), omega (arith, limit));
        slots = slots_free (rw long c.free.ensures.slots);
        labelled = (z.0, good_kept long c.free.ensures.parents z.1);
      }

pub enter_from-next-requires : goal.enter_from-next-requires
enter_from-next-requires c = (emptied c.before.before, omega (arith, long c.before.before, c.requires.1))

pub enter_from-requires : goal.enter_from-requires
enter_from-requires c =
    let kept = c.enter_from-next.auto.work in
    let told = c.enter_from-next.ensures in
    (ready_then _ (emptied c.before.before.before.before.before.before) kept told.enters, omega (arith, kept, told.within))

pub returns : goal.returns
returns c =
    let ids = c.args.ids.now in
    let told = c.enter_from-next.ensures in
    let kept = c.enter_from-next.auto.work in
    let behind = c.enter_from.ensures in
    let some = lt-ltb 0 (length c.free.new.work - length c.free.new.work / 8) (omega (arith, long c.before.before.before.before.before.before.before.before.before, c.requires.1)) in
    let all = swept (long c.before.before.before.before.before.before.before.before.before) c.free.ensures told.enters some (rw kept at behind.enters)
    (omega (arith, behind.all refl, kept)) in (
      told.ahead,
      omega (arith, told.within, long c.before.before.before.before.before.before.before.before.before),
      subst (λ (q : ℕ). Settles ids (taken ids q) (length c.args.work.now) (3 * c.args.from) (3 * c.enter_from-next.result)
          c.args.work.now c.enter_from.new.work) c.plan_of-plan.ensures.0 (rw (long c.before.before.before.before.before.before.before.before.before) at all),
    )
