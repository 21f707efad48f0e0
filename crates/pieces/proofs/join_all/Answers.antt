-- `pieces::join_all` meets its contract. The classes before this one are settled. Assumes nothing.
use mathlib.Core.Path.{◌∙◌}
use native.Mathlib.Omega.{arith}
use Rattle.sides.proofs.Joins.{good_planted}
use Rattle.pieces.proofs.Joining.{joining_none, joining_next, joined_all}
use Rattle.pieces.proofs.join_all.Goals as goal

pub loop-class-init : goal.loop-class-init
loop-class-init c = joining_none (good_planted (rw c.plant.auto.work c.plant.ensures))

pub join_class-requires : goal.join_class-requires
join_class-requires c =
    let l = c.loop-class in
    let long = l.auto.work ∙ c.plant.auto.work in
    record {
      sized = record { few = c.requires.few; long = long ∙ c.requires.long };
      labelled = (l.invariant.label, l.invariant.good);
    }

pub loop-class-preserved : goal.loop-class-preserved
loop-class-preserved c =
    let l = c.loop-class in joining_next l.invariant (rw l.auto.work at c.join_class.ensures)

pub returns : goal.returns
returns c = let l = c.loop-class in joined_all l.auto.work l.invariant (omega arith)
