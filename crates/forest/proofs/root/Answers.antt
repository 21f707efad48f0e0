-- `forest::root` meets its contract. The loop climbs: the labels stay, and x has the label that t has. The measure is x, since no parent
-- is larger than its child. Assumes nothing.
use mathlib.Core.Path.{refl}
use Prim.Native.Nat.{ℕ, ◌<◌}
use native.Mathlib.Omega.{arith}
use Rattle.forest.proofs.Roots.{Climb, next_inside, climbed, climbed_out}
use Rattle.forest.proofs.root.Goals as goal
use Rattle.forest.proofs.root.Goals.{After-hang, At-loop-x, Else-p-x, Start}

pub loop-x-init : goal.loop-x-init
loop-x-init c = record { inside = c.requires.0; long = refl; means = λ f m. m; label = λ f m. refl; slots = λ i. refl }

pub parent-p-requires : goal.parent-p-requires
parent-p-requires c =
    let l = c.loop-x in
    omega (arith, l.invariant.inside, l.invariant.long)

abbrev start : At-loop-x → Start
start c = c.before.before

pub returns-then-p-x : goal.returns-then-p-x
returns-then-p-x c =
    climbed_out c.loop-x.invariant (start c.before.before).requires.2 c.parent-p.ensures c.if-p-x.true

pub parent-q-requires : goal.parent-q-requires
parent-q-requires c =
    omega (arith, c.loop-x.invariant.long, next_inside c.loop-x.invariant (start c.before.before).requires.2 c.parent-p.ensures)

-- x is hung two steps higher
module _ (c : After-hang) where
  abbrev test : Else-p-x
  test = c.before.before.before

  abbrev at : At-loop-x
  at = test.before.before

  abbrev next : ℕ
  next = c.parent-q.result

  higher : (next < at.loop-x.x) × Climb (start at).args.work.now c.hang.new.work (start at).args.t next
  higher =
      climbed at.loop-x.invariant (start at).requires.2 (record {
        parent = test.parent-p.ensures;
        other = test.if-p-x.false;
        above = c.parent-q.ensures;
        hangs = c.hang.ensures;
      }) (start at).requires.1

pub loop-x-smaller : goal.loop-x-smaller
loop-x-smaller c = (higher c.before.before.before).0

pub loop-x-preserved : goal.loop-x-preserved
loop-x-preserved c = (higher c.before.before.before).1
