-- `forest::join` meets its contract. Of the two roots the larger hangs on the smaller. Assumes nothing.
use mathlib.Core.Path.{◌≡◌, ◌∙◌}
use Prim.Native.Nat.{◌≤◌, ◌<◌}
use native.Mathlib.Omega.{arith}
use lib.ListN.{length}
use Rattle.forest.proofs.Roots.{TwoRoots, roots_inside, joined_up, joined_down}
use Rattle.forest.proofs.join.Goals as goal
use Rattle.forest.proofs.join.Goals.{After-root-r, After-root-s, Start}

pub root-s-requires : goal.root-s-requires
root-s-requires c =
    let z = c.requires.3 in
    let long = c.root-r.auto.work in
    (omega (arith, long, c.requires.1), omega (arith, long, c.requires.2), (z.0, rw long (c.root-r.ensures.means z.0 z.1)))

module _ (c : After-root-s) where
  abbrev one : After-root-r
  one = c.before.before.before.before

  abbrev st : Start
  st = one.before.before.before

  two : TwoRoots st.args.work.now one.root-r.new.work c.root-s.new.work st.args.a st.args.b one.root-r.result
      c.root-s.result
  two = record {
    one = st.requires.0;
    two = st.requires.1;
    few = st.requires.2;
    forest = st.requires.3;
    long = one.root-r.auto.work;
    still = c.root-s.auto.work;
    first = one.root-r.ensures;
    second = c.root-s.ensures;
  }

  both-inside : (one.root-r.result < length c.root-s.new.work) × (c.root-s.result < length c.root-s.new.work)
      × (length c.root-s.new.work ≤ 32768)
  both-inside =
      let inside = roots_inside two in
      let long : length c.root-s.new.work ≡ length st.args.work.now = two.still ∙ two.long in
      (omega (arith, inside.0), omega (arith, inside.1), omega (arith, st.requires.2))

pub hang-requires : goal.hang-requires
hang-requires c = let i = both-inside c.before.before.before.before in (i.1, omega (arith, i.0, i.2))

pub hang-requires-else-r-s : goal.hang-requires-else-r-s
hang-requires-else-r-s c = let i = both-inside c.before.before.before.before in (i.0, omega (arith, i.1, i.2))

pub returns-then-r-s : goal.returns-then-r-s
returns-then-r-s c =
    joined_up (two c.before.before.before.before.before.before.before.before) c.if-r-s.true c.hang.ensures

pub returns-else-r-s : goal.returns-else-r-s
returns-else-r-s c =
    joined_down (two c.before.before.before.before.before.before.before.before) c.if-r-s.false c.hang-else-r-s.ensures
