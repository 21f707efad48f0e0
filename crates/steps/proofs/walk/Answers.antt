-- `steps::walk` meets its contract: the row that the search found counts one use more, and its word has room for it. Assumes nothing.
use mathlib.Core.Path.{ap}
use Prim.Native.Nat.{◌≤◌}
use native.Mathlib.Decide.{dec_lt}
use native.Mathlib.Omega.{arith}
use borrow.Author.Tests.{lt-ltb, le-ltb, le-leb, lt-leb}
use Rattle.ids.specs.EdgeChain.{Edge}
use Rattle.steps.proofs.Added.{Reached, bump_fits, walked}
use Rattle.steps.proofs.Within.{room_free}
use Rattle.steps.proofs.walk.Goals as goal
use Rattle.steps.proofs.walk.Goals.{After-weight}

pub find-r-requires : goal.find-r-requires
find-r-requires c =
    record {
      space = c.requires.space;
      starts = c.home-start.ensures.1;
      free = room_free c.args.n c.args.work.now c.requires.room;
    }

-- which way the step goes, whatever words ask for it
ruleset tests = (lt-ltb, le-ltb, le-leb, lt-leb)

module _ (c : After-weight) where
  reached : Reached c.args.n c.args.work.now c.args.u c.args.v c.between-edge.result.low c.between-edge.result.high
      c.hash.result c.home-start.result c.find-r.result c.weight.result
  reached = record {
    lower = ap (λ (e : Edge). e.low) c.between-edge.ensures;
    higher = ap (λ (e : Edge). e.high) c.between-edge.ensures;
    hashed = c.hash.ensures;
    homed = c.home-start.ensures.0;
    found = c.find-r.ensures;
    weighed = elim (dec_lt c.args.u c.args.v) [
      | yes up ↦ simp (c.weight.ensures, tests)
      | no down ↦ let level : c.args.v ≤ c.args.u = omega (arith, down) in simp (c.weight.ensures, tests)
    ];
  }

pub bump-requires : goal.bump-requires
bump-requires c = bump_fits c.requires (reached c)

pub returns : goal.returns
returns c = rw c.bump.ensures (walked c.requires (reached c.before.before.before.before))
