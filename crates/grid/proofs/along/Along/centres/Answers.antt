-- `grid::Along::centres` meets its contract: one more centre is in the list after each turn. Assumes nothing.
use mathlib.Core.Path.{◌≡◌}
use mathlib.Core.List.{List}
use Prim.Native.Nat.{ℕ, ◌+◌, ◌<◌}
use native.Mathlib.Omega.{arith}
use native.Mathlib.Decide.{ℕ_discrete}
use lib.Ieee.{Float, nan}
use lib.ListN.{length, get_or, set, length-set}
use lib.Seq.{get_or-set_same, get_or-set_other}
use Rattle.grid.specs.declared.along.Along.{Along}
use Rattle.grid.specs.Grid.{centre_of}
use Rattle.grid.proofs.along.Along.centres.Goals as goal

one_more : (row : Along) (list : List Float) (i : ℕ) (c : Float) → i < length list → c ≡ centre_of row i
    → ((k : ℕ) → k < i → get_or list k nan ≡ centre_of row k) → (k : ℕ) → k < i + 1 → get_or (set list i c) k nan ≡ centre_of row k
one_more row list i c l e before k m =
    elim (ℕ_discrete k i) [
      | yes q ↦ rw q (rw e (get_or-set_same list i (centre_of row i) nan l))
      | no q ↦ rw (get_or-set_other list i k c nan q) (before k (omega arith))
    ]

pub loop-i-preserved : goal.loop-i-preserved
loop-i-preserved c =
    let l = c.loop-i in
    (simp length-set l.invariant.0, one_more c.args.self l.list l.i _ (omega (arith, l.invariant.0, c.loop-i-test.true)) c.centre.ensures l.invariant.1)
