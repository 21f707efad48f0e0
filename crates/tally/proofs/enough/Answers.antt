-- `tally::enough` meets its contract, by cases: fewer than nine ids or not, and then by what three leaves. Assumes nothing.
use Prim.Native.Nat.{◌%◌, ◌≤◌}
use native.Mathlib.Decide.{ℕ_discrete, dec_lt}
use native.Mathlib.Omega.{arith}
use borrow.Author.Tests.{lt-ltb, le-ltb, lt-leb, le-leb, eq-eqb, ne_eqb}
use Rattle.ids.specs.EdgeChain.{enough}
use Rattle.tally.proofs.enough.Goals as goal

ruleset tests = (lt-ltb, le-ltb, lt-leb, le-leb, eq-eqb, ne_eqb)

pub returns : goal.returns
unfolding enough
returns c =
    let n = c.args.n in
    let left = ℕ_discrete (n % 3) 0 in
    elim (dec_lt n 9) [
      | yes few ↦ elim left [ yes e ↦ simp tests | no e ↦ simp tests ]
      | no many ↦ let nine : 9 ≤ n = omega arith in elim left [ yes e ↦ simp tests | no e ↦ simp tests ]
    ]
