-- `edges::Unpaired` passes an edge by how often it is used: never, once, twice or more, and for twice how often upwards. So only another
-- answer is refused, and no other wording. Assumes nothing.
use mathlib.Core.Path.{◌∙◌}
use Prim.Native.Nat.{ℕ, ◌<◌}
use native.Mathlib.Decide.{ℕ_discrete}
use native.Mathlib.Omega.{arith}
use borrow.Author.Tests.{lt-ltb, lt-leb, eq-eqb, ne_eqb}
use Rattle.edges.proofs.Tested.{unpaired_bit}
use Rattle.edges.proofs.UnpairedEdgeTest.passes.Goals as goal

ruleset tests = (lt-ltb, lt-leb, eq-eqb, ne_eqb)

pub returns : goal.returns
returns c =
    let n : ℕ = c.all-all.result in
    let u : ℕ = c.args.uses.ups in
    rw (← c.all-all.ensures) (
    elim (ℕ_discrete n 0) [
      | yes e ↦ simp e
      | no a ↦ elim (ℕ_discrete n 1) [
        | yes e ↦ simp e
        | no b ↦ elim (ℕ_discrete n 2) [
          | yes e ↦ elim (ℕ_discrete u 1) [ yes f ↦ simp (e, f) | no f ↦ simp (e, tests) ]
          | no d ↦ let l : 0 < n = omega arith in let k : 1 < n = omega arith in simp tests
        ]
      ]
    ]
    ∙ unpaired_bit n u)
