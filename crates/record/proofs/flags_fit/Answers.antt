-- `record::flags_fit` meets its contract, by what it means: whichever of the two numbers is small enough, it answers as the definition
-- does. Assumes nothing.
use native.Mathlib.Decide.{dec_lt}
use native.Mathlib.Omega.{arith}
use Prim.Native.Nat.{◌≤◌, ◌<◌}
use borrow.Author.Tests.{lt-ltb, le-ltb, lt-leb, le-leb}
use Rattle.record.specs.Numbers.{flags_fit}
use Rattle.record.proofs.flags_fit.Goals as goal

ruleset tests = (lt-ltb, le-ltb, lt-leb, le-leb)

pub returns : goal.returns
unfolding flags_fit
returns c =
    let d = c.args.defect in
    elim (dec_lt 1 c.args.clip) [
      | yes many ↦ elim (dec_lt d 5) [
        | yes known ↦ let k : d ≤ 4 = omega arith in simp tests
        | no past ↦ let p : 4 < d = omega arith in simp tests
      ]
      | no few ↦
          let f : c.args.clip ≤ 1 = omega arith in
          elim (dec_lt 4 d) [ yes past ↦ simp tests | no known ↦ let k : d ≤ 4 = omega arith in simp tests ]
    ]
