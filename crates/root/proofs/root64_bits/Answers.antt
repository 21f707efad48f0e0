-- `root::root64_bits` meets its contract. Assumes nothing.
use Rattle.std.proofs.Common.{arith}
use lib.Ieee.{binary64}
use Rattle.ieee.proofs.Patterns.Nan.{up_to_inf}
use Rattle.ieee.proofs.Patterns.Root.{infinity_bits, nan_bits, zero_bits}
use Rattle.root.proofs.Range.{inside, no_digits, outside}
use Rattle.root.proofs.root64_bits.Goals as goal

pub float_from_bits-b : goal.float_from_bits-b
float_from_bits-b c = up_to_inf binary64 c.args.b (let h = inside c.args.b c.if-b.true in omega arith)

pub root_normal-requires : goal.root_normal-requires
root_normal-requires c = inside c.args.b c.if-b.true

pub returns-then-b : goal.returns-then-b
returns-then-b c = c.root_normal.ensures.0

pub returns-then-b-eq0 : goal.returns-then-b-eq0
returns-then-b-eq0 c =
    zero_bits c.args.b c.ranges.b.fits (no_digits c.args.b c.if-b-eq0.true)

pub returns-then-b-eq-LAST : goal.returns-then-b-eq-LAST
returns-then-b-eq-LAST c = infinity_bits c.args.b c.if-b-eq-LAST.true

pub returns-else-b-eq-LAST : goal.returns-else-b-eq-LAST
returns-else-b-eq-LAST c =
    let b = c.args.b in
    let past = outside b c.if-b.false (omega arith) in
    nan_bits b c.ranges.b.fits (omega arith) (λ z. omega arith)
