-- `integers::to_u64` meets its contract. Assumes nothing.
use Rattle.std.proofs.Common.{true, false, pos, sym}
use lib.Ieee.{fin, is_nan, neg, of_bits}
use denote.Floats.{passes}
use Rattle.ieee.proofs.Order.Comparison.{lt_right, lt_of_not_le}
use Rattle.ieee.proofs.Order.Ranges.{reaches_above, unsigned_end, unsigned_low}
use Rattle.integers.proofs.to_u64.Goals as goal

pub truncating_f32_to_u64-requires : goal.truncating_f32_to_u64-requires
unfolding is_nan neg of_bits
truncating_f32_to_u64-requires c =
    let number = lt_right (fin true 1 (pos 0)) c.args.x c.if-x-2.true in
    record { lower_bound = passes _ c.if-x-2.true; upper_bound = lt_of_not_le (fin false 1 (pos 64)) _ tt number c.if-x.false }

pub returns-then-x : goal.returns-then-x
unfolding of_bits
returns-then-x c = sym (unsigned_end 64 c.args.x (reaches_above 64 c.args.x c.if-x.true))

pub returns-else-x-2 : goal.returns-else-x-2
unfolding neg of_bits
returns-else-x-2 c = sym (unsigned_low 64 c.args.x c.if-x-2.false)
