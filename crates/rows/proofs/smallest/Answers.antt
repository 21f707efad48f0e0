-- `rows::smallest` meets its contract: the arrays of four are the rows. Assumes nothing.
use Rattle.std.proofs.Common.{rules, ◌∙◌, ◌/◌, length, sym}
use lib.Ieee.{of_bits, nan_bits}
use Rattle.rows.specs.Rows.{rows_of}
use Rattle.rows.proofs.Areas.{smallest_least, smallest_none}
use Rattle.rows.proofs.Fours.{least_fours, rows_quarter}
use Rattle.rows.proofs.smallest.Goals as goal

pub float_from_bits-most : goal.float_from_bits-most
unfolding nan_bits
float_from_bits-most c = search rules

pub returns-then-m-most : goal.returns-then-m-most
unfolding of_bits
returns-then-m-most c =
    let t = c.args.rows.now in
    smallest_least (rows_of t) c.least_above-m.result
    (c.least_above-m.ensures ∙ rw c.as_chunks.ensures.front (least_fours _ t (length t / 4) (sym (rows_quarter t)))) c.if-m-most.true

pub returns-else-m-most : goal.returns-else-m-most
unfolding of_bits
returns-else-m-most c =
    let t = c.args.rows.now in
    smallest_none (rows_of t) c.least_above-m.result
    (c.least_above-m.ensures ∙ rw c.as_chunks.ensures.front (least_fours _ t (length t / 4) (sym (rows_quarter t)))) c.if-m-most.false
