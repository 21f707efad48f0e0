-- `program::print_mesh` meets its contract: the rows that the record counts stand first in the surface area, by `compute`'s contract.
-- Assumes nothing.
use Rattle.program.proofs.Answered.{rows_fit, record_text, refusal_text}
use native.Mathlib.Omega.{arith}
use Rattle.program.proofs.print_mesh.Goals as goal

pub print_record-requires : goal.print_record-requires
print_record-requires c =
    let m = c.args.m in
    let fit = rows_fit _ _ _ m.clip m.profile _ _ _ _ _ _ _ c.compute-answer.ensures _ c.in-Ok.is in
    (fit, omega (arith, fit, c.requires))

pub returns-in-Ok : goal.returns-in-Ok
returns-in-Ok c =
    let m = c.args.m in
    rw (
      ← record_text _ _ m.unit m.clip m.profile _ _ _ _ _ _ _ c.compute-answer.ensures (omega arith) (omega arith) (omega arith) _
          c.in-Ok.is,
      ← c.pieces_of-count.ensures,
    ) c.print_record.ensures

pub returns-in-Err : goal.returns-in-Err
returns-in-Err c =
    let m = c.args.m in
    rw (← refusal_text _ _ m.unit m.clip m.profile _ _ _ _ _ _ _ c.compute-answer.ensures (omega arith) (omega arith) (omega arith) _
    c.in-Err.is) c.print_refusal.ensures
