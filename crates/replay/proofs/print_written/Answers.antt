-- `replay::print_written` is safe: a file that was written lies within the area. Assumes nothing.
use Rattle.std.proofs.Common.{arith, sym}
use lib.Seq.{length-take-le}
use Rattle.meshfile.proofs.Writes.{written_few}
use Rattle.replay.proofs.print_written.Goals as goal

pub slice_bounds-area-end : goal.slice_bounds-area-end
slice_bounds-area-end g c = omega (arith, written_few _ _ _ _ c.write-answer.ensures _ c.in-Ok.is)

pub slice_bounds-print_file-end : goal.slice_bounds-print_file-end
slice_bounds-print_file-end g c =
    sym (length-take-le _ _ (omega (arith, written_few _ _ _ _ c.write-answer.ensures _ c.in-Ok.is)))

pub slice_bounds-area-end-in-Ok : goal.slice_bounds-area-end-in-Ok
slice_bounds-area-end-in-Ok g c = omega (arith, written_few _ _ _ _ c.write-answer.ensures _ c.in-Ok.is)

pub slice_bounds-print_cut-end : goal.slice_bounds-print_cut-end
slice_bounds-print_cut-end g c =
    sym (length-take-le _ _ (omega (arith, written_few _ _ _ _ c.write-answer.ensures _ c.in-Ok.is)))
