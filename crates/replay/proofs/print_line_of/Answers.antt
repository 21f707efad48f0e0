-- `replay::print_line_of` is safe: a file that was read has no more floats and ids than the areas. Assumes nothing.
use Rattle.std.proofs.Common.{arith, sym}
use lib.Seq.{length-take-le}
use Rattle.meshfile.proofs.Most.{reads_most}
use Rattle.replay.proofs.print_line_of.Goals as goal

pub slice_bounds-vertices-end : goal.slice_bounds-vertices-end
slice_bounds-vertices-end g c = omega (arith, (reads_most _ _ _ _ _ _ c.read.ensures _ c.in-Ok.is).0)

pub slice_bounds-print_answers-end : goal.slice_bounds-print_answers-end
slice_bounds-print_answers-end g c =
    sym (length-take-le _ _ (omega (arith, (reads_most _ _ _ _ _ _ c.read.ensures _ c.in-Ok.is).0)))

pub slice_bounds-ids-end : goal.slice_bounds-ids-end
slice_bounds-ids-end g c = omega (arith, (reads_most _ _ _ _ _ _ c.read.ensures _ c.in-Ok.is).1)

pub slice_bounds-print_answers-end-in-Ok : goal.slice_bounds-print_answers-end-in-Ok
slice_bounds-print_answers-end-in-Ok g c =
    sym (length-take-le _ _ (omega (arith, (reads_most _ _ _ _ _ _ c.read.ensures _ c.in-Ok.is).1)))
