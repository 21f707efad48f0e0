-- `replay::print_back` is safe: a file that was read has no more floats and ids than the areas. Assumes nothing.
use Rattle.std.proofs.Common.{arith, sym}
use lib.Seq.{length-take-le}
use Rattle.meshfile.proofs.Most.{reads_most_bits}
use Rattle.replay.proofs.print_back.Goals as goal

pub slice_bounds-vertices-end : goal.slice_bounds-vertices-end
slice_bounds-vertices-end g c = omega (arith, (reads_most_bits _ _ _ _ _ _ c.read_bits.ensures _ c.in-Ok.is).0)

pub slice_bounds-print_written-end : goal.slice_bounds-print_written-end
slice_bounds-print_written-end g c =
    sym (length-take-le _ _ (omega (arith, (reads_most_bits _ _ _ _ _ _ c.read_bits.ensures _ c.in-Ok.is).0)))

pub slice_bounds-ids-end : goal.slice_bounds-ids-end
slice_bounds-ids-end g c = omega (arith, (reads_most_bits _ _ _ _ _ _ c.read_bits.ensures _ c.in-Ok.is).1)

pub slice_bounds-print_written-end-in-Ok : goal.slice_bounds-print_written-end-in-Ok
slice_bounds-print_written-end-in-Ok g c =
    sym (length-take-le _ _ (omega (arith, (reads_most_bits _ _ _ _ _ _ c.read_bits.ensures _ c.in-Ok.is).1)))
