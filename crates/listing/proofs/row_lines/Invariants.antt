-- What the loop keeps: the lines that are put and those of the rows to come are all.
use Rattle.spelling.proofs.Left.{Left}
use Rattle.listing.proofs.Rows.{lines_from}
use Rattle.listing.proofs.row_lines.Given as goal

abbrev pub invariant-loop-i : goal.invariant-loop-i
invariant-loop-i l = Left l.at (lines_from l.surfaces 0) l.initial.out l.end (lines_from l.surfaces l.i) l.out
