-- What the loop keeps: what is put, and what the rest of the form makes of the other numbers, are the whole.
use lib.ListN.{drop}
use Rattle.spelling.specs.inner.Steps.{filled}
use Rattle.spelling.proofs.Left.{Left}
use Rattle.spelling.proofs.fill.Given as goal

abbrev pub invariant-loop-i : goal.invariant-loop-i
invariant-loop-i l = Left l.at (filled l.form l.numbers) l.initial.out l.end (filled (drop l.i l.form) (drop l.used l.numbers)) l.out
