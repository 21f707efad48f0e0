-- What the loop keeps: the digits so far are put, before those that are put already.
use Rattle.spelling.proofs.Digits.{Spelt}
use Rattle.spelling.proofs.put_number.Given as goal

abbrev pub invariant-loop-i : goal.invariant-loop-i
invariant-loop-i l = Spelt l.at l.initial.rest l.initial.out l.i l.rest l.out
