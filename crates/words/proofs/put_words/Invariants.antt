-- What the loop keeps: the words put so far, then those still to come, are the payload's.
use Rattle.words.proofs.Words.{Put}
use Rattle.words.proofs.put_words.Given as goal

abbrev pub invariant-loop-i : goal.invariant-loop-i
invariant-loop-i g l = Put g.U.FromWord.of_word l.bytes l.i l.area
