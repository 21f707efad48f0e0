-- What the loop keeps: the bytes put so far, then those still to come, are those of all words.
use mathlib.Core.Path.{◌≡◌}
use lib.ListN.{length}
use Rattle.words.proofs.BytesPut.{PutAsBytes}
use Rattle.words.proofs.put_bytes.Given as goal

abbrev pub invariant-loop-i : goal.invariant-loop-i
invariant-loop-i l = PutAsBytes l.words l.i l.area
