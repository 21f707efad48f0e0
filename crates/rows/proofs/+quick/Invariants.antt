-- The turns that are left grow fewer.
use Rattle.rows.proofs.+quick.Given as goal

abbrev pub decreases-quick : goal.decreases-quick
decreases-quick l = l.turns
