-- The digits that may still come in front grow fewer.
use Rattle.spelling.proofs.+put_decimal.Given as goal

abbrev pub decreases-put_decimal : goal.decreases-put_decimal
decreases-put_decimal l = l.more
