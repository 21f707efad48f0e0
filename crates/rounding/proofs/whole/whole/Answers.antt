-- `rounding::whole::whole` meets its contract. Assumes nothing.
use Rattle.std.proofs.Common.{◌∙◌, arith}
use denote.Floats.{passes}
use Rattle.rounding.specs.inner.Ways.{way_of}
use Rattle.ieee.proofs.Patterns.Back.{read_word}
use Rattle.ieee.proofs.Patterns.Integral.{below_zero, from_zero_up, holds, whole_already}
use Rattle.rounding.proofs.whole.whole.Goals as goal

pub of_whole-n-requires : goal.of_whole-n-requires
of_whole-n-requires g c =
    holds g.F.Binary.format (way_of c.args.above) (way_of c.args.below) _ _ (read_word _ _ _ c.to_word-b.ensures) _ (omega (arith, g.met.F.Binary.whole_law)) c.whole_size.ensures

pub returns-then-exponent-WHOLE : goal.returns-then-exponent-WHOLE
returns-then-exponent-WHOLE g c =
    whole_already g.F.Binary.format _ _ _ _ (read_word _ _ _ c.to_word-b.ensures) (passes _ c.to_word-b.ensures.1) (omega (arith, g.met.F.Binary.whole_law))

pub returns-then-b-SIGN : goal.returns-then-b-SIGN
returns-then-b-SIGN g c =
    c.of_whole-n.ensures
    ∙ from_zero_up g.F.Binary.format _ _ _ _ (read_word _ _ _ c.to_word-b.ensures) (omega (arith, g.met.F.Binary.sign_law)) (omega (arith, g.met.F.Binary.whole_law)) c.whole_size.ensures

pub returns-else-b-SIGN : goal.returns-else-b-SIGN
returns-else-b-SIGN g c =
    rw (c.opposite.ensures, c.of_whole-n.ensures)
    (below_zero g.F.Binary.format _ _ _ _ (read_word _ _ _ c.to_word-b.ensures) (omega (arith, g.met.F.Binary.sign_law)) (omega (arith, g.met.F.Binary.whole_law)) c.whole_size.ensures)
