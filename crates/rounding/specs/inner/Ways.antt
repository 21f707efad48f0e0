-- The code's ways of making a size whole are those of the definition.
use Rattle.ieee.specs.Integral.{Way, cut, away, half}
use Rattle.rounding.specs.declared.whole.Way as code
use Rattle.rounding.specs.declared.whole.Way.TheVariants.{Cut, Away, Half}

abbrev pub way_of : code.Way → Way
way_of Cut = cut
way_of Away = away
way_of Half = half
