-- `listing::number_lines` meets its contract: the form with its numbers is the lines. Assumes nothing.
use Rattle.spelling.specs.Text.{hex, bits}
use Rattle.spelling.specs.inner.Steps.{filled_at, filled}
use Rattle.listing.proofs.Lines.{spells_puts, number_lines_lem}
use borrow.Author.Rules.{rules}
use Rattle.listing.proofs.number_lines.Goals as goal

pub fill-requires : goal.fill-requires
unfolding filled_at filled bits hex
fill-requires c = search rules

pub returns : goal.returns
returns c = spells_puts (number_lines_lem _) c.fill.ensures
