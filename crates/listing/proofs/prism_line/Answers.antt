-- `listing::prism_line` meets its contract: none, or a line of bits. Assumes nothing.
use Rattle.spelling.specs.Text.{hex, bits}
use Rattle.spelling.specs.inner.Steps.{filled_at, filled}
use Rattle.listing.proofs.Lines.{spells_puts, prism_none, prism_bits_lem}
use borrow.Author.Rules.{rules}
use Rattle.listing.proofs.prism_line.Goals as goal

pub fill-requires : goal.fill-requires
unfolding filled_at filled bits hex
fill-requires c = search rules

pub returns-in-None : goal.returns-in-None
returns-in-None c = rw c.in-None.is (spells_puts prism_none c.put.ensures)

pub returns-in-Some : goal.returns-in-Some
returns-in-Some c =
    rw c.in-Some.is (spells_puts (prism_bits_lem _) c.fill.ensures)
