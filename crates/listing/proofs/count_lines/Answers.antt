-- `listing::count_lines` meets its contract: its lines, one behind the other. Assumes nothing.
use Rattle.spelling.specs.Text.{line}
use Rattle.spelling.proofs.Puts.{puts_both}
use Rattle.listing.specs.Listing.{count_lines}
use borrow.Author.Rules.{rules}
use Rattle.listing.proofs.count_lines.Goals as goal

pub returns : goal.returns
unfolding line count_lines
returns c =
    let behind = puts_both c.triangle_lines-b.ensures.0 c.count_line.ensures.0 (search rules) in
    (puts_both c.count_line-a.ensures.0 behind (search rules), search rules)
