-- `listing::head_lines` meets its contract: its groups, one behind the other. Assumes nothing.
use Rattle.spelling.proofs.Puts.{puts_both}
use Rattle.listing.specs.Listing.{head_lines}
use borrow.Author.Rules.{rules}
use Rattle.listing.proofs.head_lines.Goals as goal

pub returns : goal.returns
unfolding head_lines
returns c = (
  puts_both c.trust_lines-a.ensures.0 (puts_both c.number_lines-b.ensures.0
      (puts_both c.prism_line-d.ensures.0 c.count_lines.ensures.0 (search rules)) (search rules)) (search rules),
  search rules,
)
