-- `listing::list_refusal` meets its contract: refused by the definition's test, else one line. Assumes nothing.
use Rattle.spelling.specs.Text.{line}
use Rattle.listing.specs.Listing.{refused_line}
use Rattle.listing.proofs.Outcomes.{refusal_short, refusal_put}
use borrow.Author.Rules.{rules}
use Rattle.listing.proofs.list_refusal.Goals as goal

pub returns-then-text-lt-HEAD : goal.returns-then-text-lt-HEAD
returns-then-text-lt-HEAD g c = refusal_short _ _ (search rules)

pub returns : goal.returns
unfolding refused_line line
returns g c = rw (← c.number-n.ensures) (refusal_put c.number-n.result c.args.text.now (search rules) _ _ c.count_line.ensures.0)
