-- `listing::trust_lines` meets its contract: of each case its line, one behind the other. Assumes nothing.
use native.Mathlib.Omega.{arith}
use Rattle.spelling.proofs.Puts.{puts_both}
use Rattle.listing.specs.Listing.{trust_lines}
use borrow.Author.Rules.{rules}
use Rattle.listing.proofs.trust_lines.Goals as goal

pub returns : goal.returns
unfolding trust_lines
returns c =
    let a = rw c.quality_line.ensures.0 at c.put-a.ensures in
    let b = rw c.reliable_line.ensures.0 at c.put-b.ensures in
    let d = rw c.method_line.ensures.0 at c.put-d.ensures in
    let e = rw c.profile_line.ensures.0 at c.put.ensures in
    (puts_both a (puts_both b (puts_both d e (search rules)) (search rules)) (search rules), search rules)
