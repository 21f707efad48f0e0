-- `listing::list` meets its contract: refused by the definition's test, else the rows behind the head. Assumes nothing.
use mathlib.Core.Path.{sym}
use native.Mathlib.Omega.{arith}
use lib.Seq.{length-take-le}
use Rattle.listing.specs.Listing.{listing_of}
use Rattle.listing.specs.Lists.{listing_for}
use Rattle.listing.proofs.Outcomes.{list_short, list_put}
use Rattle.spelling.proofs.Puts.{puts_both}
use borrow.Author.Rules.{rules}
use Rattle.listing.proofs.list.Goals as goal

pub returns-then-areas_short : goal.returns-then-areas_short
returns-then-areas_short c =
    let a = c.args in
    list_short a.q a.surfaces.now a.pieces a.text.now _ c.areas_short.ensures.is c.if-areas_short.true

pub head_lines-head-requires : goal.head_lines-head-requires
head_lines-head-requires c = omega (arith, (c.areas_short.ensures.room c.if-areas_short.false).1)

pub slice_bounds-row_lines-end : goal.slice_bounds-row_lines-end
slice_bounds-row_lines-end c =
    sym (length-take-le _ _ (c.areas_short.ensures.room c.if-areas_short.false).0)

pub row_lines-end-requires : goal.row_lines-end-requires
row_lines-end-requires c =
    let room = c.areas_short.ensures.room c.if-areas_short.false in
    (length-take-le _ _ room.0, omega (arith, room.1, c.head_lines-head.ensures.1, c.head_lines-head.auto.out))

pub returns : goal.returns
unfolding listing_for listing_of
returns c =
    let a = c.args in
    list_put a.q a.surfaces.now a.pieces a.text.now _ c.areas_short.ensures.is c.if-areas_short.false _ _
    (puts_both c.head_lines-head.ensures.0 c.row_lines-end.ensures (search rules))
