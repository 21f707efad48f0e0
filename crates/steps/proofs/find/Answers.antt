-- `steps::find` meets its contract, by the law of a turn: each row passed is used by another edge. As some row is free, the search ends
-- before it has gone round. Assumes nothing.
use mathlib.Core.Path.{sym, ◌∙◌}
use native.Mathlib.Omega.{arith}
use Rattle.ids.specs.EdgeChain.{Edge, same_edge}
use Rattle.ids.proofs.Same.{edge_eq, edge_refl, same_ne}
use Rattle.table.proofs.Counts.{used}
use Rattle.table.proofs.Turn.{Onward, look_first, turn_ends, turn_on}
use Rattle.steps.specs.inner.Rows.{edge_at, edge_uses}
use Rattle.steps.proofs.find.Goals as goal
use Rattle.steps.proofs.find.Lts as lts
use Rattle.steps.proofs.find.Tie.{the-claims}
use Rattle.steps.proofs.find.Reads.{Pre, Post}

pub search-init : goal.search-init
search-init c = look_first c.requires.starts

-- the row is used by another edge
module _ (c : lts.Else2 the-claims Pre Post goal.the-invariant-search goal.the-decreases-search) where
  abbrev edge : Edge
  edge = c.args.edge

  on : Onward c.args.n c.args.start (edge_at c.args.work.now) (edge_uses c.args.work.now) edge c.search.r
  unfolding same_edge
  on = turn_on c.search.invariant (used _ (omega arith)) (same_ne same_edge edge_refl _ edge (sym c.eq.ensures ∙ c.if-eq.false)) c.requires.free

-- That the next row is a row stands before that the search comes to an end: a search that does not wrap still seems to end.
pub search-preserved : goal.search-preserved
search-preserved c = rw c.next-r.ensures (on c.before.before).next

pub search-smaller : goal.search-smaller
search-smaller c = rw c.next-r.ensures (on c.before.before).less

pub returns-then-eq : goal.returns-then-eq
unfolding same_edge
returns-then-eq c = turn_ends c.search.invariant (λ u. edge_eq _ _ (sym c.eq.ensures ∙ c.if-eq.true))
