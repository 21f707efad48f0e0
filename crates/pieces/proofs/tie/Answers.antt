-- `pieces::tie` meets its contract: linked triangles are joined, others are not linked. Assumes nothing.
use mathlib.Core.Path.{◌≡◌, sym, ap, ◌∙◌, subst}
use mathlib.Core.Bool.{true, false, true≢false}
use native.Mathlib.Omega.{arith}
use lib.ListN.{length}
use Rattle.ids.specs.Pieces.{solid}
use Rattle.ids.proofs.Same.{both}
use Rattle.forest.specs.inner.Labels.{merged}
use Rattle.forest.proofs.Labels.{merged_joins}
use Rattle.sides.specs.inner.Joins.{Linked}
use Rattle.sides.proofs.Joins.{more_joined, more_none}
use Rattle.pieces.proofs.tie.Goals as goal

pub returns-then-solid-share_edge : goal.returns-then-solid-share_edge
unfolding solid
returns-then-solid-share_edge c =
    let told = both _ c.share_edge.result c.if-solid-share_edge.true in
    let solids = both _ c.distinct_at-2.result told.0 in
    more_joined c.join.auto.work
    (record {
      within = (c.requires.1, c.requires.2);
      solids = (sym c.distinct_at.ensures ∙ solids.0, sym c.distinct_at-2.ensures ∙ solids.1);
      share = sym c.share_edge.ensures ∙ told.1;
    })
    c.join.ensures
    (λ f j la lb k. let one : c.args.t ≡ j = omega arith in
    merged_joins f c.args.s c.args.t ∙ ap (merged f c.args.s c.args.t) one)

pub returns-else-solid-share_edge : goal.returns-else-solid-share_edge
unfolding solid
returns-else-solid-share_edge c =
    let not-linked : Linked c.args.ids.now (length c.args.work.now) c.args.s c.args.t → ⊥ =
    λ k. let first = c.distinct_at.ensures ∙ k.solids.0 in
    let second = c.distinct_at-2.ensures ∙ k.solids.1 in
    let third = c.share_edge.ensures ∙ k.share in
    let no : true ≡ false = rw (first, second, third) at c.if-solid-share_edge.false in
    true≢false no in
    λ f g. more_none g (λ j la lb k. let one : j ≡ c.args.t = omega arith in
    absurd (not-linked (subst (Linked c.args.ids.now (length c.args.work.now) c.args.s) one k)))
