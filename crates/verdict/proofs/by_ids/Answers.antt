-- `verdict::by_ids` meets its contract, by whether the ids are boundary-free. Assumes nothing.
use mathlib.Core.Path.{sym, ap, ◌∙◌}
use borrow.Author.Tests.{not-true, not-false}
use Rattle.std.specs.Prelude.{Some}
use Rattle.verdict.proofs.Meaning.{free, bounded}
use Rattle.verdict.proofs.by_ids.Goals as goal

pub returns-then-not-edges : goal.returns-then-not-edges
returns-then-not-edges c =
    sym (bounded c.args.ids.now c.args.near (sym c.chain_of-edges.ensures.0 ∙ not-true _ c.if-not-edges.true))

pub returns : goal.returns
returns c =
    ap Some c.by_faces.ensures
    ∙ sym (free c.args.ids.now c.args.near (sym c.chain_of-edges.ensures.0 ∙ not-false _ c.if-not-edges.false))
