-- `verdict::by_welded` meets its contract: the ids asked are the welded ones, which the weld wrote behind its table. Assumes nothing.
use mathlib.Core.Path.{ap, ◌∙◌}
use Prim.Native.Nat.{◌*◌}
use lib.ListN.{replicate, length-replicate}
use Rattle.vertices.specs.Vertices.{vertex_count}
use Rattle.verdict.specs.inner.Steps.{open_unless_free}
use Rattle.verdict.proofs.Parts.{asked_behind}
use Rattle.verdict.proofs.by_welded.Goals as goal

pub returns : goal.returns
returns c =
    let a = c.args in
    let m = 8 * vertex_count a.vertices.now in
    c.unwrap_or.ensures
    ∙ ap open_unless_free (asked_behind _ _ a.work.now c.welded_indices.new.part a.near c.by_ids.result c.requires.words (replicate m 0) _
    (length-replicate m 0) c.welded_indices.ensures c.split_at_mut-parts.ensures.back c.by_ids.ensures)
