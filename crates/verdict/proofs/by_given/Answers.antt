-- `verdict::by_given` meets its contract: the ids that are asked are the given ones, which were laid behind the weld's table. Assumes
-- nothing.
use Rattle.verdict.proofs.Parts.{laid_behind}
use Rattle.verdict.proofs.by_given.Goals as goal

pub returns : goal.returns
returns c =
    let a = c.args in
    laid_behind _ _ a.work.now c.lay.new.part a.near c.by_ids.result c.requires.words a.indices.now c.lay.ensures
    c.split_at_mut-parts.ensures.back c.by_ids.ensures
