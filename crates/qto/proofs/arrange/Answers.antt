-- `qto::arrange` meets its contract: rows scaled and then sorted. Assumes nothing.
use Rattle.std.proofs.Common.{◌∙◌}
use Rattle.rows.proofs.Fours.{whole_of}
use Rattle.qto.proofs.Arranged.{scaled_plain, arranged}
use Rattle.qto.proofs.arrange.Goals as goal

pub scale-requires : goal.scale-requires
scale-requires c = c.requires.whole

pub sort-requires : goal.sort-requires
sort-requires c =
    let k = c.scale in
    (whole_of k.new.rows _ (k.auto.rows ∙ c.requires.whole), scaled_plain c.args.by c.args.rows.now _ k.new.rows k.ensures c.requires.plain)

pub largest-largest-requires : goal.largest-largest-requires
largest-largest-requires c = whole_of c.sort.new.rows _ (c.sort.auto.rows ∙ c.scale.auto.rows ∙ c.requires.whole)

pub returns : goal.returns
returns c =
    let a = c.args in
    let k = c.scale in
    arranged a.by a.rows.now k.new.rows c.sort.new.rows k.ensures
    (record { largest = c.largest-largest.result; smallest = c.smallest-smallest.result }) c.sort.ensures
    c.largest-largest.ensures c.smallest-smallest.ensures
