-- `raster::clear` meets its contract: n zeroes, and the rest as it was. Assumes nothing.
use Rattle.std.proofs.Common.{◌≡◌, replicate}
use Rattle.std.proofs.lemmas.List.{length-take-le}
use Rattle.ids.specs.Lent.{cleared}
use Rattle.raster.proofs.clear.Goals as goal

pub returns : goal.returns
unfolding cleared
returns c =
    let zero : c.fill.new.self ≡ replicate c.args.n 0 =
    rw (← length-take-le c.args.n c.args.area.now c.requires) (c.fill.ensures.after (λ y e. e)) in
    rw zero
