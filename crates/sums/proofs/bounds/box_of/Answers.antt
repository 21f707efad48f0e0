-- `sums::bounds::box_of` meets its contract. The loop's invariant: the bounds are those of the first v vertices. Assumes nothing.
use Rattle.std.proofs.Common.{◌≡◌, ◌/◌, length, add-one, arith}
use Rattle.sums.proofs.bounds.box_of.Goals as goal

pub loop-v-preserved : goal.loop-v-preserved
loop-v-preserved c = rw (add-one c.loop-v.v) c.with_vertex-b.ensures

pub returns : goal.returns
returns c =
    let vs = c.args.vertices.now in
    let e : c.loop-v.v ≡ length vs / 3 = omega arith in
    rw (← e) c.loop-v.invariant
