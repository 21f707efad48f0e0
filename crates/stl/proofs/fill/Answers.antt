-- `stl::fill` meets its contract: each area gets its own, in front. Assumes nothing.
use mathlib.Core.Path.{sym}
use native.Mathlib.Omega.{arith}
use lib.Seq.{length-take-le}
use Rattle.stl.proofs.Given.{filled}
use Rattle.stl.proofs.fill.Goals as goal

pub slice_bounds-put_corners-end-2 : goal.slice_bounds-put_corners-end-2
slice_bounds-put_corners-end-2 c = sym (length-take-le _ _ c.requires.floats_room)

pub put_corners-requires : goal.put_corners-requires
put_corners-requires c = (c.requires.inside, length-take-le _ _ c.requires.floats_room)

pub slice_bounds-put_ids-end-2 : goal.slice_bounds-put_ids-end-2
slice_bounds-put_ids-end-2 c = sym (length-take-le _ _ c.requires.ids_room)

pub put_ids-requires : goal.put_ids-requires
put_ids-requires c =
    let given = c.requires in
    rw (length-take-le _ _ given.ids_room) (omega arith, given.ids_fit)

pub returns : goal.returns
returns c =
    filled _ _ _ _ c.requires.ids_room _ _ c.put_corners.ensures c.put_ids.ensures
