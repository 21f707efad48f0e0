-- `stl::put_corners` meets its contract: the corners of the triangles so far stand in front of the area. Assumes nothing.
use mathlib.Core.Path.{◌≡◌}
use native.Mathlib.Omega.{arith}
use lib.ListN.{length-take, length-drop}
use Rattle.words.specs.Words.{floats_of}
use Rattle.stl.proofs.Corners.{stand_none, stand_next, stand_all}
use Rattle.stl.proofs.put_corners.Goals as goal

pub loop-t-init : goal.loop-t-init
loop-t-init c = stand_none _ _

pub put_words-requires : goal.put_words-requires
put_words-requires c = simp (length-take, length-drop) (omega (arith, c.corners_at-at.ensures))

pub loop-t-preserved : goal.loop-t-preserved
unfolding floats_of
loop-t-preserved c =
    let l = c.loop-t in
    stand_next _ l.t c.corners_at-at.result l.area _ (omega arith) (omega (arith, c.put_words.auto))
    c.put_words.ensures l.invariant c.corners_at-at.ensures

pub returns : goal.returns
returns c =
    let l = c.loop-t in
    let done : l.t ≡ c.args.n = omega arith in
    rw (← done) (stand_all _ l.t l.area (omega arith) l.invariant)
