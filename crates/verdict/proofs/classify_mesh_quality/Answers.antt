-- `verdict::classify_mesh_quality` meets its contract: the answer is `judge`'s, and the whole area is cleared. Assumes nothing.
use mathlib.Core.Path.{◌≡◌, refl, ◌∙◌}
use Prim.Native.Nat.{◌+◌, ◌*◌}
use native.Mathlib.Omega.{arith}
use lib.ListN.{length}
use Rattle.ids.specs.Triangles.{triangle_count}
use Rattle.vertices.specs.Vertices.{vertex_count}
use Rattle.ids.proofs.Lent.{cleared_all}
use Rattle.verdict.proofs.classify_mesh_quality.Goals as goal

pub returns : goal.returns
returns c =
    let w = c.judge-q.new.work in
    let vs = c.args.vertices.now in
    let ids = c.args.indices.now in
    let long : length w ≡ 5 * length ids + 4 * triangle_count ids + 8 * vertex_count vs = omega (arith, c.requires.words, c.judge-q.auto) in
    (c.judge-q.ensures, rw (← long) (c.clear.ensures ∙ cleared_all (length w) w refl))
