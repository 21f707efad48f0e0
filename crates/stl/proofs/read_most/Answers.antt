-- `stl::read_most` meets its contract: by the triangles found, and by the areas' lengths. Assumes nothing.
use mathlib.Core.Path.{sym}
use native.Mathlib.Omega.{arith}
use Rattle.ids.proofs.PassedOn.{passed_on}
use Rattle.stl.proofs.Given.{refused, is_stl, short, given, room}
use Rattle.stl.proofs.read_most.Goals as goal

pub returns-in_err-n : goal.returns-in_err-n
returns-in_err-n c = rw (passed_on _ _ c.from_residual.ensures) (refused _ _ _ _ _ (sym c.in_err-n.ensures))

pub overflow_mul-n : goal.overflow_mul-n
overflow_mul-n c = omega (arith, (is_stl _ _ c.args.vertices.now c.args.ids.now _ (sym c.in_ok-n.ensures)).few, c.requires)

pub overflow_mul-n-2 : goal.overflow_mul-n-2
overflow_mul-n-2 c = omega (arith, (is_stl _ _ c.args.vertices.now c.args.ids.now _ (sym c.in_ok-n.ensures)).few, c.requires)

pub returns-then-vertices-n : goal.returns-then-vertices-n
returns-then-vertices-n c = short _ _ _ _ _ (sym c.in_ok-n.ensures) c.if-vertices-n.true

pub fill-requires : goal.fill-requires
fill-requires c = room _ _ c.args.vertices.now c.args.ids.now _ (sym c.in_ok-n.ensures) c.if-vertices-n.false c.requires

pub returns : goal.returns
returns c = given _ _ _ _ _ (sym c.in_ok-n.ensures) c.if-vertices-n.false _ _ c.fill.ensures
