-- `cube::cube_above_bits` meets its contract. Assumes nothing.
use native.Mathlib.Omega.{arith}
use Rattle.ieee.proofs.Patterns.Cube.{both_finite, infinite_cube, no_cube, no_square}
use Rattle.cube.proofs.cube_above_bits.Goals as goal

pub returns-then-n-ge-LAST : goal.returns-then-n-ge-LAST
returns-then-n-ge-LAST c = no_square c.args.a c.args.b c.if-n-ge-LAST.true

pub returns-then-m-gt-LAST : goal.returns-then-m-gt-LAST
returns-then-m-gt-LAST c = no_cube c.args.a c.args.b c.ranges.a.fits c.if-m-gt-LAST.true

pub returns-then-m-eq-LAST : goal.returns-then-m-eq-LAST
returns-then-m-eq-LAST c = infinite_cube c.args.a c.args.b c.if-m-eq-LAST.true (omega arith)

pub returns-else-m-eq-LAST : goal.returns-else-m-eq-LAST
returns-else-m-eq-LAST c = cc (both_finite c.args.a c.args.b (omega arith) (omega arith))
