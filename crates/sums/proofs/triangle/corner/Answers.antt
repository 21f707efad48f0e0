-- `sums::triangle::corner` meets its contract. Widening keeps each coordinate, since none is a NaN. Assumes nothing.
use Rattle.std.proofs.Common.{ℕ, ◌+◌, ◌*◌, ◌<◌, not, T, get_or, arith, rules}
use lib.Ieee.{is_nan, nan}
use Rattle.sums.specs.Facet.{rebased}
use Rattle.sums.proofs.Boxes.{first_axis}
use Rattle.sums.proofs.FineBoxes.{number_at}
use borrow.Author.Rules.{rules}
use Rattle.sums.proofs.triangle.corner.Goals as goal
use Rattle.sums.proofs.triangle.corner.Lts as lts
use Rattle.sums.proofs.triangle.corner.Reads.{Pre, Post}

-- no coordinate of the vertex is a NaN
module _ (s : lts.Start Pre Post) where
  number : (i : ℕ) → i < 3 * s.args.v + 3 → T (not (is_nan (get_or s.args.vertices.now i nan)))
  number i h = number_at s.args.vertices.now i s.requires.1 (omega (arith, s.requires.0))

pub float_to_float-x : goal.float_to_float-x
float_to_float-x c =
    let x = number c.before.before.before (3 * c.args.v) (omega arith) in
    search (rules, x)

pub float_to_float-y : goal.float_to_float-y
float_to_float-y c =
    let y = number c.before.before.before.before.before (3 * c.args.v + 1) (omega arith) in
    search (rules, y)

pub float_to_float-z : goal.float_to_float-z
float_to_float-z c =
    let z = number c.before.before.before.before.before.before.before (3 * c.args.v + 2) (omega arith) in
    search (rules, z)

pub returns : goal.returns
unfolding rebased
returns c = rw (first_axis c.args.v)
