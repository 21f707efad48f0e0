-- `cube::sizes_above` meets its contract. Assumes nothing.
use mathlib.Core.Path.{◌∙◌}
use Prim.Native.Nat.{◌*◌}
use native.Mathlib.Nat.{div-le_self, lt_of_le_of_lt, mul-one}
use native.Mathlib.Omega.{arith}
use Rattle.ieee.proofs.Numbers.CubeSizes.{power_at_cube, power_at_square}
use Rattle.ieee.proofs.Numbers.Basic.{square_below}
use Rattle.cube.proofs.sizes_above.Goals as goal

pub overflow_mul-square : goal.overflow_mul-square
overflow_mul-square c = omega (arith, square_below c.args.p.digits 24 c.args.p.few)

pub below_cube-requires : goal.below_cube-requires
below_cube-requires c = (c.args.s.few, square_below c.args.p.digits 24 c.args.p.few)

pub below_cube-requires-else-left-right : goal.below_cube-requires-else-left-right
below_cube-requires-else-left-right c =
    let less = div-le_self (c.args.p.digits * c.args.p.digits) _ in
    (c.args.s.few, rw c.shifted_down.ensures (lt_of_le_of_lt less (square_below c.args.p.digits 24 c.args.p.few)))

pub returns-then-left-right : goal.returns-then-left-right
returns-then-left-right c =
    c.below_cube.ensures
    ∙ power_at_square c.args.s.digits c.args.s.place c.args.p.digits c.args.p.place 149 _ (omega (arith, c.if-left-right.true))

pub returns-else-left-right : goal.returns-else-left-right
returns-else-left-right c =
    c.below_cube-else-left-right.ensures
    ∙ rw (mul-one c.shifted_down.result, c.shifted_down.ensures)
    (power_at_cube c.args.s.digits c.args.s.place c.args.p.digits c.args.p.place 149 _ (omega (arith, c.if-left-right.false)))
