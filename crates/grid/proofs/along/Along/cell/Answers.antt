-- `grid::Along::cell` meets its contract: the cases are those of the floor, brought into the row. Assumes nothing.
use mathlib.Core.Path.{◌∙◌}
use Prim.Native.Nat.{◌-◌}
use native.Mathlib.Omega.{arith}
use lib.Dec.{T}
use lib.Ieee.{Float, binary32, fits, of_bits}
use lib.Ieee.Fits.{div-fits}
use Rattle.ieee.specs.Single.{◌⊖◌, ◌⊘◌}
use Rattle.grid.specs.declared.along.Along.{Along}
use Rattle.grid.specs.Grid.{cell_along}
use Rattle.grid.proofs.Floors.{before_second, between, from_last, in_range, of_nan}
use Rattle.grid.proofs.along.Along.cell.Goals as goal

abbrev q : Along → Float → Float
q row p = (p ⊖ row.x) ⊘ row.w

q_fits : (row : Along) (p : Float) → T (fits binary32 (q row p))
q_fits row p = div-fits binary32 (p ⊖ row.x) row.w

pub whole_part32-requires : goal.whole_part32-requires
unfolding of_bits
whole_part32-requires c =
    let row = c.args.self in
    let both = in_range (row.n - 1) (q row c.args.p) (omega (arith, c.requires.few)) c.if-q.true c.if-q-self.true in
    record { low = both.0; high = both.1 }

pub returns-then-q : goal.returns-then-q
unfolding cell_along
returns-then-q c =
    let row = c.args.self in
    let k = between (row.n - 1) (q row c.args.p) (omega (arith, c.requires.few)) (q_fits row c.args.p) c.if-q-self.true in
    (c.whole_part32.ensures ∙ k.0, omega (arith, k.1, c.requires.some))

pub returns-else-q : goal.returns-else-q
unfolding cell_along of_bits
returns-else-q c =
    let row = c.args.self in
    (before_second (row.n - 1) (q row c.args.p) (omega (arith, c.requires.few)) (q_fits row c.args.p) c.if-q-self.true c.if-q.false, c.requires.some)

pub returns-then-q-2 : goal.returns-then-q-2
unfolding cell_along
returns-then-q-2 c =
    let row = c.args.self in
    (of_nan (row.n - 1) (q row c.args.p) (omega (arith, c.requires.few)) (q_fits row c.args.p) c.if-q-2.true, c.requires.some)

pub returns-else-q-2 : goal.returns-else-q-2
unfolding cell_along
returns-else-q-2 c =
    let row = c.args.self in
    (from_last (row.n - 1) (q row c.args.p) (omega (arith, c.requires.few)) (q_fits row c.args.p) c.if-q-self.false c.if-q-2.false, omega (arith, c.requires.some))
