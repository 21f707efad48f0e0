-- `rows::scale` meets its contract. The first j rows are scaled. Assumes nothing.
use Rattle.std.proofs.Common.{◌∙◌, ap, sym, refl, arith, length, length-set}
use Rattle.rows.specs.Rows.{flatten, rows_of}
use Rattle.rows.proofs.Areas.{scaled_none, scaled_next, scaled_all}
use Rattle.rows.proofs.Flat.{row_inside, flat_rows}
use Rattle.rows.proofs.Fours.{scaled_at, rows_quarter}
use Rattle.rows.proofs.scale.Goals as goal

pub loop-j-init : goal.loop-j-init
loop-j-init c = (refl, scaled_none c.args.by (rows_of c.args.rows.now))

pub loop-j-preserved : goal.loop-j-preserved
loop-j-preserved c =
    let a = c.args in
    let l = c.loop-j in (
      simp length-set (omega arith),
      scaled_next a.by l.j (rows_of a.rows.now) (rows_of l.rows) _ (row_inside a.rows.now l.j (omega arith)) l.invariant.1
          (scaled_at a.by l.rows l.j (omega arith)),
    )

pub returns : goal.returns
returns c =
    let a = c.args in
    let l = c.loop-j in
    let n = length (rows_of a.rows.now) in
    sym (flat_rows l.rows n (omega (arith, c.requires)))
    ∙ ap flatten (l.invariant.1 ∙ scaled_all a.by l.j (rows_of a.rows.now) (omega (arith, rows_quarter a.rows.now)))
