-- `rows::sort` meets its contract. All passes keep the rows, counted, and the last leaves them rising: of plain rows of binary32 there is
-- one such list. Assumes nothing.
use Rattle.std.proofs.Common.{◌≡◌, ◌*◌, ◌∙◌, sym, ap, arith, length}
use Rattle.rows.specs.Rows.{flatten, rows_of}
use Rattle.rows.proofs.Flat.{flat_rows, rows_single}
use Rattle.rows.proofs.Counts.{same_then}
use Rattle.rows.proofs.Order.{rising_sorted}
use Rattle.rows.proofs.sort.Goals as goal

pub returns : goal.returns
returns c =
    let t = c.args.rows.now in
    let u = c.insertion.new.rows in
    let pass = c.insertion.ensures in
    let same = same_then c.presort.ensures pass.same in
    let single = rows_single t c.slice_known-1.given in
    let long : length u ≡ 4 * length (rows_of t) = omega (arith, c.presort.auto, c.insertion.auto, c.requires.0) in
    sym (flat_rows u (length (rows_of t)) long)
    ∙ ap flatten (rising_sorted (rows_of t) (rows_of u) c.requires.1 single same (λ k h. pass.rising k (omega (arith, pass.same.long))))
