-- `faces::net` meets its contract. The invariant: the largest and the sum over the rows so far. Assumes nothing.
use mathlib.Core.Path.{◌≡◌, refl, sym, ◌∙◌}
use native.Mathlib.Omega.{arith}
use lib.Dec.{ltb}
use mir.Val.{bool_byte}
use Rattle.table.specs.inner.Rows.{sum_to}
use Rattle.table.specs.inner.Table.{max_to}
use Rattle.table.proofs.Sums.{sum_to_next}
use Rattle.table.proofs.Largest.{max_to_next}
use Rattle.faces.specs.inner.Rows.{row_off, row_size}
use Rattle.ids.proofs.Bits.{byte_bit, byte_small}
use Rattle.faces.proofs.RowSums.{row_size_lem, row_off_lem}
use Rattle.faces.proofs.net.Goals as goal

pub loop-i-init : goal.loop-i-init
unfolding sum_to max_to
loop-i-init c = (refl, refl, omega arith)

pub loop-i-preserved : goal.loop-i-preserved
loop-i-preserved c =
    let l = c.loop-i in
    let t = c.args.work.now in
    let u = c.from.ensures in
    let s : c.size-size.result ≡ row_size t l.i = (rw (u.1, u.0) at c.size-size.ensures) ∙ sym (row_size_lem t l.i) in
    let o : bool_byte (ltb 0 c.size-size.result) ≡ row_off t l.i =
    rw s (byte_bit (ltb 0 (row_size t l.i)) ∙ sym (row_off_lem t l.i)) in (
      omega (arith, c.max.ensures, s, max_to_next (row_size t) l.i),
      omega (arith, o, sum_to_next (row_off t) l.i),
      omega (arith, byte_small (ltb 0 c.size-size.result)),
    )
