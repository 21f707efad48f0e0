-- `meshfile::ids_from` meets its contract: by what stands in front; the part behind it is lent whole. Assumes nothing.
use mathlib.Core.Path.{sym}
use native.Mathlib.Omega.{arith}
use Rattle.ids.proofs.PassedOn.{passed_on}
use Rattle.meshfile.specs.inner.Steps.{parts_by, ids_from}
use Rattle.meshfile.proofs.Fronts.{room_of, rest_is}
use Rattle.meshfile.proofs.ids_from.Goals as goal

pub overflow_add-n : goal.overflow_add-n
overflow_add-n c = omega (arith, room_of _ _ (sym c.in_ok-n.ensures))

pub slice_bounds-ending_of-count : goal.slice_bounds-ending_of-count
slice_bounds-ending_of-count c = room_of _ _ (sym c.in_ok-n.ensures)

pub slice_bounds-ending_of-start : goal.slice_bounds-ending_of-start
slice_bounds-ending_of-start c = room_of _ _ (sym c.in_ok-n.ensures)

pub returns-in_err-n : goal.returns-in_err-n
unfolding ids_from
returns-in_err-n c = rw (passed_on _ _ c.from_residual.ensures, ← c.in_err-n.ensures)

pub returns-in_err-flags : goal.returns-in_err-flags
unfolding ids_from parts_by
returns-in_err-flags c =
    let end = rw (rest_is _ _) at c.in_err-flags.ensures in
    rw (passed_on _ _ c.from_residual-in_err-flags.ensures, ← c.in_ok-n.ensures, ← end)

pub returns : goal.returns
unfolding ids_from parts_by
returns c =
    let end = rw (rest_is _ _) at c.in_ok-flags.ensures in
    rw (← c.in_ok-n.ensures, ← end)
