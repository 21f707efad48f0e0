-- `meshfile::vertices_from` meets its contract: by what stands in front; the part behind it is lent whole. Assumes nothing.
use mathlib.Core.Path.{sym}
use native.Mathlib.Omega.{arith}
use Rattle.ids.proofs.PassedOn.{passed_on}
use Rattle.meshfile.specs.inner.Steps.{vertices_from}
use Rattle.meshfile.proofs.Fronts.{room_of, rest_is}
use Rattle.meshfile.proofs.vertices_from.Goals as goal

pub overflow_add-n : goal.overflow_add-n
overflow_add-n c = omega (arith, room_of _ _ (sym c.in_ok-n.ensures))

pub slice_bounds-ids_from-count : goal.slice_bounds-ids_from-count
slice_bounds-ids_from-count c = room_of _ _ (sym c.in_ok-n.ensures)

pub slice_bounds-ids_from-start : goal.slice_bounds-ids_from-start
slice_bounds-ids_from-start c = room_of _ _ (sym c.in_ok-n.ensures)

pub returns-in_err-n : goal.returns-in_err-n
unfolding vertices_from
returns-in_err-n c = rw (passed_on _ _ c.from_residual.ensures, ← c.in_err-n.ensures)

pub returns : goal.returns
unfolding vertices_from
returns c = rw (← c.in_ok-n.ensures) (rw (rest_is _ _) at c.ids_from.ensures)
