-- What the loop keeps, and what grows less by each turn.
use Prim.Native.Nat.{◌-◌}
use Rattle.table.specs.inner.Rows.{dist}
use Rattle.table.proofs.Turn.{Looking}
use Rattle.faces.specs.inner.Rows.{face_at, face_of, face_uses}
use Rattle.faces.proofs.find.Given as goal

abbrev pub invariant-search : goal.invariant-search
invariant-search l =
    Looking l.n l.start (face_at l.ids l.work) (face_uses l.work) (face_of l.face) l.r

abbrev pub decreases-search : goal.decreases-search
decreases-search l = l.n - dist l.n l.start l.r
