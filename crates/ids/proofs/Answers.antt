-- What every answer means, in one statement. Assumes nothing.
use mathlib.Core.List.{List}
use Prim.Native.Nat.{ℕ}
use Rattle.ids.specs.Meaning.{AnswersMean}
use Rattle.ids.proofs.Meaning.{boundary_free_tells, over_incident_tells, closed_manifold_tells, all_cancel_tells, max_abs_is_largest}
use Rattle.ids.proofs.Winding.{winding_coherent_tells}

pub answers_mean : (ids : List ℕ) → AnswersMean ids
answers_mean ids = record {
  boundary_free_lem = boundary_free_tells ids;
  over_incident_lem = over_incident_tells ids;
  closed_manifold_lem = closed_manifold_tells ids;
  winding_coherent_lem = winding_coherent_tells ids;
  all_cancel_lem = all_cancel_tells ids;
  max_abs_lem = max_abs_is_largest ids;
}
