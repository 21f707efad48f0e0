-- `meshfile::length_fits` meets its contract: case by case its tests are the definition's. Assumes nothing.
use mathlib.Core.Logic.{⊎_elim}
use Rattle.meshfile.specs.Format.{length_fits}
use Rattle.meshfile.proofs.length_fits.Goals as goal

pub returns-in-Unit : goal.returns-in-Unit
unfolding length_fits
returns-in-Unit c = rw c.in-Unit.is

pub returns-in-Vertices : goal.returns-in-Vertices
unfolding length_fits
returns-in-Vertices c = ⊎_elim (λ e. rw e) (λ e. rw e) c.in-Vertices.is

pub returns-in-Flags : goal.returns-in-Flags
unfolding length_fits
returns-in-Flags c = rw c.in-Flags.is
