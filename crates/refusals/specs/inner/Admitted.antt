-- What the table of refusals leaves of a mesh and of the lengths of its areas where it lets them pass.
use Rattle.std.specs.Prelude.{ℕ, ◌≤◌, List, length, Float}
use Rattle.vertices.specs.Areas.{work_words, surface_floats, raster_bytes}
use Rattle.refusals.specs.Refusals.{Passes}

pub record Admitted (vs : List Float) (ids : List ℕ) (u : Float) (e w r s : ℕ) : Type 0 where
  pub mesh : Passes vs ids u e
  pub work : work_words (length vs) (length ids) ≤ w
  pub raster : raster_bytes ≤ r
  pub surfaces : surface_floats (length ids) ≤ s
