-- The text of what was read, whichever format it was: its floats and ids stand first in the two areas.
use Rattle.std.specs.Prelude.{◌≡◌, ℕ, ◌*◌, false, List, take, Float, None, Result, Ok, Err}
use Rattle.std.specs.Float.{binary32}
use Rattle.std.specs.Float.Ieee.{of_bits}
use Rattle.ids.specs.declared.refusal.Refusal.{Refusal}
use Rattle.ids.specs.Refusal.{refusal_number}
use Rattle.meshfile.specs.declared.MeshFile.{MeshFile}
use Rattle.listing.specs.Listing.{refused_line}
use Rattle.program.specs.Program.{mesh_text}
use Rattle.program.specs.StlText.{stl_unit}

unfoldable pub read_text : List Float → List ℕ → Result (MeshFile Float) Refusal → List ℕ
read_text vs ids (Err refusal) = refused_line (refusal_number refusal)
read_text vs ids (Ok m) = mesh_text (take m.floats vs) (take m.ids ids) m.unit m.clip m.profile

-- what stands beside the floats and ids of n triangles of an STL: its unit, its counts, and no flags
pub record OfTriangles (n : ℕ) (m : MeshFile Float) : Type 0 where
  pub unit : m.unit ≡ of_bits binary32 stl_unit
  pub clip : m.clip ≡ false
  pub profile : m.profile ≡ None
  pub floats : m.floats ≡ 9 * n
  pub ids : m.ids ≡ 3 * n
