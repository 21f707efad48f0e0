-- What the classifier's own steps say: of one list of ids, given or welded, and of the area that it is lent. No definition of document 01
-- is here.
use Rattle.std.specs.Prelude.{◌≡◌, ℕ, ◌*◌, ◌≤◌, Bool, cond, List, length, Option, Some, None, Float}
use Rattle.std.specs.Option.{unwrap_or}
use Rattle.ids.specs.EdgeChain.{boundary_free, over_incident}
use Rattle.ids.specs.Lent.{most_entries}
use Rattle.ids.specs.Triangles.{triangle_count}
use Rattle.vertices.specs.Areas.{work_words}
use Rattle.verdict.specs.declared.Quality.{Quality}
use Rattle.verdict.specs.declared.Quality.TheVariants.{OpenShell}
use Rattle.verdict.specs.Verdict.{by_faces}

-- what ids say: nothing if they are not boundary-free, else a quality
unfoldable pub chained : List ℕ → Bool → Option Quality
chained ids near = cond (boundary_free ids) (Some (by_faces ids near)) None

-- ids that are not boundary-free, the last ones asked, are an open shell's
abbrev pub open_unless_free : Option Quality → Quality
open_unless_free said = unwrap_or said OpenShell

-- ---- the lent area

-- no more floats and ids than the parts are made for, and just their words
pub record PartsFit (vs : List Float) (ids w : List ℕ) : Type 0 where
  pub floats_most : length vs ≤ most_entries
  pub ids_most : length ids ≤ most_entries
  pub words : length w ≡ work_words (length vs) (length ids)

-- the part has room for the faces of the ids, and `over` says whether their chain is over-incident
pub record FacesFit (ids part : List ℕ) (over : Bool) : Type 0 where
  pub few : length ids ≤ most_entries
  pub room : 4 * triangle_count ids ≤ length part
  pub told : over ≡ over_incident ids
