-- Verdict (01; 000, `classify_mesh_quality`): closed, open shell or degenerate, by the volume, the box, and the ids, given or welded.
use Rattle.std.specs.Prelude.{ℕ, Bool, cond, ◌&&◌, ◌||◌, List, leb, Float}
use Rattle.std.specs.Float.{binary32}
use Rattle.std.specs.Float.Ieee.{lt, le, of_bits}
use Rattle.ieee.specs.Magnitude.{magnitude}
use Rattle.ieee.specs.Single.{◌⊗◌, nought}
use Rattle.ids.specs.EdgeChain.{boundary_free, over_incident}
use Rattle.ids.specs.FaceNet.{max_abs, all_cancel}
use Rattle.weld.specs.Weld.{welded}
use Rattle.verdict.specs.declared.Quality.{Quality}
use Rattle.verdict.specs.declared.Quality.TheVariants.{Closed, OpenShell, Degenerate}

-- |volume| > box·1.001 in f32: more than any solid in the box has
unfoldable pub too_large : Float → Float → Bool
too_large volume box = lt (box ⊗ of_bits binary32 0x3f80_20c5) (magnitude volume)

-- |volume| ≤ box·1e-6 in f32
unfoldable pub near_zero : Float → Float → Bool
near_zero volume box = le (magnitude volume) (box ⊗ of_bits binary32 0x3586_37bd)

-- ids that are boundary-free: where the chain is over-incident or the volume near zero, the faces are asked as well
unfoldable pub by_faces : List ℕ → Bool → Quality
by_faces ids near =
    cond (over_incident ids || near)
    (cond (leb 2 (max_abs ids)) OpenShell (cond (near && all_cancel ids) Degenerate Closed))
    Closed

-- the given ids, and if they are not boundary-free the welded ones; if those are not either, open
unfoldable pub by_chain : List Float → List ℕ → Float → Bool → Quality
by_chain vs ids ε near =
    cond (boundary_free ids) (by_faces ids near)
    (cond (boundary_free (welded vs ids ε)) (by_faces (welded vs ids ε) near) OpenShell)

unfoldable pub quality : List Float → List ℕ → Float → Float → Float → Quality
quality vs ids ε volume box =
    cond (le box nought) Degenerate
    (cond (too_large volume box) OpenShell
    (by_chain vs ids ε (near_zero volume box)))
