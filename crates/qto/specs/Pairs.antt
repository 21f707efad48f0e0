-- What the pairs can be (02, A3): six zeros unless the verdict is open_shell; in each no more rim cells than covered ones, and of these
-- 65,536 at most. (`computes_pairs`, of every answer that the contract allows)
use Rattle.std.specs.Prelude.{◌≡◌, ℕ, ◌≢◌, List, Float, Result, Ok}
use Rattle.ids.specs.declared.refusal.Refusal.{Refusal}
use Rattle.raster.specs.Cells.{PairFits}
use Rattle.verdict.specs.declared.Quality.{Quality}
use Rattle.volume.specs.Pairs.{no_pairs}
use Rattle.qto.specs.declared.Takeoff.{Takeoff}
use Rattle.qto.specs.Compute.{Computes}

pub record PairsAre (t : Takeoff) : Type 0 where
  pub none : t.qto.mesh_quality ≢ Quality.OpenShell → t.pairs ≡ no_pairs
  pub z : PairFits t.pairs.z
  pub y : PairFits t.pairs.y
  pub x : PairFits t.pairs.x

abbrev pub ComputesPairs : Type 0
ComputesPairs =
    (vs : List Float) (ids : List ℕ) (u : Float) (e : ℕ) (w r : List ℕ) (s : List Float) (a : Result Takeoff Refusal) (w' r' : List ℕ)
    (s' : List Float)
    (t : Takeoff)
    → Computes vs ids u e w r s a w' r' s' → a ≡ Ok t → PairsAre t
