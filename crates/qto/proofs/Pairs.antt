-- The pairs are six zeros unless the verdict is open_shell, and each fits. Assumes nothing.
use Rattle.std.proofs.Common.{◌≡◌, ℕ, Bool, true, false, cond, ◌≢◌, List, refl}
use lib.Ieee.{Float}
use Rattle.raster.specs.declared.Window.{Window}
use Rattle.raster.specs.Footprint.{no_cells, footprint}
use Rattle.raster.specs.Cells.{PairFits}
use Rattle.raster.proofs.Cells.{none_fits, cells_fit}
use Rattle.sums.specs.Box.{box}
use Rattle.sums.specs.Editions.{thresholds_of}
use Rattle.sums.specs.declared.totals.Thresholds.{Thresholds}
use Rattle.sums.specs.declared.bounds.Bounds.{Bounds}
use Rattle.verdict.specs.declared.Quality.{Quality}
use Rattle.volume.specs.declared.Pairs.{Pairs}
use Rattle.volume.specs.Best.{has_footprint}
use Rattle.volume.specs.Pairs.{pair_on, prism_pairs, no_pairs, pairs_of}
use Rattle.qto.specs.Full.{record_of, takeoff_of}
use Rattle.qto.specs.Compute.{zero_takeoff}
use Rattle.qto.specs.Pairs.{PairsAre, ComputesPairs}
use Rattle.qto.proofs.Outcomes.{of_record}

none_unless_open : (q : Quality) (p : Pairs) → q ≢ Quality.OpenShell → pairs_of q p ≡ no_pairs
unfolding pairs_of
none_unless_open Quality.Closed p shut = refl
none_unless_open Quality.Degenerate p shut = refl
none_unless_open Quality.OpenShell p shut = absurd (shut refl)

pair_fits : (vs : List Float) (ids : List ℕ) (s : Window) (e : Float) → PairFits (pair_on vs ids s e)
unfolding pair_on
pair_fits vs ids s e = go (has_footprint s e)
  where
    go : (b : Bool) → PairFits (cond b (footprint vs ids s).cells no_cells)
    go true = cells_fit vs ids s
    go false = none_fits

-- of each of three pairs
record EachFits (p : Pairs) : Type 0 where
  z : PairFits p.z
  y : PairFits p.y
  x : PairFits p.x

no_pairs_fit : EachFits no_pairs
no_pairs_fit = record { z = none_fits; y = none_fits; x = none_fits }

prism_pairs_fit : (vs : List Float) (ids : List ℕ) (b : Bounds) → EachFits (prism_pairs vs ids b)
unfolding prism_pairs
prism_pairs_fit vs ids b = record { z = pair_fits vs ids _ _; y = pair_fits vs ids _ _; x = pair_fits vs ids _ _ }

pairs_fit : (q : Quality) (p : Pairs) → EachFits p → EachFits (pairs_of q p)
unfolding pairs_of
pairs_fit Quality.Closed p f = no_pairs_fit
pairs_fit Quality.Degenerate p f = no_pairs_fit
pairs_fit Quality.OpenShell p f = f

pub computes_pairs : ComputesPairs
unfolding takeoff_of
computes_pairs vs ids u e w r s a w' r' s' t c is = of_record PairsAre vs ids u e w r s zero_are (λ h. full_are (thresholds_of e)) c is
  where
    zero_are : PairsAre zero_takeoff
    zero_are = record { none = λ shut. refl; z = none_fits; y = none_fits; x = none_fits }

    full_are : (p : Thresholds) → PairsAre (takeoff_of vs ids u p)
    full_are p =
        let q = (record_of vs ids u p).mesh_quality in
        let f = pairs_fit q (prism_pairs vs ids (box vs)) (prism_pairs_fit vs ids (box vs)) in
        record { none = none_unless_open q (prism_pairs vs ids (box vs)); z = f.z; y = f.y; x = f.x }
