-- A slope by the tests that come out true or false, in their order. Assumes nothing.
use Rattle.std.proofs.Common.{◌≡◌, true, false}
use lib.Ieee.{Float, lt, neg}
use Rattle.ieee.specs.Magnitude.{magnitude}
use Rattle.sums.specs.declared.totals.Slope.{Slope}
use Rattle.sums.specs.declared.totals.Thresholds.{Thresholds}
use Rattle.sums.specs.Totals.{slope_of}

module _ (p : Thresholds) (z : Float) where
  pub slope_top : lt p.top z ≡ true → Slope.Top ≡ slope_of p z
  unfolding slope_of
  slope_top above = rw above

  pub slope_bottom : lt p.top z ≡ false → lt z (neg p.top) ≡ true → Slope.Bottom ≡ slope_of p z
  unfolding slope_of
  slope_bottom above below = rw (above, below)

  pub slope_side : {m : Float} → lt p.top z ≡ false → lt z (neg p.top) ≡ false → m ≡ magnitude z → lt m p.side ≡ true
      → Slope.Side ≡ slope_of p z
  unfolding slope_of
  slope_side above below m_is small = rw (above, below, ← m_is, small)

  pub slope_inclined : {m : Float} → lt p.top z ≡ false → lt z (neg p.top) ≡ false → m ≡ magnitude z → lt m p.side ≡ false
      → Slope.Inclined ≡ slope_of p z
  unfolding slope_of
  slope_inclined above below m_is small = rw (above, below, ← m_is, small)

-- the four, which leave a function with these tests nothing to say
pub ruleset by_tests = (slope_top, slope_bottom, slope_side, slope_inclined)
