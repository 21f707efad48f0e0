-- The glove (02, A9): the sums of a mesh and of the same mesh turned inside out.
use Rattle.std.specs.Prelude.{◌≡◌, from_bits}
use Rattle.std.specs.Float.{binary32}
use Rattle.ieee.specs.Number.{as_number, opposite}
use Rattle.sums.specs.declared.totals.Areas.{Areas}
use Rattle.sums.specs.declared.totals.Slope.{Slope}
use Rattle.sums.specs.declared.totals.Thresholds.{Thresholds}
use Rattle.sums.specs.declared.totals.Totals.{Totals}
use Rattle.sums.specs.Totals.{slope_of}

-- top and bottom have changed places
abbrev pub turned_areas : Areas → Areas
turned_areas a = record { top = a.bottom; bottom = a.top; side = a.side; inclined = a.inclined }

pub record TurnedTotals (t t' : Totals) : Type 0 where
  pub surface : t'.surface ≡ t.surface
  -- negated, as a number
  pub volume6 : as_number t'.volume6 ≡ opposite t.volume6
  pub areas : t'.areas ≡ turned_areas t.areas

-- it asks for a first threshold that is not below 0: by -0.1 a z of 0.05 and one of -0.05 are both top (`both_top`)
abbrev pub BothTop : Type 0
BothTop =
    let p : Thresholds = record { top = from_bits binary32 0xbdcc_cccd; side = from_bits binary32 0x3eaf_1aa0 } in
    (slope_of p (from_bits binary32 0x3d4c_cccd) ≡ Slope.Top) × (slope_of p (from_bits binary32 0xbd4c_cccd) ≡ Slope.Top)
