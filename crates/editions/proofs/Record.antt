-- Volume, surface, verdict, best volume and pairs are the same by any two pairs of thresholds, since both sums are; what the surfaces and
-- the counts are made of never asks for one. Assumes nothing.
use mathlib.Core.Path.{◌≡◌}
use mathlib.Core.List.{List}
use Prim.Native.Nat.{ℕ}
use lib.Ieee.{Float}
use Rattle.ids.specs.Triangles.{triangle_count}
use Rattle.sums.specs.declared.totals.Thresholds.{Thresholds}
use Rattle.sums.specs.Box.{box, origin}
use Rattle.qto.specs.Full.{totals, volume_of, surface_of, measures_from, measures, best, record_from, record_by, record_of, takeoff_of}
use Rattle.road.specs.Replaced.{replaced}
use Rattle.editions.specs.ButAreas.{OtherAreas, PairUnseen}
use Rattle.editions.proofs.Sums.{SameSums, same_sums}

module _ (vs : List Float) (ids : List ℕ) (u : Float) (p p' : Thresholds) where
  sums : SameSums (totals vs ids p) (totals vs ids p')
  unfolding totals
  sums = same_sums p p' vs (origin (box vs)) ids (triangle_count ids)

  same_volume : volume_of (totals vs ids p') u ≡ volume_of (totals vs ids p) u
  unfolding volume_of
  same_volume = rw sums.volume6

  same_surface : surface_of (totals vs ids p') u ≡ surface_of (totals vs ids p) u
  unfolding surface_of
  same_surface = rw sums.surface

  other_areas : OtherAreas (record_of vs ids u p) (record_of vs ids u p')
  unfolding record_of record_by record_from measures measures_from best replaced
  other_areas = rw (same_volume, same_surface)

pub pair_unseen : PairUnseen
unfolding takeoff_of record_of record_by record_from measures measures_from
pair_unseen vs ids u p p' =
    record { rest = other_areas vs ids u p p'; pairs = rw (same_volume vs ids u p p') }
