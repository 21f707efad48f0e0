-- What the record is made of agrees, one part after the other; only the footprints of an open mesh depend on where it stands. Assumes
-- nothing.
use mathlib.Core.Path.{◌≡◌}
use mathlib.Core.List.{List}
use Prim.Native.Nat.{ℕ, ◌≤◌}
use native.Mathlib.Omega.{arith}
use lib.Dec.{T}
use lib.IntN.{ℤ}
use lib.ListN.{length}
use lib.Ieee.{Float}
use Rattle.ids.specs.Triangles.{triangle_count}
use Rattle.sums.specs.Box.{box, origin, box_volume}
use Rattle.sums.specs.declared.totals.Thresholds.{Thresholds}
use Rattle.walk.specs.Counts.{counts_of}
use Rattle.verdict.specs.Verdict.{by_chain, quality}
use Rattle.refusals.specs.Refusals.{unit_fits}
use Rattle.qto.specs.Full.{cube, totals, buckets, surface_rows, surfaces_after, measures, verdict, best, record_by, record_of}
use Rattle.place.specs.Moved.{Moved, unit_enough}
use Rattle.road.specs.Agree.{AgreeRecords}
use Rattle.road.proofs.Best.{agree_but_prism}
use Rattle.place.proofs.Box.{box_shifted, same_box_volume}
use Rattle.place.proofs.Triangles.{same_totals, same_buckets, same_counts}
use Rattle.place.proofs.Weld.{same_welded}

module _ (dx dy dz : ℤ) (vs vs' : List Float) (m : Moved dx dy dz vs vs') (some : 9 ≤ length vs) (ids : List ℕ) where
  pub totals_stay : (p : Thresholds) → totals vs' ids p ≡ totals vs ids p
  unfolding totals
  totals_stay p =
      same_totals dx dy dz vs vs' m (box vs) (box vs') (box_shifted dx dy dz vs vs' m (omega arith)) p ids (triangle_count ids)

  buckets_stay : buckets vs' ids ≡ buckets vs ids
  unfolding buckets
  buckets_stay = same_buckets dx dy dz vs vs' m (box vs) (box vs') (box_shifted dx dy dz vs vs' m (omega arith)) ids (triangle_count ids)

  pub counts_stay : counts_of vs' (origin (box vs')) ids ≡ counts_of vs (origin (box vs)) ids
  counts_stay = same_counts dx dy dz vs vs' m (box vs) (box vs') (box_shifted dx dy dz vs vs' m (omega arith)) ids

  module _ (u : Float) where
    pub box_volume_stays : box_volume (box vs') (cube u) ≡ box_volume (box vs) (cube u)
    box_volume_stays = same_box_volume dx dy dz (box vs) (box vs') (cube u) (box_shifted dx dy dz vs vs' m (omega arith))

    pub rows_stay : surface_rows vs' ids u ≡ surface_rows vs ids u
    unfolding surface_rows
    rows_stay = rw buckets_stay

    pub surfaces_stay : (area : List Float) → surfaces_after vs' ids u area ≡ surfaces_after vs ids u area
    unfolding surfaces_after
    surfaces_stay area = rw rows_stay

    measures_stay : (p : Thresholds) → measures vs' ids u p ≡ measures vs ids u p
    unfolding measures
    measures_stay p = rw (totals_stay p, rows_stay, counts_stay)

    module _ (p : Thresholds) (enough : T (unit_enough u)) (fits : T (unit_fits u)) where
      pub verdict_stays : verdict vs' ids u (measures vs' ids u p).volume ≡ verdict vs ids u (measures vs ids u p).volume
      unfolding verdict quality by_chain
      verdict_stays = rw (measures_stay p, box_volume_stays, same_welded u enough fits dx dy dz vs vs' m ids)

      pub records_agree : AgreeRecords (record_of vs ids u p) (record_of vs' ids u p)
      unfolding record_of record_by best
      records_agree = rw (verdict_stays, measures_stay p, box_volume_stays)
          (agree_but_prism (measures vs ids u p) (verdict vs ids u (measures vs ids u p).volume) _ _ (box_volume (box vs) (cube u)) _ _)
