-- What the record is made of is turned or stays, one part after the other; only the footprints of an open mesh may see the turn. Assumes
-- nothing.
use mathlib.Core.Path.{◌≡◌, sym, ap, subst}
use mathlib.Core.List.{List}
use Prim.Native.Nat.{ℕ}
use native.Mathlib.Omega.{arith}
use lib.Dec.{T}
use lib.Ieee.{Float, binary32, binary64, le, of_bits}
use Rattle.ieee.specs.Magnitude.{magnitude}
use Rattle.ieee.specs.Number.{as_number, opposite}
use Rattle.ieee.specs.Single.{nought}
use Rattle.ieee.specs.Double.{◌⊠◌, ◌⧄◌}
use Rattle.ieee.proofs.Values.Opposite.{div_opposite, magnitude_opposite, mul_opposite_left, rounded_opposite}
use Rattle.ids.specs.Triangles.{triangle_count}
use Rattle.ids.specs.Reversed.{reversed}
use Rattle.ids.proofs.Reversed.{reversed_is}
use Rattle.sums.specs.declared.totals.Areas.{Areas}
use Rattle.sums.specs.declared.totals.Thresholds.{Thresholds}
use Rattle.sums.specs.declared.totals.Totals.{Totals}
use Rattle.sums.specs.Box.{box, origin, box_volume}
use Rattle.sums.specs.Turned.{turned_areas, TurnedTotals}
use Rattle.sums.proofs.TurnedTotals.{totals_turned}
use Rattle.walk.proofs.Turned.{counts_reversed}
use Rattle.weld.specs.Weld.{epsilon_of}
use Rattle.verdict.specs.declared.Quality.{Quality}
use Rattle.verdict.proofs.Reversed.{quality_reversed}
use Rattle.volume.specs.Best.{best_of}
use Rattle.refusals.specs.Refusals.{Passes}
use Rattle.qto.specs.declared.Measures.{Measures}
use Rattle.qto.specs.Full.{cube, totals, volume_of, surface_of, measures_from, measures, distance, verdict, best}
use Rattle.qto.specs.Full.{record_from, record_by, record_of}
use Rattle.road.specs.Agree.{AgreeRecords}
use Rattle.road.specs.Replaced.{replaced}
use Rattle.road.proofs.Best.{agree_but_prism}
use Rattle.glove.specs.Turned.{TurnedRecords}
use Rattle.glove.proofs.Rows.{same_count, largest_same, smallest_same}

-- ---- the sums

volume_turned : (t t' : Totals) (u : Float) → TurnedTotals t t' → as_number (volume_of t' u) ≡ opposite (volume_of t u)
unfolding volume_of
volume_turned t t' u s =
    let six = of_bits binary64 0x4018_0000_0000_0000 in
    rounded_opposite binary32 (t.volume6 ⧄ six ⊠ cube u) (t'.volume6 ⧄ six ⊠ cube u)
    (mul_opposite_left binary64 (t.volume6 ⧄ six) (cube u) (t'.volume6 ⧄ six)
    (div_opposite binary64 t.volume6 six t'.volume6 s.volume6))

-- by any pair of thresholds of which the first is not below 0
module _ (p : Thresholds) (h : T (le nought p.top)) (vs : List Float) (ids : List ℕ) where
  pub sums_turned : TurnedTotals (totals vs ids p) (totals vs (reversed ids) p)
  unfolding totals
  sums_turned =
      rw (reversed_is ids).long (totals_turned p h vs (origin (box vs)) ids (triangle_count ids) (omega arith))

  module _ (u : Float) where
    pub same_size : magnitude (measures vs (reversed ids) u p).volume ≡ magnitude (measures vs ids u p).volume
    unfolding measures measures_from
    same_size = magnitude_opposite (volume_of (totals vs ids p) u) _ (volume_turned (totals vs ids p) _ u sums_turned)

    pub verdict_same : verdict vs (reversed ids) u (measures vs (reversed ids) u p).volume ≡ verdict vs ids u (measures vs ids u p).volume
    unfolding verdict
    verdict_same = quality_reversed vs ids (epsilon_of distance u) _ _ (box_volume (box vs) (cube u)) same_size

-- ---- the measures

-- with another volume and other areas
abbrev sided_measures : Float → Areas → Measures → Measures
sided_measures volume areas m =
    record {
      volume = volume;
      surface = m.surface;
      areas = areas;
      largest = m.largest;
      smallest = m.smallest;
      count = m.count;
      triangles = m.triangles;
    }

-- turned over, and with the volume as a number
abbrev overturned : Measures → Measures
overturned m = sided_measures (opposite m.volume) (turned_areas m.areas) m

abbrev numbered : Measures → Measures
numbered m = sided_measures (as_number m.volume) m.areas m

-- ---- the record

-- with the same verdict, size of volume and surface, and whatever prisms
agree : (m m' : Measures) (q q' : Quality) (v v' s s' aabb p p' : Float) → numbered m' ≡ overturned m → q' ≡ q → v' ≡ v → s' ≡ s
    → TurnedRecords (record_from m aabb q (best_of q v s aabb p)) (record_from m' aabb q' (best_of q' v' s' aabb p'))
unfolding replaced record_from
agree m m' q q' v v' s s' aabb p p' e same-verdict same_volume same_surface =
    rw (same-verdict, same_volume, same_surface)
    (subst (λ (n : Measures). AgreeRecords (record_from (overturned m) aabb q (best_of q v s aabb p))
    (record_from n aabb q (best_of q v s aabb p'))) (sym e) (agree_but_prism (overturned m) q v s aabb p p'))

module _ (p : Thresholds) (h : T (le nought p.top)) (vs : List Float) (ids : List ℕ) (u : Float) (e : ℕ) (k : Passes vs ids u e) where
  measures_turned : numbered (measures vs (reversed ids) u p) ≡ overturned (measures vs ids u p)
  unfolding measures measures_from surface_of
  measures_turned =
      let s = sums_turned p h vs ids in
      rw (
        volume_turned (totals vs ids p) (totals vs (reversed ids) p) u s,
        s.surface,
        s.areas,
        largest_same vs ids u e k,
        smallest_same vs ids u e k,
        same_count vs ids u e k,
        counts_reversed vs (origin (box vs)) ids,
      )

  pub records_turned : TurnedRecords (record_of vs ids u p) (record_of vs (reversed ids) u p)
  unfolding record_of record_by best
  records_turned =
      agree (measures vs ids u p) (measures vs (reversed ids) u p) _ _ _ _ _ _ (box_volume (box vs) (cube u)) _ _ measures_turned
      (verdict_same p h vs ids u) (same_size p h vs ids u) (ap (λ (m : Measures). m.surface) measures_turned)
