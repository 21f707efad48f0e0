-- What each station of the road through the definitions shows stays. Assumes nothing.
use Rattle.qto.specs.Full.{surfaces_after}
use Rattle.place.specs.Stations.{StationsStay}
use Rattle.place.proofs.Weld.{same_welded}
use Rattle.place.proofs.Record.{totals_stay, counts_stay, box_volume_stays, rows_stay, verdict_stays}
use Rattle.place.proofs.Place.{check_stays, work_stays}

pub stations : StationsStay
unfolding surfaces_after
stations dx dy dz vs vs' ids u p m some =
    record {
      checks = check_stays dx dy dz vs vs' m ids u;
      box_volume_lem = box_volume_stays dx dy dz vs vs' m some ids u;
      sums = totals_stay dx dy dz vs vs' m some ids p;
      rows = λ any. rows_stay dx dy dz vs vs' m some ids u;
      counts = counts_stay dx dy dz vs vs' m some ids;
      weld = λ unit. same_welded u unit.0 unit.1 dx dy dz vs vs' m ids;
      quality = λ unit. verdict_stays dx dy dz vs vs' m some ids u p unit.0 unit.1;
      surfaces = λ any area. rw (rows_stay dx dy dz vs vs' m some ids u);
      work = work_stays dx dy dz vs vs' m ids;
    }
