-- What each station of the road through the definitions shows is turned or stays. Assumes nothing.
use mathlib.Core.Path.{refl}
use Rattle.ids.proofs.Reversed.{reversed_is}
use Rattle.sums.specs.Box.{box, origin}
use Rattle.walk.proofs.Turned.{counts_reversed}
use Rattle.weld.specs.Weld.{epsilon_of}
use Rattle.weld.proofs.Reversed.{welded_reversed}
use Rattle.qto.specs.Full.{distance, surfaces_after}
use Rattle.glove.specs.Stations.{StationsTurn}
use Rattle.glove.proofs.Rows.{rows_turned}
use Rattle.glove.proofs.Record.{sums_turned, verdict_same}
use Rattle.glove.proofs.Glove.{check_same}

pub stations : StationsTurn
unfolding surfaces_after
stations vs ids u e p h =
    record {
      checks = check_same vs ids u;
      box_volume_lem = refl;
      sums = sums_turned p h vs ids;
      rows = rows_turned vs ids u e;
      counts = counts_reversed vs (origin (box vs)) ids;
      weld = λ any. welded_reversed vs ids (epsilon_of distance u);
      quality = λ any. verdict_same p h vs ids u;
      surfaces = λ passes area. rw (rows_turned vs ids u e passes);
      work = λ area. rw (reversed_is ids).long;
    }
