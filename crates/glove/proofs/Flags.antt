-- The same flags on a record and on the one turned over: they turn over alike. Assumes nothing.
use Rattle.std.specs.Prelude.{Option, Some, None}
use mathlib.Core.Path.{◌≡◌, refl}
use mathlib.Core.Bool.{Bool, true, false}
use Rattle.record.specs.declared.ProfileDefect.{ProfileDefect}
use Rattle.record.specs.declared.MeshQto.{MeshQto}
use Rattle.record.specs.Flags.{marked, if_clip, if_invalid, flagged}
use Rattle.road.specs.Replaced.{replaced}
use Rattle.road.proofs.Flags.{flags_keep}
use Rattle.glove.specs.Turned.{turned_over, volume_as_number, TurnedRecords}

-- flags leave volume, top and bottom alone
record Sides (clip : Bool) (profile : Option ProfileDefect) (q : MeshQto) : Type 0 where
  turns : flagged clip profile (turned_over q) ≡ turned_over (flagged clip profile q)
  numbers : flagged clip profile (volume_as_number q) ≡ volume_as_number (flagged clip profile q)

sides : (clip : Bool) (profile : Option ProfileDefect) (q : MeshQto) → Sides clip profile q
unfolding if_clip if_invalid marked replaced
sides true None q = record { turns = refl; numbers = refl }
sides true (Some d) q = record { turns = refl; numbers = refl }
sides false None q = record { turns = refl; numbers = refl }
sides false (Some d) q = record { turns = refl; numbers = refl }

pub flags_turn : (clip : Bool) (profile : Option ProfileDefect) (q q' : MeshQto) → TurnedRecords q q'
    → TurnedRecords (flagged clip profile q) (flagged clip profile q')
flags_turn clip profile q q' r =
    rw (← (sides clip profile q).turns, ← (sides clip profile q').numbers) (flags_keep clip profile (turned_over q) (volume_as_number q') r)
