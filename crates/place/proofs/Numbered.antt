-- Demand 3 for the C interface, from that for the record. Assumes nothing.
use mathlib.Core.Path.{refl}
use mathlib.Core.List.{List}
use Prim.Native.Nat.{ℕ}
use lib.Dec.{T, eqb}
use lib.IntN.{ℤ}
use lib.Ieee.{Float}
use Rattle.record.specs.Numbers.{profile_at}
use Rattle.refusals.specs.Refusals.{Passes}
use Rattle.sums.specs.declared.totals.Thresholds.{Thresholds}
use Rattle.sums.specs.Editions.{thresholds_of}
use Rattle.qto.specs.Full.{takeoff_of}
use Rattle.qto.specs.Numbers.{with_flags}
use Rattle.road.specs.Agree.{AgreeRecords, Beside}
use Rattle.road.specs.Numbered.{SameNumberedArea}
use Rattle.road.proofs.Flags.{flags_keep}
use Rattle.road.proofs.Numbered.{AlikeNumbered, words_agree, flagged_pairs, numbered_agree}
use Rattle.place.specs.Moved.{Moved, unit_enough}
use Rattle.place.specs.Numbered.{SameOwed, NumberedDoesNotShow}
use Rattle.place.proofs.Record.{surfaces_stay}
use Rattle.place.proofs.Place.{check_stays, takeoffs_agree}

module _ (dx dy dz : ℤ) (vs vs' : List Float) (ids : List ℕ) (u : Float) (e : ℕ) (m : Moved dx dy dz vs vs')
    (enough : T (unit_enough u)) where
  -- with the same flags
  flagged_agree : (clip defect : ℕ) → Passes vs ids u e → (p : Thresholds)
      → Beside AgreeRecords (with_flags clip defect (takeoff_of vs ids u p)) (with_flags clip defect (takeoff_of vs' ids u p))
  flagged_agree clip defect h p =
      let t = takeoff_of vs ids u p in
      let t' = takeoff_of vs' ids u p in
      let b = takeoffs_agree dx dy dz vs vs' ids u e m enough h p in
      record {
        records = flags_keep (eqb clip 1) (profile_at defect) t.qto t'.qto b.records;
        pairs = flagged_pairs clip defect t t' b.pairs;
      }

  alike : (clip defect : ℕ) (s : List Float) (words : List ℕ)
      → AlikeNumbered SameOwed SameNumberedArea vs vs' ids ids u e e clip defect s words
  alike clip defect s words =
      record {
        checks = check_stays dx dy dz vs vs' m ids u e;
        lengths = rw m.lengths;
        refused = λ n. refl;
        refused_rows = λ n. refl;
        zero_record_lem = refl;
        zero_rows = refl;
        full = λ h. words_agree (with_flags clip defect (takeoff_of vs ids u (thresholds_of e)))
            (with_flags clip defect (takeoff_of vs' ids u (thresholds_of e))) (flagged_agree clip defect h (thresholds_of e));
        full_rows = λ h. surfaces_stay dx dy dz vs vs' m h.floats_least ids u s;
      }

pub numbered_does_not_show : NumberedDoesNotShow
numbered_does_not_show dx dy dz vs vs' ids u e clip defect w r s words n n' w₁ w₂ r₁ r₂ s₁ s₂ words₁ words₂ m enough c c' =
    numbered_agree SameOwed SameNumberedArea vs vs' ids ids u e e clip defect s words
    (alike dx dy dz vs vs' ids u e m enough clip defect s words) w r n n' w₁ w₂ r₁ r₂ s₁ s₂ words₁ words₂ c c'
