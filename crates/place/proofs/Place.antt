-- Demand 3: the checks, the answer and the lent areas of a mesh and of the same mesh moved agree. Assumes nothing.
use mathlib.Core.Path.{◌≡◌, refl}
use mathlib.Core.List.{List}
use Prim.Native.Nat.{ℕ}
use lib.Dec.{T}
use lib.IntN.{ℤ}
use lib.ListN.{length}
use lib.Ieee.{Float}
use Rattle.ids.specs.Lent.{cleared}
use Rattle.sums.specs.declared.totals.Thresholds.{Thresholds}
use Rattle.sums.specs.Editions.{thresholds_of}
use Rattle.refusals.specs.Refusals.{check_of, Passes}
use Rattle.qto.specs.Full.{takeoff_of}
use Rattle.vertices.specs.Areas.{work_words}
use Rattle.road.specs.Agree.{AgreeBy, AgreeRecords, Beside, SameArea}
use Rattle.road.proofs.Outcomes.{Alike, beside, outcomes_agree, zero_beside}
use Rattle.place.specs.Moved.{Moved, unit_enough}
use Rattle.place.specs.Place.{PlaceDoesNotShow}
use Rattle.place.proofs.Vertices.{fine_stays}
use Rattle.place.proofs.Record.{surfaces_stay, records_agree}

module _ (dx dy dz : ℤ) (vs vs' : List Float) (m : Moved dx dy dz vs vs') where
  pub check_stays : (ids : List ℕ) (u : Float) (e w r s : ℕ) → check_of vs' ids u e w r s ≡ check_of vs ids u e w r s
  unfolding check_of
  check_stays ids u e w r s = rw (m.lengths, fine_stays dx dy dz vs vs' m)

  pub work_stays : (ids area : List ℕ) → cleared (work_words (length vs') (length ids)) area
      ≡ cleared (work_words (length vs) (length ids)) area
  work_stays ids area = rw m.lengths

module _ (dx dy dz : ℤ) (vs vs' : List Float) (ids : List ℕ) (u : Float) (e : ℕ) (m : Moved dx dy dz vs vs')
    (enough : T (unit_enough u)) where
  -- whatever the edition's thresholds are
  pub takeoffs_agree : Passes vs ids u e → (p : Thresholds) → Beside AgreeRecords (takeoff_of vs ids u p) (takeoff_of vs' ids u p)
  takeoffs_agree h p =
      let r = records_agree dx dy dz vs vs' m h.floats_least ids u p enough h.unit in
      beside AgreeRecords vs vs' ids ids u p r r.verdict

  alike : (s : List Float) → Alike (Beside AgreeRecords) SameArea vs vs' ids ids u e e s
  unfolding AgreeBy
  alike s =
      record {
        checks = check_stays dx dy dz vs vs' m ids u e;
        lengths = rw m.lengths;
        refused = λ n. refl;
        zero_record_lem = zero_beside AgreeRecords (record { verdict = refl; rest = refl });
        zero_rows = refl;
        full = λ h. takeoffs_agree h (thresholds_of e);
        full_rows = λ h. surfaces_stay dx dy dz vs vs' m h.floats_least ids u s;
      }

pub place_does_not_show : PlaceDoesNotShow
place_does_not_show dx dy dz vs vs' ids u e w r s a a' w₁ w₂ r₁ r₂ s₁ s₂ m enough c c' =
    outcomes_agree (Beside AgreeRecords) SameArea vs vs' ids ids u e e s (alike dx dy dz vs vs' ids u e m enough s) w r a a' w₁ w₂ r₁ r₂
    s₁ s₂ c c'
