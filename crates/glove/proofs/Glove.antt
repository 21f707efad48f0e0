-- The glove: the checks, the answer and the lent areas of a mesh and of the same mesh turned inside out. Assumes nothing.
use mathlib.Core.Path.{◌≡◌, refl}
use mathlib.Core.Bool.{Bool, true, false, cond}
use mathlib.Core.List.{List}
use Prim.Native.Nat.{ℕ}
use native.Mathlib.Omega.{arith}
use lib.Dec.{T, eqb}
use lib.Ieee.{Float, le, neg, of_bits}
use Rattle.ieee.specs.Number.{as_number}
use Rattle.ieee.specs.Single.{nought}
use Rattle.ids.specs.Reversed.{reversed}
use Rattle.ids.proofs.Reversed.{reversed_is}
use Rattle.sums.specs.declared.totals.Thresholds.{Thresholds}
use Rattle.sums.specs.Editions.{thresholds1, thresholds2, thresholds_of}
use Rattle.rows.specs.Rows.{rows_of, sorted}
use Rattle.rows.specs.Opposite.{opposite_rows, areas_of}
use Rattle.record.specs.Record.{zero_record}
use Rattle.refusals.specs.Refusals.{check_of, Passes}
use Rattle.qto.specs.Full.{measures, measures_from, record_by, record_from, record_of, takeoff_of, surfaces_after}
use Rattle.road.specs.Agree.{AgreeBy, Beside}
use Rattle.road.specs.Replaced.{replaced}
use Rattle.road.proofs.Outcomes.{Alike, beside, outcomes_agree, zero_beside}
use Rattle.glove.specs.Turned.{TurnedRecords, TurnedRows, TurnedArea}
use Rattle.glove.specs.Glove.{Glove}
use Rattle.glove.proofs.Rows.{area_turned}
use Rattle.glove.proofs.Record.{records_turned}

-- the table of refusals asks for the number of ids alone
pub check_same : (vs : List Float) (ids : List ℕ) (u : Float) (e w r s : ℕ)
    → check_of vs (reversed ids) u e w r s ≡ check_of vs ids u e w r s
unfolding check_of
check_same vs ids u e w r s = rw (reversed_is ids).long

-- no rows
pub no_rows : (s : List Float) → TurnedRows 0 s s
unfolding rows_of opposite_rows sorted areas_of
no_rows s = record { rows = refl; partners = λ i h. absurd (omega arith); areas = refl; rest = refl }

-- the zero record is its own
pub zero_turned : TurnedRecords zero_record zero_record
unfolding AgreeBy replaced as_number neg of_bits
zero_turned = record { verdict = refl; rest = refl }

pub rows_after : (vs : List Float) (ids : List ℕ) (u : Float) (e : ℕ) (p : Thresholds) (s : List Float) → Passes vs ids u e
    → TurnedRows (record_of vs ids u p).surface_count (surfaces_after vs ids u s) (surfaces_after vs (reversed ids) u s)
unfolding record_of record_by record_from measures measures_from
rows_after vs ids u e p s k = area_turned vs ids u e k s

-- no edition has a first threshold below 0
top_enough : (e : ℕ) → T (le nought (thresholds_of e).top)
unfolding thresholds_of
top_enough e = go (eqb e 2)
  where
    go : (b : Bool) → T (le nought (cond b thresholds2 thresholds1).top)
    go true = unfold le of_bits in tt
    go false = unfold le of_bits in tt

pub takeoffs_turned : (vs : List Float) (ids : List ℕ) (u : Float) (e : ℕ) → Passes vs ids u e
    → Beside TurnedRecords (takeoff_of vs ids u (thresholds_of e)) (takeoff_of vs (reversed ids) u (thresholds_of e))
unfolding replaced
takeoffs_turned vs ids u e k =
    let r = records_turned (thresholds_of e) (top_enough e) vs ids u e k in
    beside TurnedRecords vs vs ids (reversed ids) u (thresholds_of e) r r.verdict

alike : (vs : List Float) (ids : List ℕ) (u : Float) (e : ℕ) (s : List Float)
    → Alike (Beside TurnedRecords) TurnedArea vs vs ids (reversed ids) u e e s
unfolding TurnedArea takeoff_of
alike vs ids u e s =
    record {
      checks = check_same vs ids u e;
      lengths = rw (reversed_is ids).long;
      refused = λ n. refl;
      zero_record_lem = zero_beside TurnedRecords zero_turned;
      zero_rows = no_rows s;
      full = takeoffs_turned vs ids u e;
      full_rows = rows_after vs ids u e (thresholds_of e) s;
    }

pub glove : Glove
glove vs ids u e w r s a a' w₁ w₂ r₁ r₂ s₁ s₂ c c' =
    outcomes_agree (Beside TurnedRecords) TurnedArea vs vs ids (reversed ids) u e e s (alike vs ids u e s) w r a a' w₁ w₂ r₁ r₂ s₁ s₂ c c'
