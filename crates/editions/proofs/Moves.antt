-- What is true of the areas by slope stays true of the record, which has them times the square of a unit above zero; and so of what the
-- contract allows. Assumes nothing.
use mathlib.Core.Path.{refl}
use mathlib.Core.List.{List}
use Prim.Native.Nat.{ℕ}
use lib.Dec.{T}
use lib.Ieee.{Float, binary32, le, lt, eq, of_bits}
use lib.Ieee.Positive.{positive}
use Rattle.ieee.specs.Single.{◌⊗◌}
use Rattle.ids.specs.Triangles.{triangle_count}
use Rattle.sums.specs.declared.totals.Areas.{Areas}
use Rattle.sums.specs.Editions.{thresholds1, thresholds2, edition_known, thresholds_of}
use Rattle.sums.specs.Totals.{scaled_areas}
use Rattle.sums.proofs.Editions.{edition_moves}
use Rattle.sums.proofs.Rising.{from_zero, mul_rises}
use Rattle.walk.specs.Domain.{EachArea}
use Rattle.refusals.specs.Refusals.{Passes}
use Rattle.qto.specs.Full.{square, totals, measures_from, measures, record_from, record_by, record_of, takeoff_of}
use Rattle.qto.specs.Compute.{zero_takeoff}
use Rattle.qto.proofs.Measured.{unit_square}
use Rattle.road.specs.Agree.{SameArea}
use Rattle.road.proofs.Outcomes.{Alike, outcomes_agree}
use Rattle.editions.specs.Moves.{AreasMove, RecordsMove, TakeoffMoves, SecondMoves}
use Rattle.editions.proofs.Areas.{Area, gathered}
use Rattle.editions.proofs.Outcomes.{check_same}

-- ---- scaled

module _ (by : Float) (p : T (positive by)) where
  times : (x x' : Float) → Area x → Area x' → T (le x x') → T (le (x ⊗ by) (x' ⊗ by))
  times x x' a a' l = mul_rises binary32 x x' by (from_zero x a.from) (from_zero x' a'.from) p l

  scaled_moves : (a a' : Areas) → EachArea Area a → EachArea Area a' → AreasMove a a' → AreasMove (scaled_areas by a) (scaled_areas by a')
  scaled_moves a a' g g' m =
      record {
        top = times a.top a'.top g.top g'.top m.top;
        bottom = times a.bottom a'.bottom g.bottom g'.bottom m.bottom;
        side = times a.side a'.side g.side g'.side m.side;
        inclined = times a'.inclined a.inclined g'.inclined g.inclined m.inclined;
      }

pub records_move : RecordsMove
unfolding record_of record_by record_from measures measures_from totals
records_move vs ids u p p' h fits fine =
    let g = gathered p p' h vs ids (triangle_count ids) fine in
    scaled_moves (square u) (unit_square u fits) (totals vs ids p).areas (totals vs ids p').areas g.here g.there g.moves

-- ---- of what comes back

pub zero_moves : TakeoffMoves zero_takeoff zero_takeoff
unfolding le lt eq of_bits
zero_moves = record { top = tt; bottom = tt; side = tt; inclined = tt }

pub takeoffs_move : (vs : List Float) (ids : List ℕ) (u : Float) → Passes vs ids u 1
    → TakeoffMoves (takeoff_of vs ids u (thresholds_of 1)) (takeoff_of vs ids u (thresholds_of 2))
unfolding thresholds_of takeoff_of
takeoffs_move vs ids u k = records_move vs ids u thresholds1 thresholds2 edition_moves.less k.unit k.fine

alike : (vs : List Float) (ids : List ℕ) (u : Float) (s : List Float) → Alike TakeoffMoves SameArea vs vs ids ids u 1 2 s
unfolding edition_known
alike vs ids u s =
    record {
      checks = check_same vs ids u 1 2 tt tt;
      lengths = refl;
      refused = λ n. refl;
      zero_record_lem = zero_moves;
      zero_rows = refl;
      full = takeoffs_move vs ids u;
      full_rows = λ passes. refl;
    }

pub second_moves : SecondMoves
second_moves vs ids u w r s a a' w₁ w₂ r₁ r₂ s₁ s₂ c c' =
    outcomes_agree TakeoffMoves SameArea vs vs ids ids u 1 2 s (alike vs ids u s) w r a a' w₁ w₂ r₁ r₂ s₁ s₂ c c'
