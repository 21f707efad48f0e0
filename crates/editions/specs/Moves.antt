-- What the edition does to the four areas: from 1 to 2 the inclined area never grows, and top, bottom and side never shrink, in the
-- record's own f32 numbers.
use Rattle.std.specs.Prelude.{List, ℕ, T, Float, Result}
use Rattle.std.specs.Float.Ieee.{le}
use Rattle.ids.specs.declared.refusal.Refusal.{Refusal}
use Rattle.sums.specs.declared.totals.Areas.{Areas}
use Rattle.sums.specs.declared.totals.Thresholds.{Thresholds}
use Rattle.sums.specs.SlopeMoves.{NoMoreInclined}
use Rattle.sums.specs.Fine.{all_fine}
use Rattle.refusals.specs.Refusals.{unit_fits}
use Rattle.qto.specs.declared.Takeoff.{Takeoff}
use Rattle.qto.specs.Full.{record_of}
use Rattle.qto.specs.Compute.{Computes}
use Rattle.road.specs.Agree.{Agree, SameArea}
use Rattle.road.specs.Replaced.{areas_in}

pub record AreasMove (a a' : Areas) : Type 0 where
  pub top : T (le a.top a'.top)
  pub bottom : T (le a.bottom a'.bottom)
  pub side : T (le a.side a'.side)
  pub inclined : T (le a'.inclined a.inclined)

-- ---- of the definitions, by any two pairs of which the second leaves no more inclined (`records_move`)

abbrev pub RecordsMove : Type 0
RecordsMove =
    (vs : List Float) (ids : List ℕ) (u : Float) (p p' : Thresholds) → NoMoreInclined p p' → T (unit_fits u) → T (all_fine vs)
    → AreasMove (areas_in (record_of vs ids u p)) (areas_in (record_of vs ids u p'))

-- ---- of the contract, from edition 1 to edition 2 (`second_moves`)

abbrev pub TakeoffMoves : Takeoff → Takeoff → Type 0
TakeoffMoves t t' = AreasMove (areas_in t.qto) (areas_in t'.qto)

abbrev pub SecondMoves : Type 0
SecondMoves =
    (vs : List Float) (ids : List ℕ) (u : Float) (w r : List ℕ) (s : List Float) (a a' : Result Takeoff Refusal) (w₁ w₂ r₁ r₂ : List ℕ)
    (s₁ s₂ : List Float)
    → Computes vs ids u 1 w r s a w₁ r₁ s₁ → Computes vs ids u 2 w r s a' w₂ r₂ s₂ → Agree TakeoffMoves SameArea a a' w₁ w₂ r₁ r₂ s₁ s₂
