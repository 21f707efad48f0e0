-- Demand 3 (the place does not show), over what `compute` promises: of any two outcomes that its contract allows for a mesh and the same
-- mesh moved.
use Rattle.std.specs.Prelude.{List, ℕ, T, ℤ, Float, Result}
use Rattle.ids.specs.declared.refusal.Refusal.{Refusal}
use Rattle.qto.specs.declared.Takeoff.{Takeoff}
use Rattle.qto.specs.Compute.{Computes}
use Rattle.road.specs.Agree.{Agree, AgreeRecords, Beside, SameArea}
use Rattle.place.specs.Moved.{Moved, unit_enough}

-- the same ids, unit and edition, and lent areas alike before the call (`place_does_not_show`)
abbrev pub PlaceDoesNotShow : Type 0
PlaceDoesNotShow =
    (dx dy dz : ℤ) (vs vs' : List Float) (ids : List ℕ) (u : Float) (e : ℕ) (w r : List ℕ) (s : List Float) (a a' : Result Takeoff Refusal)
    (w₁ w₂ r₁ r₂ : List ℕ) (s₁ s₂ : List Float)
    → Moved dx dy dz vs vs' → T (unit_enough u) → Computes vs ids u e w r s a w₁ r₁ s₁ → Computes vs' ids u e w r s a' w₂ r₂ s₂
    → Agree (Beside AgreeRecords) SameArea a a' w₁ w₂ r₁ r₂ s₁ s₂
