-- The glove (02, A9), over what `compute` promises: of any two outcomes that its contract allows for a mesh and for the same mesh with the
-- last two ids of every triangle swapped. 02 asks for it where F ≥ 9, I ≥ 3 and 3 divides I; it holds of every mesh.
use Rattle.std.specs.Prelude.{List, ℕ, Float, Result}
use Rattle.ids.specs.declared.refusal.Refusal.{Refusal}
use Rattle.ids.specs.Reversed.{reversed}
use Rattle.qto.specs.declared.Takeoff.{Takeoff}
use Rattle.qto.specs.Compute.{Computes}
use Rattle.road.specs.Agree.{Agree, Beside}
use Rattle.glove.specs.Turned.{TurnedRecords, TurnedArea}

-- the same vertices, unit and edition, and lent areas alike before the call (`glove`)
abbrev pub Glove : Type 0
Glove =
    (vs : List Float) (ids : List ℕ) (u : Float) (e : ℕ) (w r : List ℕ) (s : List Float) (a a' : Result Takeoff Refusal)
    (w₁ w₂ r₁ r₂ : List ℕ)
    (s₁ s₂ : List Float)
    → Computes vs ids u e w r s a w₁ r₁ s₁ → Computes vs (reversed ids) u e w r s a' w₂ r₂ s₂
    → Agree (Beside TurnedRecords) TurnedArea a a' w₁ w₂ r₁ r₂ s₁ s₂
