-- Demand 3 for the C interface: `mf_compute` with its flags, the number that comes back and the record's 26 words.
use Rattle.std.specs.Prelude.{◌≡◌, List, ℕ, T, ℤ, Float}
use Rattle.qto.specs.Numbers.{ComputesNumbered}
use Rattle.road.specs.Numbered.{owed, AgreeNumbered, SameNumberedArea}
use Rattle.place.specs.Moved.{Moved, unit_enough}

-- all that is owed of the words
abbrev pub SameOwed : ℕ → List ℕ → List ℕ → Type 0
SameOwed n words words' = owed n words' ≡ owed n words

-- the same edition and flags, and the record's words alike before the call (`numbered_does_not_show`)
abbrev pub NumberedDoesNotShow : Type 0
NumberedDoesNotShow =
    (dx dy dz : ℤ) (vs vs' : List Float) (ids : List ℕ) (u : Float) (e clip defect : ℕ) (w r : List ℕ) (s : List Float) (words : List ℕ)
    (n n' : ℕ) (w₁ w₂ r₁ r₂ : List ℕ) (s₁ s₂ : List Float) (words₁ words₂ : List ℕ)
    → Moved dx dy dz vs vs' → T (unit_enough u)
    → ComputesNumbered vs ids u e clip defect w r s words n w₁ r₁ s₁ words₁
    → ComputesNumbered vs' ids u e clip defect w r s words n' w₂ r₂ s₂ words₂
    → AgreeNumbered SameOwed SameNumberedArea n n' w₁ w₂ r₁ r₂ s₁ s₂ words₁ words₂
