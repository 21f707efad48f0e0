-- The answer as a number, as the C interface has it, and the contract of the C forms. A refusal of the number n is 2^31 + n.
use Rattle.std.specs.Prelude.{◌≡◌, ℕ, ◌+◌, List, length, Float, Result, Ok, Err}
use Rattle.ids.specs.declared.refusal.Refusal.{Refusal}
use Rattle.ids.specs.Refusal.{refusal_number}
use Rattle.stl.specs.Stl.{stl_of}
use Rattle.stl.specs.Reading.{in_areas, corners_later, ids_later}

unfoldable pub stl_number : Result ℕ Refusal → ℕ
stl_number (Ok n) = n
stl_number (Err refusal) = 2147483648 + refusal_number refusal

pub record ReadsStlNumbered (most : ℕ) (bytes : List ℕ) (vs : List Float) (ids : List ℕ) (k : ℕ) (vs' : List Float) (ids' : List ℕ)
    : Type 0 where
  pub number : k ≡ stl_number (in_areas (stl_of most bytes) (length vs) (length ids))
  pub floats : vs' ≡ corners_later (in_areas (stl_of most bytes) (length vs) (length ids)) bytes vs
  pub ids_later_lem : ids' ≡ ids_later (in_areas (stl_of most bytes) (length vs) (length ids)) ids

-- any two outcomes that it allows are equal (`stl_numbered_one`)
abbrev pub StlNumberedOne : Type 0
StlNumberedOne = (most : ℕ) (bytes : List ℕ) (vs : List Float) (ids : List ℕ) (k k' : ℕ) (vs₁ vs₂ : List Float) (ids₁ ids₂ : List ℕ)
    → ReadsStlNumbered most bytes vs ids k vs₁ ids₁ → ReadsStlNumbered most bytes vs ids k' vs₂ ids₂
    → (k ≡ k') × (vs₁ ≡ vs₂) × (ids₁ ≡ ids₂)
