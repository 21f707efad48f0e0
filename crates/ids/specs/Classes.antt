-- What the groups are: the classes of the relation that the joins generate. This is what `pieces` counts, in the usual words;
-- `groups_are_classes` proves it.
use Rattle.std.specs.Prelude.{◌≡◌, Bool, true, List, [], ◌∷◌, ℕ, eqb}
use Rattle.ids.specs.Uses.{sum_by, times}
use Rattle.ids.specs.Pieces.{any}

-- x stands in the list
abbrev pub mem : ℕ → List ℕ → Bool
mem x l = any (eqb x) l

-- a chain of joined elements of ts leads from one to the other
pub data Chain (joined : ℕ → ℕ → Bool) (ts : List ℕ) : ℕ → ℕ → Type 0 where
  here : {x : ℕ} → Chain joined ts x x
  step : {x y z : ℕ} → mem x ts ≡ true → mem y ts ≡ true → joined x y ≡ true → Chain joined ts y z → Chain joined ts x z

-- every group passes
abbrev pub Each : (List ℕ → Type 0) → List (List ℕ) → Type 0
Each P [] = Unit {0}
Each P (g ∷ gs) = P g × Each P gs

-- The groups of ts are the classes of the relation that the joins generate: none is empty, each element is in the groups as often as in ts,
-- a chain leads
-- between any two of a group, and no chain leads out of one.
pub record AreClasses (joined : ℕ → ℕ → Bool) (ts : List ℕ) (gs : List (List ℕ)) : Type 0 where
  pub some : Each (λ g. (x : ℕ) × (mem x g ≡ true)) gs
  pub once : (x : ℕ) → sum_by (times eqb x) gs ≡ times eqb x ts
  pub tied : Each (λ g. (x y : ℕ) → mem x g ≡ true → mem y g ≡ true → Chain joined ts x y) gs
  pub closed : Each (λ g. (x y : ℕ) → Chain joined ts x y → mem x g ≡ true → mem y g ≡ true) gs
