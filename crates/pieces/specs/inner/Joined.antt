-- Triangles joined by themselves, and when all is joined: the labels are as coarse as the joins ask, and no coarser.
use Rattle.std.specs.Prelude.{◌≡◌, Bool, ◌&&◌, List, ℕ, ◌≤◌, ◌<◌, eqb, length}
use Rattle.ids.specs.Pieces.{solid}
use Rattle.forest.specs.inner.Words.{parent_in}
use Rattle.sides.specs.inner.Joins.{Linked, Good}

-- triangle t has one label with each linked one from a on below b
abbrev pub Tied : List ℕ → ℕ → ℕ → ℕ → ℕ → (ℕ → ℕ) → Type 0
Tied ids n t a b f = (j : ℕ) → a ≤ j → j < b → Linked ids n t j → f t ≡ f j

-- when all is joined: labels that are as coarse as the joins ask, and no coarser
pub record AllJoined (ids t : List ℕ) : Type 0 where
  pub label : ℕ → ℕ
  pub good : Good ids t label
  pub follows : (x y : ℕ) → Linked ids (length t) x y → label x ≡ label y

-- triangle i has distinct ids and hangs on itself
unfoldable pub is_root : List ℕ → List ℕ → ℕ → Bool
is_root ids t i = solid ids i && eqb (parent_in t i) i
