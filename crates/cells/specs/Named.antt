-- What the name of a cell is worth: the first vertex that is in it, and no other.
use Rattle.std.specs.Prelude.{◌≡◌, ◌≢◌, List, ℕ, ◌≤◌, ◌<◌, Float}
use Rattle.cells.specs.Cells.{cell_at}

-- f has v's cell, is not behind v, and no vertex before f has it (`named_names`). No other vertex is that
-- (`named_is`), so two vertices have one name just where they have one cell (`named_one`, `named_tells`)
pub record NamesCell (vs : List Float) (inv : Float) (v f : ℕ) : Type 0 where
  pub not_behind : f ≤ v
  pub alike : cell_at vs inv f ≡ cell_at vs inv v
  pub first_of : (j : ℕ) → j < f → cell_at vs inv j ≢ cell_at vs inv v
