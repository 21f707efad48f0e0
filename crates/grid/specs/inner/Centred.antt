-- The centres of cells, kept in a list.
use Rattle.std.specs.Prelude.{◌≡◌, List, ℕ, ◌<◌, length, get_or, Float}
use Rattle.std.specs.Float.{nan}
use Rattle.grid.specs.declared.along.Along.{Along}
use Rattle.grid.specs.Grid.{centre_of}

-- the list has those of its first cells, though the row may have fewer
abbrev pub Centred : Along → List Float → Type 0
Centred row list = (i : ℕ) → i < length list → get_or list i nan ≡ centre_of row i
