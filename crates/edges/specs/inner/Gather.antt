-- What counting the edges of all triangles starts from: rows for the ids, and no use in them; and what it does with one triangle.
use Rattle.std.specs.Prelude.{List, [], ℕ, ◌≤◌, length}
use Rattle.ids.specs.Uses.{Use}
use Rattle.ids.specs.Lent.{most_entries}
use Rattle.ids.specs.EdgeChain.{Edge}
use Rattle.steps.specs.inner.Rows.{EdgeTable, EdgeRows, EdgesAdded, UsesWithin}

pub record EdgesToCome (ids : List ℕ) (n : ℕ) (t : List ℕ) : Type 0 where
  pub few : length ids ≤ most_entries
  pub rows : length ids ≤ n
  pub space : EdgeRows n t
  pub empty : EdgeTable n t []

-- from t to u the uses fs of one triangle were added: three at most, and of no edge two in one direction
pub record TriangleAdded (n : ℕ) (t u : List ℕ) (fs : List (Use Edge)) : Type 0 where
  pub added : EdgesAdded n t u fs
  pub few : length fs ≤ 3
  pub within : UsesWithin 1 fs
