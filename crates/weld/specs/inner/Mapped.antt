-- Ids by a table of cells, and the area in which both have room.
use Rattle.std.specs.Prelude.{◌≡◌, ℕ, ◌+◌, ◌*◌, ◌≤◌, cond, List, length, nat_lt, Float}
use Rattle.ids.specs.Lent.{most_entries}
use Rattle.vertices.specs.Vertices.{vertex_count}
use Rattle.cells.specs.inner.Table.{name_in}

-- an id by the words of the vertices' names: the vertex that it becomes, and the id itself past them
unfoldable pub id_by : List ℕ → ℕ → ℕ
id_by names i = cond (nat_lt i (length names)) (name_in names i) i

-- the words of t are 8 a vertex and one an id
pub record WeldFits (vs : List Float) (ids t : List ℕ) : Type 0 where
  pub few : length vs ≤ most_entries
  pub words : length t ≡ 8 * vertex_count vs + length ids
