-- The table of cells, in 8 words a vertex: a vertex is an entry (`slots`), and its cell the key, in wide numbers. The upper half of word
-- v, one of the slots, is the vertex that v becomes.
use Rattle.std.specs.Prelude.{◌≡◌, ℕ, ◌+◌, ◌-◌, ◌*◌, ◌/◌, ◌≤◌, ◌<◌, List, ℤ, pos, negsuc, length, get_or, Float}
use Rattle.ids.specs.Lent.{most_entries}
use Rattle.slots.specs.declared.Code.{Code}
use Rattle.slots.specs.inner.Forms.{wide}
use Rattle.slots.specs.inner.Slots.{mark_in, entry_key, held, Entries}
use Rattle.vertices.specs.Vertices.{vertex_count}
use Rattle.cells.specs.Cells.{Cell, cell_at, named}

-- ---- a cell as numbers

-- an integer as a natural number: one to one, with no end
unfoldable pub coded : ℤ → ℕ
coded (pos n) = 2 * n
coded (negsuc n) = 2 * n + 1

abbrev pub cell_code : Cell → Code
cell_code c = record { x = coded c.x; y = coded c.y; z = coded c.z }

abbrev pub vertex_code : List Float → Float → ℕ → Code
vertex_code vs inv v = cell_code (cell_at vs inv v)

-- ---- what the table means

-- the first v of n vertices are entered: what marks and keys say of it
pub record Celled (n : ℕ) (vs : List Float) (inv : Float) (mark : ℕ → ℕ) (key : ℕ → Code) (v : ℕ) : Type 0 where
  pub entries : Entries n mark key v
  -- a used slot is of a vertex whose cell stands in its words, and which names its cell
  pub holds : (r : ℕ) → r < 2 * n → 0 < mark r → held mark key r ≡ vertex_code vs inv (mark r - 1)
  pub names : (r : ℕ) → r < 2 * n → 0 < mark r → named vs inv (mark r - 1) ≡ mark r - 1
  -- each entered vertex has a slot with its cell
  pub has : (j : ℕ) → j < v → (r : ℕ) × (r < 2 * n) × (0 < mark r) × (held mark key r ≡ vertex_code vs inv j)

unfoldable pub name_in : List ℕ → ℕ → ℕ
name_in t v = get_or t v 0 / 65536

-- and each becomes the vertex that names its cell
pub record Welds (n : ℕ) (vs : List Float) (inv : Float) (t : List ℕ) (v : ℕ) : Type 0 where
  pub celled : Celled n vs inv (mark_in wide t) (entry_key wide n t) v
  pub sent : (j : ℕ) → j < v → name_in t j ≡ named vs inv j

-- and t has room for all vertices
pub record Weldable (vs : List Float) (inv : Float) (t : List ℕ) (v : ℕ) : Type 0 where
  pub few : length vs ≤ most_entries
  pub words : length t ≡ 8 * vertex_count vs
  pub welds : Welds (vertex_count vs) vs inv t v
