-- The sides of the triangles, and the slots of a pass: a table of sides by their edges. Side c is the edge from place c of the list of ids
-- to the next corner of its triangle c / 3, round; a slot holds one more than its side, or 0. What a search in the slots finds.
use Rattle.std.specs.Prelude.{◌≡◌, ◌≢◌, Bool, true, cond, ◌&&◌, List, ℕ, ◌+◌, ◌-◌, ◌*◌, ◌/◌, ◌%◌, ◌≤◌, ◌<◌, eqb, length, get_or}
use Rattle.ids.specs.EdgeChain.{Edge, edge}
use Rattle.ids.specs.Pieces.{solid}
use Rattle.table.specs.inner.Rows.{home_row, dist, Found, Spread}
use Rattle.forest.specs.inner.Words.{held_in}
use Rattle.sides.specs.inner.Joins.{OneWordEach}

-- ---- sides

-- the corner after c in its triangle, round
unfoldable pub corner_after : ℕ → ℕ
corner_after c = cond (eqb (c % 3) 2) (c - 2) (c + 1)

unfoldable pub side_edge : List ℕ → ℕ → Edge
side_edge ids c = edge (get_or ids c 0) (get_or ids (corner_after c) 0)

-- which of the three classes an edge is in
unfoldable pub edge_class : Edge → ℕ
edge_class e = (e.low + e.high) / 8 % 3

-- the sides that the passes over class q take: those of distinct-id triangles with an edge of that class
unfoldable pub taken : List ℕ → ℕ → ℕ → Bool
taken ids q c = solid ids (c / 3) && eqb (edge_class (side_edge ids c)) q

-- the row of n at which a search for an edge starts, in a pass with these two factors
unfoldable pub side_home : ℕ → ℕ → ℕ → Edge → ℕ
side_home low high n e = home_row n (((e.low * low) % 4294967296 + (e.high * high) % 4294967296) % 4294967296)

-- ---- slots

-- the edge of the side that row r holds, for slots s
abbrev pub slot_edge : List ℕ → (ℕ → ℕ) → ℕ → Edge
slot_edge ids s r = side_edge ids (s r - 1)

-- how many rows a search looks at
abbrev pub Limited : ℕ → ℕ → Type 0
Limited limit n = (0 < limit) × (limit ≤ n)

-- each of n slots is free or holds a side of n triangles
abbrev pub Sides : ℕ → (ℕ → ℕ) → Type 0
Sides n s = (r : ℕ) → r < n → s r ≤ 3 * n

abbrev pub AllFree : ℕ → (ℕ → ℕ) → Type 0
AllFree n s = (r : ℕ) → r < n → s r ≡ 0

-- what a search for k from row `at` on finds: a row as `Found` has it, among the first `limit`; or n, where all these hold other keys
pub record Sought {K : Type 0} (n limit at : ℕ) (key : ℕ → K) (mark : ℕ → ℕ) (k : K) (r : ℕ) : Type 0 where
  pub within : r ≤ n
  pub found : r < n → Found n at key mark k r
  pub near : r < n → dist n at r < limit
  pub none : r ≡ n → (j : ℕ) → j < n → dist n at j < limit → (0 < mark j) × (key j ≢ k)

-- the same of the slots in t
abbrev pub SoughtIn : List ℕ → List ℕ → ℕ → ℕ → Edge → ℕ → Type 0
SoughtIn ids t limit at e r = Sought (length t) limit at (slot_edge ids (held_in t)) (held_in t) e r

-- what a search of the slots in t leans on
pub record Seekable (ids : List ℕ) (limit : ℕ) (t : List ℕ) : Type 0 where
  pub sized : OneWordEach ids t
  pub limited : Limited limit (length t)
  pub sides : Sides (length t) (held_in t)

-- n slots as a pass keeps them: a search finds each edge, within the limit, and they hold sides of distinct-id triangles
pub record Slots (ids : List ℕ) (home : Edge → ℕ) (limit n : ℕ) (s : ℕ → ℕ) : Type 0 where
  pub sides : Sides n s
  pub spread : Spread n home (slot_edge ids s) s
  pub near : (r : ℕ) → r < n → 0 < s r → dist n (home (slot_edge ids s r)) r < limit
  pub solids : (r : ℕ) → r < n → 0 < s r → solid ids ((s r - 1) / 3) ≡ true
