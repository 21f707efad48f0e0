-- The table of edges: rows of 3 words, low id, high id and the word that counts the uses. There are 4 rows for 3 ids, so at most three in
-- four are used.
use Rattle.std.specs.Prelude.{ℕ, ◌+◌, ◌-◌, ◌*◌, ◌%◌, ◌≤◌, ◌<◌, List, ◌++◌, length, get_or, set}
use Rattle.ids.specs.Uses.{Use, uses}
use Rattle.ids.specs.EdgeChain.{Edge, same_edge}
use Rattle.table.specs.inner.Rows.{home_row, Free}
use Rattle.table.specs.inner.Counts.{ups_in, uses_in}
use Rattle.table.specs.inner.Table.{ups, MeansUses}

abbrev pub edge_at : List ℕ → ℕ → Edge
edge_at t i = record { low = get_or t (3 * i) 0; high = get_or t (3 * i + 1) 0 }

abbrev pub edge_word : List ℕ → ℕ → ℕ
edge_word t i = get_or t (3 * i + 2) 0

abbrev pub edge_uses : List ℕ → ℕ → ℕ
edge_uses t i = uses_in (edge_word t i)

abbrev pub edge_ups : List ℕ → ℕ → ℕ
edge_ups t i = ups_in (edge_word t i)

-- the table with row r written
abbrev pub put_edge : List ℕ → ℕ → ℕ → ℕ → ℕ → List ℕ
put_edge t r low high word = set (set (set t (3 * r) low) (3 * r + 1) high) (3 * r + 2) word

-- the hash of an edge, below 2^32, and the row at which a search for it starts
unfoldable pub edge_hash : Edge → ℕ
edge_hash e = (e.low * 517785211 + e.high * 3599898067) % 4294967296

unfoldable pub edge_home : ℕ → Edge → ℕ
edge_home n e = home_row n (edge_hash e)

-- the first 3 * n words mean the uses es
abbrev pub EdgeTable : ℕ → List ℕ → List (Use Edge) → Type 0
EdgeTable n t es = MeansUses same_edge n (edge_home n) (edge_at t) (edge_uses t) (edge_ups t) es

-- there are words for n rows
pub record EdgeRows (n : ℕ) (t : List ℕ) : Type 0 where
  pub most : n ≤ 131072
  pub fits : 3 * n ≤ length t

-- a search in them can start, and ends: some row is free
pub record EdgeSearch (n start : ℕ) (t : List ℕ) : Type 0 where
  pub space : EdgeRows n t
  pub starts : start < n
  pub free : Free n (edge_uses t)

-- from t to u the uses fs were added
pub record EdgesAdded (n : ℕ) (t u : List ℕ) (fs : List (Use Edge)) : Type 0 where
  pub adds : (es : List (Use Edge)) → EdgeTable n t es → EdgeTable n u (es ++ fs)

-- each edge has at most m uses upwards and at most m downwards
abbrev pub UsesWithin : ℕ → List (Use Edge) → Type 0
UsesWithin m es = (k : Edge) → (ups same_edge k es ≤ m) × (uses same_edge k es ≤ ups same_edge k es + m)

-- the words mean some uses, and there is room for m more: rows for them, and words that can count them
pub record EdgeRoom (n : ℕ) (t : List ℕ) (m : ℕ) : Type 0 where
  pub so_far : List (Use Edge)
  pub rows_left : length so_far + m ≤ n
  pub counts_left : UsesWithin (65535 - m) so_far
  pub means : EdgeTable n t so_far

-- and so many rows stand in the words
pub record EdgesFit (n m : ℕ) (t : List ℕ) : Type 0 where
  pub space : EdgeRows n t
  pub room : EdgeRoom n t m
