-- Edge chain: the undirected edges that the triangles of a list of ids use, and what is asked of them.
use Rattle.std.specs.Prelude.{ℕ, ◌*◌, ◌%◌, min, max, Bool, true, cond, not, ◌&&◌, ◌||◌, List, [], ◌∷◌, ◌++◌, ltb, leb, eqb, length}
use Rattle.ids.specs.declared.edge.Edge as code
use Rattle.ids.specs.Triangles.{Triangle, distinct, over_triangles}
use Rattle.ids.specs.Uses.{Use, keys_that}

-- an undirected edge: its two ids, `low` and `high`, as in the code
abbrev pub Edge : Type 0
Edge = code.Edge

unfoldable pub same_edge : Edge → Edge → Bool
same_edge e f = eqb e.low f.low && eqb e.high f.high

-- the one between two ids
abbrev pub edge : ℕ → ℕ → Edge
edge u v = record { low = min u v; high = max u v }

-- the use that the step from id u to id v makes of the edge between them: upwards from the lower id to the higher
unfoldable pub step : ℕ → ℕ → Use Edge
step u v = record { key = edge u v; up = ltb u v }

-- the uses that one triangle makes: none if it repeats an id
unfoldable pub around : Triangle → List (Use Edge)
around t = cond (distinct t) (step t.a t.b ∷ step t.b t.c ∷ step t.c t.a ∷ []) []

-- at least 9 ids, and 3 divides their number
unfoldable pub enough : ℕ → Bool
enough i = leb 9 i && eqb (i % 3) 0

-- the chain: empty unless there are enough ids
unfoldable pub chain : List ℕ → List (Use Edge)
chain ids = cond (enough (length ids)) (over_triangles around ids) []

-- tests on how often an edge is used and the magnitude of its sum
unfoldable pub present : ℕ → ℕ → Bool
present uses sum = true

unfoldable pub unbalanced : ℕ → ℕ → Bool
unbalanced uses sum = not (eqb sum 0)

unfoldable pub crowded : ℕ → ℕ → Bool
crowded uses sum = ltb 2 uses

-- not used twice, once each way
unfoldable pub unpaired : ℕ → ℕ → Bool
unpaired uses sum = not (eqb uses 2 && eqb sum 0)

-- neither used once nor twice, once each way
unfoldable pub incoherent : ℕ → ℕ → Bool
incoherent uses sum = not (eqb uses 1 || (eqb uses 2 && eqb sum 0))

-- how many edges pass a test
abbrev pub edges_that : (ℕ → ℕ → Bool) → List (Use Edge) → ℕ
edges_that test es = keys_that same_edge test es

-- boundary-free: some edge exists and every sum is 0
unfoldable pub boundary_free : List ℕ → Bool
boundary_free ids = ltb 0 (edges_that present (chain ids)) && eqb (edges_that unbalanced (chain ids)) 0

-- over-incident: some edge has more than 2 uses
unfoldable pub over_incident : List ℕ → Bool
over_incident ids = ltb 0 (edges_that crowded (chain ids))

-- ---- `is_closed_manifold` and `winding_coherent` drop only the edges between equal ids, not the whole triangle

unfoldable pub proper_step : ℕ → ℕ → List (Use Edge)
proper_step u v = cond (eqb u v) [] (step u v ∷ [])

unfoldable pub around_proper : Triangle → List (Use Edge)
around_proper t = proper_step t.a t.b ++ (proper_step t.b t.c ++ proper_step t.c t.a)

abbrev pub proper_edges : List ℕ → List (Use Edge)
proper_edges ids = over_triangles around_proper ids

-- enough ids, and each edge is used twice, once each way
unfoldable pub closed_manifold : List ℕ → Bool
closed_manifold ids = enough (length ids) && eqb (edges_that unpaired (proper_edges ids)) 0

-- enough ids, some edge exists, and at most one edge in fifty is used neither once nor twice, once each way
unfoldable pub winding_coherent : List ℕ → Bool
winding_coherent ids =
    enough (length ids)
    && (ltb 0 (edges_that present (proper_edges ids))
    && leb (50 * edges_that incoherent (proper_edges ids)) (edges_that present (proper_edges ids)))
