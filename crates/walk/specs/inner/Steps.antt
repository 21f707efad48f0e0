-- What one triangle does to the totals, the rows with their index and the counts, and which triangles are under way after n turns.
use Rattle.std.specs.Prelude.{◌≡◌, ℕ, zero, suc, ◌+◌, ◌-◌, ◌≤◌, ◌<◌, Bool, List, [], ◌∷◌, length, Float}
use Rattle.ids.specs.Triangles.{triangle, triangle_count, over_numbers}
use Rattle.ids.specs.Uses.{bit, sum_by}
use Rattle.sums.specs.declared.totals.Thresholds.{Thresholds}
use Rattle.sums.specs.declared.triangle.Prepared.{Prepared}
use Rattle.sums.specs.Facet.{Part, out_of_range, part}
use Rattle.sums.specs.inner.Prepared.{part_by, part_in, HasRoot}
use Rattle.sums.specs.Totals.{with_part, totals_to}
use Rattle.surfaces.specs.Surfaces.{Bucket}
use Rattle.surfaces.specs.inner.Index.{Gathered, Ready}
use Rattle.walk.specs.declared.Sums.{Sums}
use Rattle.walk.specs.Walk.{with_surface, buckets_to}
use Rattle.walk.specs.inner.Counting.{is_facet, is_thin}

-- ---- what is given, and what changes

-- vertices, origin, thresholds and ids, and the surface area before
pub record Given : Type 0 where
  pub vs : List Float
  pub o : List Float
  pub pair : Thresholds
  pub ids : List ℕ
  pub area : List Float

abbrev pub given : List Float → List Float → Thresholds → List ℕ → List Float → Given
given vs o pair ids area = record { vs = vs; o = o; pair = pair; ids = ids; area = area }

abbrev pub triangles_in : Given → ℕ
triangles_in g = triangle_count g.ids

abbrev pub part_at : Given → ℕ → Part
part_at g n = part g.vs g.o (triangle g.ids n)

abbrev pub buckets_of : Given → ℕ → List Bucket
buckets_of g n = buckets_to g.vs g.o g.ids n

-- how many of the first n parts pass a test
abbrev pub parts_of : (Part → Bool) → Given → ℕ → ℕ
parts_of test g n = sum_by (λ t. bit (test (part g.vs g.o t))) (over_numbers (λ k. triangle g.ids k ∷ []) n)

-- the index, the surface area and the sums
pub record State : Type 0 where
  pub index : List ℕ
  pub rows : List Float
  pub sums : Sums

abbrev pub state : List ℕ → List Float → Sums → State
state t u s = record { index = t; rows = u; sums = s }

-- ---- one triangle

-- there is room for one more
pub record Takeable (m : ℕ) (s : Sums) (index : List ℕ) (rows : List Float) : Type 0 where
  pub row : Ready m s.rows index rows
  pub used : s.used < 32768
  pub sliver : s.sliver < 32768

-- whatever rows s meant, as many as its sums say, r means them with the part p more, as many as its sums say; its totals have it, and
-- so has the count of those used or that of slivers
pub record Takes (m : ℕ) (pair : Thresholds) (p : Part) (s r : State) : Type 0 where
  pub totals : r.sums.totals ≡ with_part pair s.sums.totals p
  pub puts : (w : List Float) (bs : List Bucket) → length bs ≡ s.sums.rows → Gathered m w s.index s.rows bs
      → (r.sums.rows ≡ length (with_surface bs p)) × Gathered m w r.index r.rows (with_surface bs p)
  pub used : r.sums.used ≡ s.sums.used + bit (is_facet p)
  pub sliver : r.sums.sliver ≡ s.sums.sliver + bit (is_thin p)

-- ---- all

-- s has the totals and the counts of the first n triangles and means their rows; behind these the surface area is as it was
pub record Taken (g : Given) (n : ℕ) (s : State) : Type 0 where
  pub totals : s.sums.totals ≡ totals_to g.vs g.o g.pair g.ids n
  pub rows : s.sums.rows ≡ length (buckets_of g n)
  pub means : Gathered (triangles_in g) g.area s.index s.rows (buckets_of g n)
  pub used : s.sums.used ≡ parts_of is_facet g n
  pub sliver : s.sums.sliver ≡ parts_of is_thin g n

-- p is the part of the triangle behind n - 1 others, and that of none where n is 0
unfoldable pub Awaits : Given → ℕ → Part → Type 0
Awaits g zero p = p ≡ out_of_range
Awaits g (suc n) p = p ≡ part_at g n

-- after n turns: q has the cross product of the last triangle, p the length of the one in front of it, and those in front of that are taken
pub record Underway (g : Given) (n : ℕ) (s : State) (p q : Prepared) : Type 0 where
  pub rooted : HasRoot p
  pub crossed : n ≤ triangles_in g → Awaits g n (part_in q)
  pub prepared : n - 1 ≤ triangles_in g → Awaits g (n - 1) (part_by p)
  pub taken : Taken g (n - 2) s
