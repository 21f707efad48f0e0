-- The walk counts each triangle once: what it counts by parts, triangle by triangle, is how many have such a part, and together that is all
-- of them. Assumes nothing.
use mathlib.Core.Path.{◌≡◌, refl, ◌∙◌, ap}
use Prim.Native.Nat.{ℕ, zero, suc, ◌+◌, ◌-◌, ◌≤◌}
use mathlib.Core.Bool.{Bool}
use native.Mathlib.Omega.{arith}
use mathlib.Core.List.{List, [], ◌∷◌}
use lib.ListN.{length, length-append}
use Rattle.ids.specs.Triangles.{triangle, over_triangles, over_numbers, triangle_count}
use Rattle.ids.specs.Uses.{bit, sum_by}
use Rattle.ids.proofs.Groups.{sum_append}
use Rattle.ids.proofs.Numbered.{by_number}
use Rattle.sums.specs.Facet.{Part, out_of_range, sliver, used, part}
use Rattle.walk.specs.declared.TriangleCounts.{TriangleCounts}
use Rattle.walk.specs.Counts.{how_many}
use Rattle.walk.specs.inner.Steps.{Given, triangles_in, part_at, parts_of}
use Rattle.walk.specs.inner.Counting.{is_facet, is_thin, is_none, part_counts}

-- ---- sums over lists

pub same_sums : {K : Type 0} (f g : K → ℕ) → ((k : K) → f k ≡ g k) → (l : List K) → sum_by f l ≡ sum_by g l
unfolding sum_by
same_sums f g e [] = refl
same_sums f g e (k ∷ l) = rw (e k, same_sums f g e l)

-- three that make one of each element make the length of a list
pub three_make_all : {K : Type 0} (f g h : K → ℕ) → ((k : K) → f k + g k + h k ≡ 1) → (l : List K)
    → sum_by f l + sum_by g l + sum_by h l ≡ length l
unfolding sum_by
three_make_all f g h one [] = refl
three_make_all f g h one (k ∷ l) = omega (arith, one k, three_make_all f g h one l)

numbers_length : (ids : List ℕ) (n : ℕ) → length (over_numbers (λ k. triangle ids k ∷ []) n) ≡ n
unfolding over_numbers
numbers_length ids zero = refl
numbers_length ids (suc n) =
    length-append (over_numbers (λ k. triangle ids k ∷ []) n) (triangle ids n ∷ []) ∙ omega (arith, numbers_length ids n)

pub triangles_length : (ids : List ℕ) → length (over_triangles (λ t. t ∷ []) ids) ≡ triangle_count ids
triangles_length ids = ap length (by_number (λ t. t ∷ []) ids) ∙ numbers_length ids (triangle_count ids)

-- ---- a part is one of three

pub one_of_three : (p : Part) → bit (is_facet p) + bit (is_none p) + bit (is_thin p) ≡ 1
unfolding is_facet is_none is_thin bit
one_of_three out_of_range = refl
one_of_three sliver = refl
one_of_three (used f) = refl

-- ---- the first n

module _ (g : Given) where
  pub parts_next : (test : Part → Bool) (n : ℕ) → parts_of test g (suc n) ≡ parts_of test g n + bit (test (part_at g n))
  unfolding over_numbers sum_by
  parts_next test n = sum_append _ (over_numbers (λ k. triangle g.ids k ∷ []) n) (triangle g.ids n ∷ []) ∙ omega arith

  pub parts_all : (n : ℕ) → parts_of is_facet g n + parts_of is_none g n + parts_of is_thin g n ≡ n
  parts_all n = three_make_all _ _ _ (λ t. one_of_three (part g.vs g.o t)) _ ∙ numbers_length g.ids n

  parts_are : (test : Part → Bool) → parts_of test g (triangles_in g) ≡ how_many (λ t. test (part g.vs g.o t)) g.ids
  unfolding how_many
  parts_are test = rw (by_number (λ t. t ∷ []) g.ids)

  -- when all are counted: what is neither used nor a sliver is out of range
  module _ (u s : ℕ) (used : u ≡ parts_of is_facet g (triangles_in g)) (sliver : s ≡ parts_of is_thin g (triangles_in g)) where
    pub neither_left : u + s ≤ triangles_in g
    neither_left = omega (arith, used, sliver, parts_all (triangles_in g))

    pub counts_all : ◌≡◌ {A = TriangleCounts} (record { used = u; out_of_range = triangles_in g - u - s; sliver = s })
        (part_counts g.vs g.o g.ids)
    unfolding part_counts
    counts_all =
        let rest : triangles_in g - u - s ≡ parts_of is_none g (triangles_in g) = omega (arith, used, sliver, parts_all (triangles_in g)) in
        rw (rest, used, sliver, parts_are is_facet, parts_are is_none, parts_are is_thin)
