-- One triangle more: what it does to the totals and the rows, that there is room for it, where the walk starts, how a turn brings
-- three triangles on, and what the walk gives at its end. Assumes nothing.
use mathlib.Core.Path.{◌≡◌, refl, sym, ◌∙◌, ap, subst}
use Prim.Native.Nat.{ℕ, zero, suc, ◌+◌, ◌-◌, ◌*◌, ◌≤◌, ◌<◌}
use mathlib.Core.Bool.{true, false}
use native.Mathlib.Numerals.{add-one}
use native.Mathlib.Omega.{arith}
use mathlib.Core.List.{List}
use lib.ListN.{length, replicate}
use lib.Ieee.{Float, lt}
use Rattle.ids.specs.Triangles.{over_numbers}
use Rattle.ids.specs.Uses.{bit, sum_by}
use Rattle.sums.specs.declared.triangle.Facet.{Facet}
use Rattle.sums.specs.declared.triangle.Prepared.{Prepared}
use Rattle.sums.specs.declared.totals.Totals.{Totals}
use Rattle.sums.specs.declared.totals.Thresholds.{Thresholds}
use Rattle.sums.specs.Facet.{Part, out_of_range, sliver, used, shortest}
use Rattle.sums.specs.inner.Prepared.{no_triangle, facet_by, part_by, with_root, part_in}
use Rattle.sums.specs.Totals.{no_totals, with_facet, with_part, totals_to}
use Rattle.sums.proofs.Parts.{has_root, no_length, no_part, no_part_yet}
use Rattle.surfaces.specs.Surfaces.{Bucket, normal_key}
use Rattle.surfaces.specs.inner.Index.{AddsArea}
use Rattle.surfaces.proofs.Gathering.{gathered_none}
use Rattle.surfaces.proofs.Keys.{length_put_le}
use Rattle.walk.specs.Walk.{with_surface, buckets_to}
use Rattle.walk.specs.inner.Steps.{Given, triangles_in, part_at, buckets_of, State, state, Takeable, Takes, Taken, Awaits, Underway}
use Rattle.walk.specs.inner.Counting.{is_facet, is_thin}
use Rattle.walk.specs.inner.Walks.{Walks}
use Rattle.walk.proofs.Counting.{parts_next, parts_all, neither_left, counts_all}

-- ---- a part is taken

module _ (m : ℕ) (pair : Thresholds) (p : Prepared) (s : State) where
  -- a part that adds nothing
  pub takes_out : p.in_range ≡ false → Takes m pair (part_by p) s s
  unfolding part_by with_part with_surface is_facet is_thin bit
  takes_out e = rw e (record { totals = refl; puts = λ w bs l g. (sym l, g); used = omega arith; sliver = omega arith })

  pub takes_sliver : p.in_range ≡ true → lt p.length shortest ≡ true
      → Takes m pair (part_by p) s (state s.index s.rows
      (record { totals = s.sums.totals; rows = s.sums.rows; used = s.sums.used; sliver = s.sums.sliver + 1 }))
  unfolding part_by with_part with_surface is_facet is_thin bit
  takes_sliver e h = rw (e, h) (record { totals = refl; puts = λ w bs l g. (sym l, g); used = omega arith; sliver = refl })

  -- a facet
  pub takes_used : (f : Facet) (t : List ℕ) (u : List Float) (n : ℕ) (a : Totals) → p.in_range ≡ true → lt p.length shortest ≡ false
      → f ≡ facet_by p
      → AddsArea m s.sums.rows (normal_key f.nx f.ny f.nz) f.area32 s.index t s.rows u n
      → a ≡ with_facet pair s.sums.totals f
      → Takes m pair (part_by p) s (state t u (record { totals = a; rows = n; used = s.sums.used + 1; sliver = s.sums.sliver }))
  unfolding part_by facet_by with_part with_surface is_facet is_thin bit
  takes_used f t u n a e h f-is p a-is = rw (e, h, ← f-is) (record { totals = a-is; puts = p.adds; used = refl; sliver = omega arith })

-- ---- no more rows than triangles

part_le : (bs : List Bucket) (p : Part) → length (with_surface bs p) ≤ length bs + 1
unfolding with_surface
part_le bs out_of_range = omega arith
part_le bs sliver = omega arith
part_le bs (used f) = length_put_le _ _ bs

buckets_le : (g : Given) (n : ℕ) → length (buckets_of g n) ≤ n
unfolding buckets_to
buckets_le g zero = omega arith
buckets_le g (suc n) = omega (arith, buckets_le g n, part_le (buckets_of g n) (part_at g n))

-- ---- one triangle gets its cross product, the one in front of it its root, and the one in front of that is taken

module _ (g : Given) where
  taken_next : (n : ℕ) (s r : State) → Taken g n s → Takes (triangles_in g) g.pair (part_at g n) s r → Taken g (suc n) r
  unfolding totals_to buckets_to
  taken_next n s r a b =
      let p = b.puts g.area (buckets_of g n) (sym a.rows) a.means in
      record {
        totals = b.totals ∙ ap (λ x. with_part g.pair x (part_at g n)) a.totals;
        rows = p.0;
        means = p.1;
        used = omega (arith, a.used, b.used, parts_next g is_facet n);
        sliver = omega (arith, a.sliver, b.sliver, parts_next g is_thin n);
      }

  -- a turn on which nothing is taken
  taken_still : (n : ℕ) (s r : State) → Taken g n s → Takes (triangles_in g) g.pair out_of_range s r → Taken g n r
  unfolding with_part with_surface is_facet is_thin bit
  taken_still n s r a b =
      let p = b.puts g.area (buckets_of g n) (sym a.rows) a.means in
      record {
        totals = b.totals ∙ a.totals;
        rows = p.0;
        means = p.1;
        used = omega (arith, a.used, b.used);
        sliver = omega (arith, a.sliver, b.sliver);
      }

  taken_awaited : (n : ℕ) (s r : State) (p : Part) → Awaits g n p → Taken g (n - 1) s → Takes (triangles_in g) g.pair p s r → Taken g n r
  unfolding Awaits
  taken_awaited zero s r p h a b = taken_still 0 s r a (rw h at b)
  taken_awaited (suc n) s r p h a b =
      let e : suc n - 1 ≡ n = omega arith in
      taken_next n s r (subst (λ (k : ℕ). Taken g k s) e a) (rw h at b)

  pub underway_none : (t : List ℕ) (a : Totals) (p q : Prepared) → t ≡ replicate (5 * triangles_in g) 0 → a ≡ no_totals → p ≡ no_triangle
      → q ≡ no_triangle
      → Underway g 0 (state t g.area (record { totals = a; rows = 0; used = 0; sliver = 0 })) p q
  unfolding Awaits totals_to buckets_to over_numbers sum_by
  underway_none t a p q e h p-is q-is =
      rw (e, h, p-is, q-is)
      (record {
        rooted = no_length;
        crossed = λ _. no_part_yet;
        prepared = λ _. no_part;
        taken = record { totals = refl; rows = refl; means = gathered_none (triangles_in g) g.area; used = refl; sliver = refl };
      })

  pub underway_next : (n : ℕ) (s r : State) (p p' q q' : Prepared) → n ≤ triangles_in g + 1 → Underway g n s p q
      → Takes (triangles_in g) g.pair (part_by p) s r
      → p' ≡ with_root q → (n < triangles_in g → part_in q' ≡ part_at g n) → Underway g (n + 1) r p' q'
  unfolding Awaits
  underway_next n s r p p' q q' h a b e f =
      let before : n - 2 ≡ n - 1 - 1 = omega arith in
      let behind : n - 1 ≡ suc n - 2 = omega arith in
      let same : n ≡ suc n - 1 = omega arith in
      rw (add-one n, e)
      (record {
        rooted = has_root q;
        crossed = λ l. f (omega (arith, l));
        prepared = λ l. subst (λ (k : ℕ). Awaits g k (part_in q)) same (a.crossed (omega (arith, l)));
        taken =
            subst (λ (k : ℕ). Taken g k r) behind
            (taken_awaited (n - 1) s r (part_by p) (a.prepared (omega arith)) (subst (λ (k : ℕ). Taken g k s) before a.taken) b);
      })

  -- there is room for one more
  pub ready : (n : ℕ) (s : State) → triangles_in g ≤ 32768 → length s.index ≡ 5 * triangles_in g
      → 4 * triangles_in g ≤ length s.rows → n < triangles_in g
      → Taken g n s
      → Takeable (triangles_in g) s.sums s.index s.rows
  ready n s small words room left a =
      let all = parts_all g n in
      record {
        row =
            record {
              small = small;
              words = words;
              room = room;
              left = omega (arith, left, a.rows, buckets_le g n);
              means = (g.area, buckets_of g n, sym a.rows, a.means);
            };
        used = omega (arith, small, left, a.used, all);
        sliver = omega (arith, small, left, a.sliver, all);
      }

  -- the walk as a whole
  module _ (s : State) (a : Taken g (triangles_in g) s) where
    pub none_left : s.sums.used + s.sums.sliver ≤ triangles_in g
    none_left = neither_left g s.sums.used s.sums.sliver a.used a.sliver

    pub walks : Walks g.vs g.o g.pair g.ids g.area
        (record {
          totals = s.sums.totals;
          rows = s.sums.rows;
          counts =
              record {
                used = s.sums.used;
                out_of_range = triangles_in g - s.sums.used - s.sums.sliver;
                sliver = s.sums.sliver;
              };
        })
        s.rows
    walks =
        record {
          totals = a.totals;
          count = a.rows;
          few = omega (arith, a.rows, buckets_le g (triangles_in g));
          surfaces = a.means.filled;
          counts = counts_all g s.sums.used s.sums.sliver a.used a.sliver;
        }
