-- What a used triangle adds is found of three corners from 0 to 2^34, where the mesh passes refusal 4: coordinates and box are within
-- 2^33, and the origin is the least of them. Their sides are within 2^35, their cross product within 2^71. Assumes nothing.
use Rattle.std.proofs.Common.{◌≡◌, ℕ, suc, ◌+◌, ◌^◌, ◌<◌, ◌≤◌, Bool, true, false, cond, T, List, refl, arith, lit≤, pow_mono}
use lib.Ieee.{Float, binary64, emax, lt}
use Rattle.ieee.specs.Double.{◌⊞◌, ◌⊟◌, ◌⊠◌}
use Rattle.ids.specs.Triangles.{Triangle}
use Rattle.vertices.specs.Vertices.{vertex_count, coordinate, corners_in_range}
use Rattle.sums.specs.declared.triangle.Facet.{Facet}
use Rattle.sums.specs.Box.{lowest, box_to, box, origin}
use Rattle.sums.specs.Facet.{at, minus, cross, dot, corner, rebased_corners, normal, size, shortest, facet_of, out_of_range, sliver}
use Rattle.sums.specs.Facet.{used}
use Rattle.sums.specs.Facet.{part_of, rebased, part}
use Rattle.sums.specs.Fine.{all_fine, fine}
use Rattle.sums.proofs.FineBoxes.{box_fine, coordinate_fine, fine_within, lowest_le}
use Rattle.sums.proofs.Parts.{corners_are}
use Rattle.sums.proofs.Sides.{sub_sides}
use Rattle.sums.proofs.VolumeTerm.{Octant, Upto}
use Rattle.sums.proofs.Within.{Within, within_both, within_most, within_mul, within_sub}

-- ---- three numbers within b
pub record Three (b : ℕ) (u : List Float) : Type 0 where
  pub x : Within b (at u 0)
  pub y : Within b (at u 1)
  pub z : Within b (at u 2)

minus_three : (k : ℕ) (u v : List Float) → suc k ≤ emax binary64 → Three (2 ^ k) u → Three (2 ^ k) v → Three (2 ^ suc k) (minus u v)
minus_three k u v K p q =
    record {
      x = within_sub binary64 k (at u 0) (at v 0) K p.x q.x;
      y = within_sub binary64 k (at u 1) (at v 1) K p.y q.y;
      z = within_sub binary64 k (at u 2) (at v 2) K p.z q.z;
    }

-- a component of the cross product
crossed : (k : ℕ) (a b c d : Float) → suc (k + k) ≤ emax binary64 → Within (2 ^ k) a → Within (2 ^ k) b → Within (2 ^ k) c
    → Within (2 ^ k) d
    → Within (2 ^ suc (k + k)) (a ⊠ b ⊟ c ⊠ d)
crossed k a b c d K p q r s =
    within_sub binary64 (k + k) (a ⊠ b) (c ⊠ d) K (within_mul binary64 k k a b (omega arith) p q)
    (within_mul binary64 k k c d (omega arith) r s)

cross_three : (k : ℕ) (u v : List Float) → suc (k + k) ≤ emax binary64 → Three (2 ^ k) u → Three (2 ^ k) v
    → Three (2 ^ suc (k + k)) (cross u v)
cross_three k u v K p q =
    record {
      x = crossed k (at u 1) (at v 2) (at u 2) (at v 1) K p.y q.z p.z q.y;
      y = crossed k (at u 2) (at v 0) (at u 0) (at v 2) K p.z q.x p.x q.z;
      z = crossed k (at u 0) (at v 1) (at u 1) (at v 0) K p.x q.y p.y q.x;
    }

pub dot_three : (k l : ℕ) (u v : List Float) → suc (suc (k + l)) ≤ emax binary64 → Three (2 ^ k) u → Three (2 ^ l) v
    → Within (2 ^ suc (suc (k + l))) (dot u v)
dot_three k l u v K p q =
    within_both binary64 (suc (k + l)) (at u 0 ⊠ at v 0 ⊞ at u 1 ⊠ at v 1) (at u 2 ⊠ at v 2) K
    (within_both binary64 (k + l) (at u 0 ⊠ at v 0) (at u 1 ⊠ at v 1) (omega arith) (product (at u 0) (at v 0) p.x q.x)
    (product (at u 1) (at v 1) p.y q.y))
    (within_most (2 ^ (k + l)) (2 ^ suc (k + l)) (at u 2 ⊠ at v 2) (pow_mono (omega arith)) (product (at u 2) (at v 2) p.z q.z))
  where
    product : (a b : Float) → Within (2 ^ k) a → Within (2 ^ l) b → Within (2 ^ (k + l)) (a ⊠ b)
    product a b = within_mul binary64 k l a b (omega arith)

-- ---- a triangle with three corners of numbers from 0 to 2^34
pub record Small (t : List (List Float)) : Type 0 where
  pub a : Octant (corner t 0)
  pub b : Octant (corner t 1)
  pub c : Octant (corner t 2)

octant_three : (u : List Float) → Octant u → Three (2 ^ 34) u
octant_three u p = record { x = p.x.within; y = p.y.within; z = p.z.within }

pub normal_three : (t : List (List Float)) → Small t → Three (2 ^ 71) (normal t)
unfolding normal
normal_three t p =
    cross_three 35 (minus (corner t 1) (corner t 0)) (minus (corner t 2) (corner t 0)) (lit≤ tt)
    (side (corner t 1) p.b) (side (corner t 2) p.c)
  where
    side : (u : List Float) → Octant u → Three (2 ^ 35) (minus u (corner t 0))
    side u q = minus_three 34 u (corner t 0) (lit≤ tt) (octant_three u q) (octant_three (corner t 0) p.a)

-- ---- of a triangle of a mesh
rebased_octant : (vs : List Float) (v : ℕ) → T (all_fine vs) → v < vertex_count vs → Octant (rebased vs (origin (box vs)) v)
unfolding rebased box_to
rebased_octant vs v h l =
    let b = box_fine vs h (omega arith) in
    record {
      x = less 0 (omega arith) b.xmin;
      y = less 1 (omega arith) b.ymin;
      z = less 2 (omega arith) b.zmin;
    }
  where
    less : (axis : ℕ) → axis < 3 → T (fine (lowest vs axis (vertex_count vs)))
        → Upto (2 ^ 34) (coordinate vs axis v ⊟ lowest vs axis (vertex_count vs))
    less axis a p =
        let x = coordinate vs axis v in
        let o = lowest vs axis (vertex_count vs) in
        let X = fine_within x (coordinate_fine vs axis v h a l) in
        let O = fine_within o p in
        record {
          within = within_sub binary64 33 x o (lit≤ tt) X O;
          above = (sub_sides binary64 x o X.finite_is O.finite_is).1 (lowest_le vs h axis a (vertex_count vs) v (omega arith) l);
        }

pub small_at : (vs : List Float) (t : Triangle) → T (all_fine vs) → corners_in_range vs t ≡ true
    → Small (rebased_corners vs (origin (box vs)) t)
small_at vs t h r =
    let in_range = corners_are vs t r in
    record {
      a = rebased_octant vs t.a h in_range.a;
      b = rebased_octant vs t.b h in_range.b;
      c = rebased_octant vs t.c h in_range.c;
    }

-- what all facets of such corners have whose cross product is long enough, a used one has
module _ (P : Facet → Type 0)
    (has : (t : List (List Float)) → Small t → lt (size (normal t)) shortest ≡ false → P (facet_of t (normal t) (size (normal t)))) where
  used_has : (t : List (List Float)) (f : Facet) → Small t → part_of t ≡ used f → P f
  unfolding part_of
  used_has t f p e = go (lt (size (normal t)) shortest) refl e
    where
      go : (b : Bool) → lt (size (normal t)) shortest ≡ b → cond b sliver (used (facet_of t (normal t) (size (normal t)))) ≡ used f → P f
      go true h e = let no : ◌≡◌ {A = ℕ} 0 1 = cc in absurd (omega arith)
      go false h e =
          let same : facet_of t (normal t) (size (normal t)) ≡ f = cc in
          rw (← same) (has t p h)

  pub part_has : (vs : List Float) (t : Triangle) (f : Facet) → T (all_fine vs) → part vs (origin (box vs)) t ≡ used f → P f
  unfolding part
  part_has vs t f h e = go (corners_in_range vs t) refl e
    where
      go : (b : Bool) → corners_in_range vs t ≡ b → cond b (part_of (rebased_corners vs (origin (box vs)) t)) out_of_range ≡ used f → P f
      go false r e = let no : ◌≡◌ {A = ℕ} 0 1 = cc in absurd (omega arith)
      go true r e = used_has (rebased_corners vs (origin (box vs)) t) f (small_at vs t h r) e
