-- The area of a used triangle is a number that is not below zero, nor -0, where the mesh passes refusal 4: its cross product is of finite
-- numbers, so no square is a NaN. Nor is what it adds large: its area is within 2^72, its volume term within 2^103. Assumes nothing.
use Rattle.std.proofs.Common.{◌≡◌, ℕ, ◌^◌, true, not, T, List, lit≤}
use lib.Ieee.{Float, binary32, binary64, is_nan, of_bits}
use lib.Ieee.Fits.{add-fits}
use Rattle.ieee.specs.Rounded.{rounded}
use Rattle.ieee.specs.Double.{◌⊞◌, ◌⊠◌}
use Rattle.ids.specs.Triangles.{Triangle}
use Rattle.vertices.specs.Vertices.{corners_in_range}
use Rattle.sums.specs.declared.triangle.Facet.{Facet}
use Rattle.sums.specs.Box.{box, origin}
use Rattle.sums.specs.Facet.{used, at, dot, corner, normal, size, tetra, half64, facet_of, part, rebased_corners}
use Rattle.sums.specs.inner.Plus.{plus}
use Rattle.sums.specs.Fine.{all_fine}
use Rattle.sums.proofs.Plus.{plus_add, plus_mul_left, plus_root, plus_rounded, plus_square}
use Rattle.sums.proofs.Roots.{within_root}
use Rattle.sums.proofs.Small.{Three, Small, dot_three, normal_three, part_has, small_at}
use Rattle.sums.proofs.VolumeTerm.{volume_within}
use Rattle.sums.proofs.Within.{Within, power_value, within_mul, within_number, within_rounded}

-- ---- not below zero
pub dot_plus : (b : ℕ) (n : List Float) → Three b n → T (plus (dot n n))
dot_plus b n p =
    let x = at n 0 in
    let y = at n 1 in
    let z = at n 2 in
    plus_add binary64 (x ⊠ x ⊞ y ⊠ y) (z ⊠ z)
    (plus_add binary64 (x ⊠ x) (y ⊠ y) (plus_square binary64 x (within_number b x p.x))
    (plus_square binary64 y (within_number b y p.y)))
    (plus_square binary64 z (within_number b z p.z))

size_plus : (b : ℕ) (n : List Float) → Three b n → T (plus (size n))
unfolding size
size_plus b n p = plus_root binary64 (dot n n) (dot_plus b n p)

area_plus : (l : Float) → T (plus l) → T (plus (rounded binary32 (half64 ⊠ l)))
unfolding of_bits
area_plus l p = plus_rounded binary32 (half64 ⊠ l) (plus_mul_left binary64 half64 l tt p)

facet_plus : (t : List (List Float)) → Small t → T (plus (facet_of t (normal t) (size (normal t))).area32)
unfolding facet_of
facet_plus t p = area_plus (size (normal t)) (size_plus (2 ^ 71) (normal t) (normal_three t p))

pub part_plus : (vs : List Float) (t : Triangle) (f : Facet) → T (all_fine vs) → part vs (origin (box vs)) t ≡ used f → T (plus f.area32)
part_plus = part_has (λ f. T (plus f.area32)) (λ t p l. facet_plus t p)

-- ---- nor large
pub size_within : (n : List Float) → Three (2 ^ 71) n → Within (2 ^ 72) (size n)
unfolding size
size_within n p =
    within_root binary64 72 (lit≤ tt) (dot n n) (add-fits binary64 _ _) (dot_plus (2 ^ 71) n p) (dot_three 71 71 n n (lit≤ tt) p p)

-- so the length of a cross product is a number
pub size_number : (vs : List Float) (t : Triangle) → T (all_fine vs) → corners_in_range vs t ≡ true
    → T (not (is_nan (size (normal (rebased_corners vs (origin (box vs)) t)))))
size_number vs t h r =
    let corners = rebased_corners vs (origin (box vs)) t in
    within_number (2 ^ 72) (size (normal corners)) (size_within (normal corners) (normal_three corners (small_at vs t h r)))

half_within : Within (2 ^ 0) half64
unfolding of_bits
half_within = record { finite_is = tt; small = lit≤ tt }

area_within : (l : Float) → Within (2 ^ 72) l → Within (2 ^ 72) (half64 ⊠ l)
area_within l = within_mul binary64 0 72 half64 l (lit≤ tt) half_within

tetra_within : (t : List (List Float)) → Small t → Within (2 ^ 103) (tetra t)
unfolding tetra
tetra_within t p = volume_within (corner t 0) (corner t 1) (corner t 2) p.a p.b p.c

pub record Adds (f : Facet) : Type 0 where
  pub area : Within (2 ^ 72) f.area
  pub area32 : Within (2 ^ 72) f.area32
  pub volume : Within (2 ^ 103) f.volume

facet_within : (t : List (List Float)) → Small t → Adds (facet_of t (normal t) (size (normal t)))
unfolding facet_of
facet_within t p =
    let l = size (normal t) in
    let a = area_within l (size_within (normal t) (normal_three t p)) in
    record {
      area = a;
      area32 = within_rounded binary32 (2 ^ 72) (power_value binary32 72 (lit≤ tt)) (half64 ⊠ l) a;
      volume =
          tetra_within t p;
    }

pub part_within : (vs : List Float) (t : Triangle) (f : Facet) → T (all_fine vs) → part vs (origin (box vs)) t ≡ used f → Adds f
part_within = part_has Adds (λ t p l. facet_within t p)
