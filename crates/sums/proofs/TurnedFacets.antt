-- A triangle with its last two corners swapped: the cross product is the opposite one, of the same length, and so are normal and volume
-- term; the areas are the same. Assumes nothing.
use Rattle.std.proofs.Common.{◌≡◌, Bool, true, false, cond, List, [], ◌∷◌, refl}
use lib.Ieee.{Float, binary32, binary64, lt}
use Rattle.ieee.specs.Double.{◌⊞◌, ◌⊟◌, ◌⊠◌, ◌⧄◌, one64}
use Rattle.ieee.specs.Number.{as_number, opposite}
use Rattle.ieee.proofs.Values.Negation.{mul_commutes}
use Rattle.ieee.proofs.Values.Opposite.{add_opposite, mul_opposite, mul_opposite_left, rounded_opposite, square_opposite, sub_opposite}
use Rattle.ids.specs.Triangles.{Triangle}
use Rattle.ids.specs.Reversed.{turned_triangle}
use Rattle.vertices.specs.Vertices.{corners_in_range}
use Rattle.vertices.proofs.Range.{corners_turned}
use Rattle.sums.specs.declared.triangle.Facet.{Facet}
use Rattle.sums.specs.Facet.{Part, out_of_range, sliver, used, at, minus, cross, dot, corner, normal, size, tetra, unit, facet_of}
use Rattle.sums.specs.Facet.{shortest, part_of, rebased_corners, part}

-- ---- three numbers and their opposites
pub record Opposed (n n' : List Float) : Type 0 where
  pub x : as_number (at n' 0) ≡ opposite (at n 0)
  pub y : as_number (at n' 1) ≡ opposite (at n 1)
  pub z : as_number (at n' 2) ≡ opposite (at n 2)

-- p ⊠ q ⊟ r ⊠ s, with the factors of v and of u each in the other's place
crossed : (p q r s : Float) → as_number (s ⊠ r ⊟ q ⊠ p) ≡ opposite (p ⊠ q ⊟ r ⊠ s)
crossed p q r s =
    rw (mul_commutes binary64 s r, mul_commutes binary64 q p) (sub_opposite binary64 (p ⊠ q) (r ⊠ s))

cross_opposed : (u v : List Float) → Opposed (cross u v) (cross v u)
cross_opposed u v =
    record {
      x = crossed (at u 1) (at v 2) (at u 2) (at v 1);
      y = crossed (at u 2) (at v 0) (at u 0) (at v 2);
      z = crossed (at u 0) (at v 1) (at u 1) (at v 0);
    }

same_size : (n n' : List Float) → Opposed n n' → size n' ≡ size n
unfolding size
same_size n n' o =
    rw (
      square_opposite binary64 (at n 0) (at n' 0) o.x,
      square_opposite binary64 (at n 1) (at n' 1) o.y,
      square_opposite binary64 (at n 2) (at n' 2) o.z,
    )

dot_opposed : (u n n' : List Float) → Opposed n n' → as_number (dot u n') ≡ opposite (dot u n)
dot_opposed u n n' o =
    add_opposite binary64 (at u 0 ⊠ at n 0 ⊞ at u 1 ⊠ at n 1) (at u 2 ⊠ at n 2) _ _
    (add_opposite binary64 (at u 0 ⊠ at n 0) (at u 1 ⊠ at n 1) _ _ (mul_opposite binary64 (at u 0) (at n 0) (at n' 0) o.x)
    (mul_opposite binary64 (at u 1) (at n 1) (at n' 1) o.y))
    (mul_opposite binary64 (at u 2) (at n 2) (at n' 2) o.z)

-- ---- a triangle
abbrev turned_corners : List (List Float) → List (List Float)
turned_corners t = corner t 0 ∷ corner t 2 ∷ corner t 1 ∷ []

normal_opposed : (t : List (List Float)) → Opposed (normal t) (normal (turned_corners t))
unfolding normal
normal_opposed t = cross_opposed (minus (corner t 1) (corner t 0)) (minus (corner t 2) (corner t 0))

turned_size : (t : List (List Float)) → size (normal (turned_corners t)) ≡ size (normal t)
turned_size t = same_size (normal t) (normal (turned_corners t)) (normal_opposed t)

tetra_opposed : (t : List (List Float)) → as_number (tetra (turned_corners t)) ≡ opposite (tetra t)
unfolding tetra
tetra_opposed t = dot_opposed (corner t 0) (cross (corner t 1) (corner t 2)) _ (cross_opposed (corner t 1) (corner t 2))

unit_opposed : (l x x' : Float) → as_number x' ≡ opposite x → as_number (unit l x') ≡ opposite (unit l x)
unit_opposed l x x' h = rounded_opposite binary32 (x ⊠ (one64 ⧄ l)) _ (mul_opposite_left binary64 x (one64 ⧄ l) x' h)

-- ---- its facet, and its part
pub record TurnedFacet (f f' : Facet) : Type 0 where
  pub area : f'.area ≡ f.area
  pub area32 : f'.area32 ≡ f.area32
  pub volume : as_number f'.volume ≡ opposite f.volume
  pub nx : as_number f'.nx ≡ opposite f.nx
  pub ny : as_number f'.ny ≡ opposite f.ny
  pub nz : as_number f'.nz ≡ opposite f.nz

facet_turned : (t : List (List Float)) (l : Float)
    → TurnedFacet (facet_of t (normal t) l) (facet_of (turned_corners t) (normal (turned_corners t)) l)
unfolding facet_of
facet_turned t l =
    let o = normal_opposed t in
    record {
      area = refl;
      area32 = refl;
      volume = tetra_opposed t;
      nx = unit_opposed l _ _ o.x;
      ny = unit_opposed l _ _ o.y;
      nz = unit_opposed l _ _ o.z;
    }

pub data TurnedPart : Part → Part → Type 0 where
  none : TurnedPart out_of_range out_of_range
  thin : TurnedPart sliver sliver
  turned : {f f' : Facet} → TurnedFacet f f' → TurnedPart (used f) (used f')

part_of_turned : (t : List (List Float)) → TurnedPart (part_of t) (part_of (turned_corners t))
unfolding part_of
part_of_turned t =
    rw (turned_size t) (go (lt (size (normal t)) shortest))
  where
    go : (b : Bool) → TurnedPart (cond b sliver (used (facet_of t (normal t) (size (normal t)))))
        (cond b sliver (used (facet_of (turned_corners t) (normal (turned_corners t)) (size (normal t)))))
    go true = thin
    go false = turned (facet_turned t (size (normal t)))

pub part_turned : (vs o : List Float) (t : Triangle) → TurnedPart (part vs o t) (part vs o (turned_triangle t))
unfolding part
part_turned vs o t = rw (corners_turned vs t) (go (corners_in_range vs t))
  where
    go : (b : Bool) → TurnedPart (cond b (part_of (rebased_corners vs o t)) out_of_range)
        (cond b (part_of (turned_corners (rebased_corners vs o t))) out_of_range)
    go true = part_of_turned (rebased_corners vs o t)
    go false = none

-- the length of the cross product, which tells a sliver
pub turned_length : (vs o : List Float) (t : Triangle)
    → size (normal (rebased_corners vs o (turned_triangle t))) ≡ size (normal (rebased_corners vs o t))
turned_length vs o t = turned_size (rebased_corners vs o t)
