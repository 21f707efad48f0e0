-- Triangles (01): what one triangle adds. Its corners are rebased in f64; each step is rounded once, as 000 writes it.
use Rattle.std.specs.Prelude.{ℕ, cond, List, [], ◌∷◌, from_bits, slice_index_or, Float}
use Rattle.std.specs.Float.{nan, binary32, binary64}
use Rattle.std.specs.Float.Ieee.{lt}
use Rattle.ieee.specs.Root.{root}
use Rattle.ieee.specs.Rounded.{rounded}
use Rattle.ieee.specs.Double.{◌⊞◌, ◌⊟◌, ◌⊠◌, ◌⧄◌, one64}
use Rattle.ids.specs.Triangles.{Triangle}
use Rattle.vertices.specs.Vertices.{coordinate, corners_in_range}
use Rattle.sums.specs.declared.triangle.Facet.{Facet}

-- ---- three numbers: x, y and z

abbrev pub at : List Float → ℕ → Float
at u i = slice_index_or u i nan

abbrev pub minus : List Float → List Float → List Float
minus u v = (at u 0 ⊟ at v 0) ∷ (at u 1 ⊟ at v 1) ∷ (at u 2 ⊟ at v 2) ∷ []

abbrev pub cross : List Float → List Float → List Float
cross u v = (at u 1 ⊠ at v 2 ⊟ at u 2 ⊠ at v 1) ∷ (at u 2 ⊠ at v 0 ⊟ at u 0 ⊠ at v 2) ∷ (at u 0 ⊠ at v 1 ⊟ at u 1 ⊠ at v 0) ∷ []

abbrev pub dot : List Float → List Float → Float
dot u v = at u 0 ⊠ at v 0 ⊞ at u 1 ⊠ at v 1 ⊞ at u 2 ⊠ at v 2

-- ---- a triangle: three corners of three coordinates

abbrev pub corner : List (List Float) → ℕ → List Float
corner t i = slice_index_or t i []

-- the cross product of the two sides that leave the first corner, its length, and a·(b×c)
unfoldable pub normal : List (List Float) → List Float
normal t = cross (minus (corner t 1) (corner t 0)) (minus (corner t 2) (corner t 0))

unfoldable pub size : List Float → Float
size n = root binary64 (dot n n)

unfoldable pub tetra : List (List Float) → Float
tetra t = dot (corner t 0) (cross (corner t 1) (corner t 2))

-- 1e-12 and 1/2
abbrev pub shortest : Float
shortest = from_bits binary64 0x3d71_9799_812d_ea11

abbrev pub half64 : Float
half64 = from_bits binary64 0x3fe0_0000_0000_0000

-- a component of the unit normal: times 1/length, to f32
abbrev pub unit : Float → Float → Float
unit length x = rounded binary32 (x ⊠ (one64 ⧄ length))

-- a triangle's facet, by its cross product n and that one's length: half the length, also to f32, the volume term and the unit normal
unfoldable pub facet_of : List (List Float) → List Float → Float → Facet
facet_of t n length =
    record {
      area = half64 ⊠ length;
      area32 = rounded binary32 (half64 ⊠ length);
      volume = tetra t;
      nx = unit length (at n 0);
      ny = unit length (at n 1);
      nz = unit length (at n 2);
    }

-- a triangle's part in the sums
pub data Part : Type 0 where
  out_of_range sliver : Part
  used : Facet → Part

-- under 1e-12 it is a sliver and is skipped
unfoldable pub part_of : List (List Float) → Part
part_of t = cond (lt (size (normal t)) shortest) sliver (used (facet_of t (normal t) (size (normal t))))

-- ---- a triangle of a mesh

-- vertex v less the origin o
unfoldable pub rebased : List Float → List Float → ℕ → List Float
rebased vs o v = (coordinate vs 0 v ⊟ at o 0) ∷ (coordinate vs 1 v ⊟ at o 1) ∷ (coordinate vs 2 v ⊟ at o 2) ∷ []

abbrev pub rebased_corners : List Float → List Float → Triangle → List (List Float)
rebased_corners vs o t = rebased vs o t.a ∷ rebased vs o t.b ∷ rebased vs o t.c ∷ []

-- its part: out of range, a sliver, or used
unfoldable pub part : List Float → List Float → Triangle → Part
part vs o t = cond (corners_in_range vs t) (part_of (rebased_corners vs o t)) out_of_range
