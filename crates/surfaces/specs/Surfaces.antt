-- Surfaces (01; 000, `quantize_normal` and the buckets): the area of each key of a normal, in the order in which the keys come.
use Rattle.std.specs.Prelude.{Bool, cond, ◌&&◌, List, [], ◌∷◌, ℤ, from_bits, Float}
use Rattle.std.specs.Float.{binary32}
use Rattle.std.specs.Float.Ieee.{of_int, to_signed}
use Rattle.ieee.specs.Integral.{half_away}
use Rattle.ieee.specs.Single.{◌⊕◌, ◌⊗◌, ◌⊘◌, nought}
use Rattle.ieee.specs.SameInteger.{same_integer}
use Rattle.rows.specs.declared.PlanarSurface.{PlanarSurface}
use Rattle.surfaces.specs.declared.Key.{Key}

abbrev pub ten : Float
ten = from_bits binary32 0x4120_0000

-- ---- keys

-- a component of a unit normal: times 10, half away from zero, as an i32
unfoldable pub tenths : Float → ℤ
tenths c = to_signed 31 (half_away binary32 (c ⊗ ten))

unfoldable pub normal_key : Float → Float → Float → Key
normal_key nx ny nz = record { x = tenths nx; y = tenths ny; z = tenths nz }

unfoldable pub same_key : Key → Key → Bool
same_key k l = same_integer k.x l.x && (same_integer k.y l.y && same_integer k.z l.z)

-- ---- the area of each

pub record Bucket : Type 0 where
  pub key : Key
  pub area : Float

-- an area more for a key, in f32: a new key comes last, and starts at 0
unfoldable pub add_area : Key → Float → List Bucket → List Bucket
add_area k a [] = record { key = k; area = nought ⊕ a } ∷ []
add_area k a (b ∷ bs) = cond (same_key k b.key) (record { key = b.key; area = b.area ⊕ a } ∷ bs) (b ∷ add_area k a bs)

-- ---- as rows: the area, and the key over 10

abbrev pub tenth : ℤ → Float
tenth z = of_int binary32 z ⊘ ten

abbrev pub row_of : Bucket → PlanarSurface
row_of b = record { area = b.area; nx = tenth b.key.x; ny = tenth b.key.y; nz = tenth b.key.z }

unfoldable pub rows : List Bucket → List PlanarSurface
rows [] = []
rows (b ∷ bs) = row_of b ∷ rows bs
