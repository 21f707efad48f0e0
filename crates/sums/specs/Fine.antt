-- Refusal 4 of document 01 read the other way: the meshes that pass it.
use Rattle.std.specs.Prelude.{Bool, true, ◌&&◌, List, [], ◌∷◌, from_bits, Float}
use Rattle.std.specs.Float.{binary32}
use Rattle.std.specs.Float.Ieee.{le}
use Rattle.ieee.specs.Magnitude.{magnitude}

-- a coordinate that is finite and at most 2^33 in magnitude; a NaN is not, since `le` is false of it
abbrev pub fine : Float → Bool
fine x = le (magnitude x) (from_bits binary32 0x5000_0000)

-- every float of the list is
unfoldable pub all_fine : List Float → Bool
all_fine [] = true
all_fine (x ∷ vs) = fine x && all_fine vs
