-- Demand 3's premise: a mesh of whole numbers, and the same mesh moved by a whole number per axis.
use Rattle.std.specs.Prelude.{◌≡◌, Bool, true, ◌&&◌, List, [], ◌∷◌, ℕ, ◌≤◌, ◌<◌, T, ℤ, nat_abs, ◌+ℤ◌, length, Float}
use Rattle.std.specs.Float.{binary32}
use Rattle.std.specs.Float.Ieee.{le, of_bits, to_signed, whole}
use Rattle.ieee.specs.WholeNumber.{IsWhole}
use Rattle.vertices.specs.Vertices.{vertex_count, coordinate}

-- a whole number from -16,777,216 to 16,777,216, and no -0: the kit's test for the whole numbers that f32 counts without a gap
abbrev pub is_whole : Float → Bool
is_whole x = whole binary32 x

-- which whole number it is: Rust's `x as i64`
abbrev pub whole_of : Float → ℤ
whole_of x = to_signed 63 x

-- what the two say: x has exactly the value of an integer of such a size, and its sign on a zero too (`whole_tells`, `whole_told`)
pub record WholeTells (x : Float) : Type 0 where
  pub is : IsWhole x (whole_of x)
  pub most : nat_abs (whole_of x) ≤ 16777216

unfoldable pub all_whole : List Float → Bool
all_whole [] = true
all_whole (x ∷ vs) = is_whole x && all_whole vs

-- on one axis every vertex is d further
abbrev pub Further : ℤ → ℕ → List Float → List Float → Type 0
Further d axis vs vs' = (v : ℕ) → v < vertex_count vs → whole_of (coordinate vs' axis v) ≡ whole_of (coordinate vs axis v) +ℤ d

-- the floats of a mesh, and those of the same mesh moved
pub record Moved (dx dy dz : ℤ) (vs vs' : List Float) : Type 0 where
  pub lengths : length vs' ≡ length vs
  -- every float is whole, also one or two that are left over behind the last complete vertex: refusal 4 looks at every float, so a
  -- NaN there would show. Nothing else looks at what is left over, so it need not move: it may be any other whole number
  pub before : T (all_whole vs)
  pub after : T (all_whole vs')
  -- and every vertex is moved by the same three whole numbers
  pub x : Further dx 0 vs vs'
  pub y : Further dy 1 vs vs'
  pub z : Further dz 2 vs vs'

-- 0.001: the f32 nearest to it
abbrev pub millimetre : Float
millimetre = of_bits binary32 0x3a83_126f

-- a unit of at least that; no NaN is
abbrev pub unit_enough : Float → Bool
unit_enough u = le millimetre u
