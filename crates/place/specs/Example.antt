-- The premise can be met: by any integers in the range that are moved within it. One such mesh, with a real move, is a closed one.
use Rattle.std.specs.Prelude.{◌≡◌, ◌≢◌, Bool, true, ◌&&◌, List, [], ◌∷◌, ◌≤◌, T, leb, ℤ, pos, negsuc, nat_abs, ◌+ℤ◌, length, Float}
use Rattle.std.specs.Float.{binary32}
use Rattle.std.specs.Float.Ieee.{of_int}
use Rattle.ids.specs.Examples.{tetrahedron}
use Rattle.sums.specs.Box.{box}
use Rattle.sums.specs.Editions.{thresholds1}
use Rattle.cells.specs.Cells.{cell_at}
use Rattle.weld.specs.Weld.{epsilon_of, inverse}
use Rattle.verdict.specs.declared.Quality.{Quality}
use Rattle.qto.specs.Full.{distance, record_of}
use Rattle.place.specs.Moved.{Moved, millimetre, unit_enough}

-- a vertex of integers
pub record Point : Type 0 where
  pub x : ℤ
  pub y : ℤ
  pub z : ℤ

abbrev pub whole_point : ℤ → ℤ → ℤ → Point
whole_point x y z = record { x = x; y = y; z = z }

-- each moved
unfoldable pub shift : ℤ → ℤ → ℤ → List Point → List Point
shift dx dy dz [] = []
shift dx dy dz (p ∷ ps) = whole_point (p.x +ℤ dx) (p.y +ℤ dy) (p.z +ℤ dz) ∷ shift dx dy dz ps

-- the coordinates one after the other, and some integers left over
unfoldable pub integers : List Point → List ℤ → List ℤ
integers [] left = left
integers (p ∷ ps) left = p.x ∷ p.y ∷ p.z ∷ integers ps left

-- as f32
unfoldable pub floats : List ℤ → List Float
floats [] = []
floats (z ∷ zs) = of_int binary32 z ∷ floats zs

unfoldable pub integers_fit : List ℤ → Bool
integers_fit [] = true
integers_fit (z ∷ zs) = leb (nat_abs z) 16777216 && integers_fit zs

-- what is left over may be any two, one or none, and others there than here (`integers_meet`)
abbrev pub IntegersMeet : Type 0
IntegersMeet =
    (dx dy dz : ℤ) (ps : List Point) (left left' : List ℤ) → length left ≤ 2 → length left' ≡ length left
    → T (integers_fit (integers ps left)) → T (integers_fit (integers (shift dx dy dz ps) left'))
    → Moved dx dy dz (floats (integers ps left)) (floats (integers (shift dx dy dz ps) left'))

abbrev pub corner_points : List Point
corner_points =
    whole_point (pos 0) (pos 0) (pos 0) ∷ whole_point (pos 2) (pos 0) (pos 0) ∷ whole_point (pos 0) (pos 2) (pos 0)
    ∷ whole_point (pos 0) (pos 0) (pos 2) ∷ []

-- with a 1 left over
abbrev pub here : List ℤ
here = integers corner_points (pos 1 ∷ [])

-- moved by 16,777,214, -16,777,216 and -7: to both ends of the range. What is left over is a -5, so it is not moved with its axis
abbrev pub there : List ℤ
there = integers (shift (pos 16777214) (negsuc 16777215) (negsuc 6) corner_points) (negsuc 4 ∷ [])

-- (`real_move`)
pub record RealMove : Type 0 where
  pub moved : Moved (pos 16777214) (negsuc 16777215) (negsuc 6) (floats here) (floats there)
  pub unit : T (unit_enough millimetre)
  pub closed : (record_of (floats here) tetrahedron millimetre thresholds1).mesh_quality ≡ Quality.Closed
  -- what does show: a corner of the box, and the weld's cell of a vertex. So neither may come into the record or stay in an area
  pub corner_shows : (box (floats there)).xmin ≢ (box (floats here)).xmin
  pub cell_shows : cell_at (floats there) (inverse (epsilon_of distance millimetre)) 0 ≢ cell_at (floats here)
      (inverse (epsilon_of distance millimetre)) 0
