-- The point test (000, `point_in_triangle`; 02, A3): where a point of the plane lies by a triangle. f32, each step rounded once.
use Rattle.std.specs.Prelude.{ℕ, Bool, true, false, not, ◌||◌, Float}
use Rattle.std.specs.Float.Ieee.{lt, eq}
use Rattle.ieee.specs.Magnitude.{magnitude}
use Rattle.ieee.specs.Single.{◌⊖◌, ◌⊗◌, nought, tiny}
use Rattle.grid.specs.declared.Point.{Point}
use Rattle.grid.specs.declared.Flat.{Flat}
use Rattle.grid.specs.declared.Place.{Place}

-- the doubled signed area of the triangle p, q, r: on which side of the line from q to r the point p lies
unfoldable pub side : Point → Point → Point → Float
side p q r = (p.x ⊖ r.x) ⊗ (q.y ⊖ r.y) ⊖ (q.x ⊖ r.x) ⊗ (p.y ⊖ r.y)

-- some of three values is below 0, is above 0, is 0
abbrev pub some_negative : Float → Float → Float → Bool
some_negative d e f = lt d nought || (lt e nought || lt f nought)

abbrev pub some_positive : Float → Float → Float → Bool
some_positive d e f = lt nought d || (lt nought e || lt nought f)

abbrev pub some_zero : Float → Float → Float → Bool
some_zero d e f = eq d nought || (eq e nought || eq f nought)

-- by whether some is negative, some is positive, some is zero: outside where both signs occur, else on an edge where one is zero
unfoldable pub place_by : Bool → Bool → Bool → Place
place_by true true z = Place.Outside
place_by true false true = Place.OnEdge
place_by true false false = Place.Inside
place_by false p true = Place.OnEdge
place_by false p false = Place.Inside

unfoldable pub place_of : Float → Float → Float → Place
place_of d e f = place_by (some_negative d e f) (some_positive d e f) (some_zero d e f)

-- the three values are the sides of the point by a to b, b to c and c to a
unfoldable pub place : Point → Flat → Place
place p t = place_of (side p t.a t.b) (side p t.b t.c) (side p t.c t.a)

-- is it inside or on an edge?
unfoldable pub not_outside : Place → Bool
not_outside Place.Inside = true
not_outside Place.OnEdge = true
not_outside Place.Outside = false

-- is it inside, and on no edge?
unfoldable pub is_inside : Place → Bool
is_inside Place.Inside = true
is_inside Place.OnEdge = false
is_inside Place.Outside = false

-- a number for each case: the further in, the greater
unfoldable pub place_number : Place → ℕ
place_number Place.Outside = 0
place_number Place.OnEdge = 1
place_number Place.Inside = 2

-- does a triangle count? Not where its doubled area has a magnitude under 1e-12
unfoldable pub counts : Flat → Bool
counts t = not (lt (magnitude (side t.b t.c t.a)) tiny)
