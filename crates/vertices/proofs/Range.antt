-- The coordinates of the corners of a triangle in range are there. Assumes nothing.
use mathlib.Core.Path.{◌≡◌, refl}
use mathlib.Core.Bool.{Bool, true, false, ◌&&◌}
use Prim.Native.Nat.{ℕ, ◌+◌, ◌*◌, ◌<◌}
use mathlib.Core.List.{List}
use native.Mathlib.Omega.{arith}
use lib.Dec.{ltb}
use lib.ListN.{length}
use lib.Ieee.{Float}
use borrow.Author.Tests.{ltb-true}
use Rattle.ids.specs.Triangles.{Triangle}
use Rattle.ids.specs.Reversed.{turned_triangle}
use Rattle.vertices.specs.Vertices.{in_range, corners_in_range}

-- each corner of a triangle in range has its three coordinates
pub corners_below : (vs : List Float) (t : Triangle) → corners_in_range vs t ≡ true
    → (3 * t.a + 2 < length vs) × (3 * t.b + 2 < length vs) × (3 * t.c + 2 < length vs)
unfolding corners_in_range in_range
corners_below vs t e = all (ltb (3 * t.a + 2) n) (ltb (3 * t.b + 2) n) (ltb (3 * t.c + 2) n) refl refl refl e
  where
    n : ℕ
    n = length vs

    all : (x y z : Bool) → ltb (3 * t.a + 2) n ≡ x → ltb (3 * t.b + 2) n ≡ y → ltb (3 * t.c + 2) n ≡ z → x && (y && z) ≡ true
        → (3 * t.a + 2 < n) × (3 * t.b + 2 < n) × (3 * t.c + 2 < n)
    all true true true p q r e = (ltb-true _ _ p, ltb-true _ _ q, ltb-true _ _ r)
    all true true false p q r e = let no : ◌≡◌ {A = ℕ} 0 1 = cc in absurd (omega arith)
    all true false z p q r e = let no : ◌≡◌ {A = ℕ} 0 1 = cc in absurd (omega arith)
    all false y z p q r e = let no : ◌≡◌ {A = ℕ} 0 1 = cc in absurd (omega arith)

-- turned over, a triangle is in range where it was
pub corners_turned : (vs : List Float) (t : Triangle) → corners_in_range vs (turned_triangle t) ≡ corners_in_range vs t
unfolding corners_in_range
corners_turned vs t = last (in_range vs t.a) (in_range vs t.b) (in_range vs t.c)
  where
    last : (a b c : Bool) → a && (c && b) ≡ a && (b && c)
    last false b c = refl
    last true false false = refl
    last true false true = refl
    last true true false = refl
    last true true true = refl
