-- What a cell's greatest number by any triangle says: above 0 where the cell is covered, 1 where it is on the rim. Assumes nothing.
use mathlib.Core.Path.{◌≡◌, refl}
use mathlib.Core.Bool.{Bool, not, ◌&&◌, ◌||◌}
use mathlib.Core.List.{List}
use Prim.Native.Nat.{ℕ, zero, suc, max, ◌<◌}
use native.Mathlib.Omega.{arith}
use native.Mathlib.Decide.{dec_lt, ℕ_discrete}
use lib.Dec.{ltb, eqb}
use lib.Ieee.{Float}
use borrow.Author.Tests.{lt-ltb, le-ltb, eq-eqb, ne_eqb}
use Rattle.ids.specs.Triangles.{triangle, triangle_count}
use Rattle.grid.specs.declared.Grid.{Grid}
use Rattle.grid.specs.declared.Place.{Place}
use Rattle.grid.specs.Point.{not_outside, is_inside, place_number}
use Rattle.paint.specs.Covered.{lies, some, covered, rim}
use Rattle.paint.specs.inner.Painted.{most_of, cell_number}

-- ---- the three numbers

pub most_two : (p : Place) → place_number p < 3
unfolding place_number
most_two Place.Inside = omega arith
most_two Place.OnEdge = omega arith
most_two Place.Outside = omega arith

above_zero : (p : Place) → ltb 0 (place_number p) ≡ not_outside p
unfolding place_number not_outside
above_zero Place.Inside = refl
above_zero Place.OnEdge = refl
above_zero Place.Outside = refl

above_one : (p : Place) → ltb 1 (place_number p) ≡ is_inside p
unfolding place_number is_inside
above_one Place.Inside = refl
above_one Place.OnEdge = refl
above_one Place.Outside = refl

one_between : (n : ℕ) → eqb n 1 ≡ ltb 0 n && not (ltb 1 n)
one_between n =
    elim (dec_lt 1 n) [
      | yes a ↦ rw (ne_eqb n 1 (λ e. omega arith), lt-ltb 0 n (omega arith), lt-ltb 1 n a)
      | no a ↦ elim (ℕ_discrete n 1) [
        | yes b ↦ rw (eq-eqb n 1 b, lt-ltb 0 n (omega arith), le-ltb 1 n (omega arith))
        | no b ↦ rw (ne_eqb n 1 b, le-ltb 0 n (omega arith))
      ]
    ]

-- ---- the greatest of several is above c where one of them is

above_max : (c a b : ℕ) → ltb c (max a b) ≡ ltb c a || ltb c b
above_max c a b =
    elim (dec_lt c a) [
      | yes l ↦ rw (lt-ltb c a l, lt-ltb c (max a b) (omega arith))
      | no l ↦ elim (dec_lt c b) [
        | yes m ↦ rw (le-ltb c a (omega arith), lt-ltb c b m, lt-ltb c (max a b) (omega arith))
        | no m ↦ rw (le-ltb c a (omega arith), le-ltb c b (omega arith), le-ltb c (max a b) (omega arith))
      ]
    ]

above_most : (c : ℕ) (f : ℕ → ℕ) (h : ℕ → Bool) → ((t : ℕ) → ltb c (f t) ≡ h t) → (n : ℕ) → ltb c (most_of f n) ≡ some h n
unfolding most_of some
above_most c f h e zero = le-ltb c 0 (omega arith)
above_most c f h e (suc n) = rw (above_max c (most_of f n) (f n), above_most c f h e n, e n)

module _ (vs : List Float) (u v : ℕ) (g : Grid) (ids : List ℕ) (i j : ℕ) where
  abbrev at : ℕ → Place
  at t = lies vs u v g (triangle ids t) i j

  pub number_covered : ltb 0 (cell_number vs u v g ids i j) ≡ covered vs u v g ids i j
  unfolding cell_number covered
  number_covered = above_most 0 _ _ (λ t. above_zero (at t)) (triangle_count ids)

  pub number_rim : eqb (cell_number vs u v g ids i j) 1 ≡ rim vs u v g ids i j
  unfolding cell_number rim covered
  number_rim =
      rw (
        one_between (most_of (λ t. place_number (at t)) (triangle_count ids)),
        above_most 0 _ (λ t. not_outside (at t)) (λ t. above_zero (at t)) (triangle_count ids),
        above_most 1 _ (λ t. is_inside (at t)) (λ t. above_one (at t)) (triangle_count ids),
      )
