-- A sum does not hang on the order of its two terms. Assumes nothing.
use mathlib.Core.Path.{◌≡◌, refl, sym, ◌∙◌}
use mathlib.Core.Bool.{Bool, true, false, beq, cond, and-true, and-false}
use Prim.Native.Nat.{ℕ, ◌-◌, ◌*◌, ◌<◌}
use native.Mathlib.Nat.{add_comm, mul_comm, mul-pos}
use native.Mathlib.Decide.{dec_lt}
use native.Mathlib.Omega.{arith}
use borrow.Author.Tests.{lt-ltb, le-ltb}
use lib.IntN.{pos}
use lib.Ieee.{Float, nan, inf, fin, Format, up, down, round, sum, add}
use lib.Ieee.Fits.{down_pos}
use Rattle.ieee.proofs.Values.OneFloat.{round_zero}

-- ---- ±a / c and ±b / c, of unlike signs
module _ (f : Format) (c : ℕ) (C : 0 < c) (s t : Bool) (a b : ℕ) (u : beq s t ≡ false) where
  pub sum_less : a < b → sum f s a t b c ≡ round f t (b - a) c
  unfolding sum
  sum_less h = rw (u, lt-ltb a b h)

  pub sum_more : b < a → sum f s a t b c ≡ round f s (a - b) c
  unfolding sum
  sum_more h = rw (u, le-ltb a b (omega arith), lt-ltb b a h, and-true s)

  pub sum_none : a ≡ b → sum f s a t b c ≡ fin false 0 (pos 0)
  unfolding sum
  sum_none h =
      let none : a - b ≡ 0 = omega arith in
      rw (u, le-ltb a b (omega arith), le-ltb b a (omega arith), and-false s, none) (round_zero f false c C)

module _ (f : Format) (c : ℕ) (C : 0 < c) (a b : ℕ) where
  apart_comm : (s t : Bool) → beq s t ≡ false → beq t s ≡ false → sum f s a t b c ≡ sum f t b s a c
  apart_comm s t u v =
      elim (dec_lt a b) [
        | yes h ↦ sum_less f c C s t a b u h ∙ sym (sum_more f c C t s b a v h)
        | no h ↦
            elim (dec_lt b a) [
              | yes k ↦ sum_more f c C s t a b u k ∙ sym (sum_less f c C t s b a v k)
              | no k ↦ sum_none f c C s t a b u (omega arith) ∙ sym (sum_none f c C t s b a v (omega arith))
            ]
      ]

  sum_comm : (s t : Bool) → sum f s a t b c ≡ sum f t b s a c
  unfolding sum
  sum_comm true true = rw (add_comm a b)
  sum_comm true false = apart_comm true false refl refl
  sum_comm false true = apart_comm false true refl refl
  sum_comm false false = rw (add_comm a b)

-- ---- floats
add_nan : (f : Format) (x : Float) → add f x nan ≡ nan
unfolding add
add_nan f nan = refl
add_nan f (inf s) = refl
add_nan f (fin s m e) = refl

inf_comm : (s t : Bool) → cond (beq s t) (inf s) nan ≡ cond (beq t s) (inf t) nan
inf_comm true true = refl
inf_comm true false = refl
inf_comm false true = refl
inf_comm false false = refl

pub add_commutes : (f : Format) (x y : Float) → add f x y ≡ add f y x
unfolding add
add_commutes f nan y = sym (add_nan f y)
add_commutes f (inf s) nan = refl
add_commutes f (inf s) (inf t) = inf_comm s t
add_commutes f (inf s) (fin t n d) = refl
add_commutes f (fin s m e) nan = refl
add_commutes f (fin s m e) (inf t) = refl
add_commutes f (fin s m e) (fin t n d) =
    rw (mul_comm (down d) (down e)) (sum_comm f (down e * down d) (mul-pos (down_pos e) (down_pos d)) (m * up e * down d)
    (n * up d * down e) s t)
