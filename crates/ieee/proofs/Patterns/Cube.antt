-- `cube_above` of two `f32` by their patterns. Assumes nothing.
use mathlib.Core.Path.{◌≡◌, refl, sym}
use mathlib.Core.Logic.{inl, inr}
use mathlib.Core.Bool.{Bool, true, false}
use Prim.Native.Nat.{ℕ, ◌*◌, ◌/◌, ◌%◌, ◌^◌, ◌≤◌, ◌<◌}
use native.Mathlib.Decide.{dec_lt}
use native.Mathlib.Nat.{eq-zero-or-pos}
use native.Mathlib.Omega.{arith}
use borrow.Author.Tests.{le-leb, lt-leb}
use lib.Dec.{leb, ltb}
use lib.Pow.{pow_pos}
use lib.Ieee.{binary32, of_bits}
use lib.Ieee.Exact.{HasValue}
use Rattle.ieee.specs.Cube.{cube_above}
use Rattle.ieee.specs.inner.Fields.{sized}
use Rattle.ieee.proofs.Values.Cube.{cube_of_inf, cube_of_minus, cube_of_minus_inf, cube_of_nan, cube_sizes, cube_to_inf, cube_to_nan}
use Rattle.ieee.proofs.Patterns.Fields.{read_inf, read_nan, read_value}

abbrev field : ℕ → ℕ
field b = b % 2 ^ 31 / 2 ^ 23

abbrev pub size_of : ℕ → ℕ
size_of b = sized binary32 (field b) (b % 2 ^ 23)

value : (b : ℕ) (s : Bool) → leb (2 ^ 31) b ≡ s → field b < 255 → HasValue (of_bits binary32 b) s (size_of b) (2 ^ 149)
value b s g h = rw (← g) (read_value binary32 b h)

module _ (a b : ℕ) where
  abbrev Answer : Bool → Type 0
  Answer r = r ≡ cube_above (of_bits binary32 a) (of_bits binary32 b)

  -- an infinity or a NaN on the right
  pub no_square : 0x7f800000 ≤ b % 2 ^ 31 → Answer false
  no_square h =
      elim (eq-zero-or-pos (b % 2 ^ 23)) [
        | inl z ↦ rw (read_inf binary32 b (omega arith) z) (sym (cube_to_inf (of_bits binary32 a) (leb (2 ^ 31) b)))
        | inr p ↦ rw (read_nan binary32 b (omega arith) p) (sym (cube_to_nan (of_bits binary32 a)))
      ]

  -- a minus or a NaN on the left
  pub no_cube : a < 2 ^ 32 → 0x7f800000 < a → Answer false
  no_cube l h =
      elim (dec_lt (field a) 255) [
        | yes k ↦
            sym (cube_of_minus (of_bits binary32 a) (of_bits binary32 b) (size_of a) (2 ^ 149)
            (value a true (le-leb (2 ^ 31) a (omega arith)) k))
        | no k ↦
            elim (eq-zero-or-pos (a % 2 ^ 23)) [
              | inl z ↦ rw (read_inf binary32 a (omega arith) z, le-leb (2 ^ 31) a (omega arith))
                  (sym (cube_of_minus_inf (of_bits binary32 b)))
              | inr p ↦ rw (read_nan binary32 a (omega arith) p) (sym (cube_of_nan (of_bits binary32 b)))
            ]
      ]

  pub infinite_cube : a ≡ 0x7f800000 → b % 2 ^ 31 < 0x7f800000 → Answer true
  infinite_cube h l =
      rw (read_inf binary32 a (omega arith) (omega arith), lt-leb (2 ^ 31) a (omega arith))
      (sym (cube_of_inf (of_bits binary32 b) (leb (2 ^ 31) b) (size_of b) (2 ^ 149) (value b (leb (2 ^ 31) b) refl (omega arith))))

  pub both_finite : a < 0x7f800000 → b % 2 ^ 31 < 0x7f800000
      → Answer (ltb (size_of b * size_of b * 2 ^ 149) (8 * (size_of a * size_of a * size_of a)))
  both_finite h l =
      cube_sizes (of_bits binary32 a) (of_bits binary32 b) (leb (2 ^ 31) b) (size_of a) (size_of b) (2 ^ 149) (pow_pos 149)
      (value a false (lt-leb (2 ^ 31) a (omega arith)) (omega arith)) (value b (leb (2 ^ 31) b) refl (omega arith))
