-- `cube_above` of two floats goes by their sizes alone, and by the sign of the first. Assumes nothing.
use mathlib.Core.Path.{◌≡◌, refl, sym, ap, ◌∙◌}
use mathlib.Core.Bool.{Bool, true, false, true≢false}
use Prim.Native.Nat.{ℕ, ◌*◌, ◌<◌}
use native.Mathlib.Nat.{mul-pos}
use native.Mathlib.Omega.{arith}
use lib.Dec.{ltb}
use lib.Ieee.{Float, nan, inf, fin, up, down}
use lib.Ieee.Exact.{HasValue}
use lib.Ieee.Fits.{down_pos}
use Rattle.ieee.specs.Cube.{cube_above}
use Rattle.ieee.proofs.Numbers.Scales.{ltb_scaled}

-- ---- two finite values m / d and n / e, which are a / c and b / c
module _ (m d n e a b c : ℕ) (first : m * c ≡ a * d) (second : n * c ≡ b * e) where
  square_scaled : n * n * (d * d * d) * (c * c * c) ≡ b * b * c * (d * d * d * (e * e))
  square_scaled = apart n d c ∙ ap (λ (z : ℕ). z * z * (c * (d * d * d))) second ∙ together b e c d
    where
      apart : (n d c : ℕ) → n * n * (d * d * d) * (c * c * c) ≡ n * c * (n * c) * (c * (d * d * d))
      apart n d c = omega arith

      together : (b e c d : ℕ) → b * e * (b * e) * (c * (d * d * d)) ≡ b * b * c * (d * d * d * (e * e))
      together b e c d = omega arith

  cube_scaled : 8 * (m * m * m) * (e * e) * (c * c * c) ≡ 8 * (a * a * a) * (d * d * d * (e * e))
  cube_scaled = apart m e c ∙ ap (λ (z : ℕ). z * z * z * (8 * (e * e))) first ∙ together a d e
    where
      apart : (m e c : ℕ) → 8 * (m * m * m) * (e * e) * (c * c * c) ≡ m * c * (m * c) * (m * c) * (8 * (e * e))
      apart m e c = omega arith

      together : (a d e : ℕ) → a * d * (a * d) * (a * d) * (8 * (e * e)) ≡ 8 * (a * a * a) * (d * d * d * (e * e))
      together a d e = omega arith

  over_common : 0 < d → 0 < e → 0 < c → ltb (n * n * (d * d * d)) (8 * (m * m * m) * (e * e)) ≡ ltb (b * b * c) (8 * (a * a * a))
  over_common D E C =
      sym (ltb_scaled (n * n * (d * d * d)) (8 * (m * m * m) * (e * e)) (c * c * c) (mul-pos (mul-pos C C) C))
      ∙ rw (square_scaled, cube_scaled)
      (ltb_scaled (b * b * c) (8 * (a * a * a)) (d * d * d * (e * e)) (mul-pos (mul-pos (mul-pos D D) D) (mul-pos E E)))

pub cube_sizes : (s p : Float) (t : Bool) (a b c : ℕ) → 0 < c → HasValue s false a c → HasValue p t b c
    → ltb (b * b * c) (8 * (a * a * a)) ≡ cube_above s p
unfolding cube_above
cube_sizes nan p t a b c C h k = absurd h
cube_sizes (inf s) p t a b c C h k = absurd h
cube_sizes (fin s m e) nan t a b c C h k = absurd k
cube_sizes (fin s m e) (inf u) t a b c C h k = absurd k
cube_sizes (fin true m e) (fin u n d) t a b c C h k = absurd (true≢false h.0)
cube_sizes (fin false m e) (fin u n d) t a b c C h k =
    sym (over_common (m * up e) (down e) (n * up d) (down d) a b c h.1 k.1 (down_pos e) (down_pos d) C)

-- ---- a NaN, an infinity, a minus
pub cube_of_nan : (p : Float) → cube_above nan p ≡ false
unfolding cube_above
cube_of_nan p = refl

pub cube_to_nan : (s : Float) → cube_above s nan ≡ false
unfolding cube_above
cube_to_nan nan = refl
cube_to_nan (inf s) = refl
cube_to_nan (fin s m e) = refl

pub cube_to_inf : (s : Float) (t : Bool) → cube_above s (inf t) ≡ false
unfolding cube_above
cube_to_inf nan t = refl
cube_to_inf (inf s) t = refl
cube_to_inf (fin s m e) t = refl

pub cube_of_inf : (p : Float) (t : Bool) (b c : ℕ) → HasValue p t b c → cube_above (inf false) p ≡ true
unfolding cube_above
cube_of_inf nan t b c h = absurd h
cube_of_inf (inf u) t b c h = absurd h
cube_of_inf (fin u n d) t b c h = refl

pub cube_of_minus_inf : (p : Float) → cube_above (inf true) p ≡ false
unfolding cube_above
cube_of_minus_inf nan = refl
cube_of_minus_inf (inf t) = refl
cube_of_minus_inf (fin t n d) = refl

pub cube_of_minus : (s p : Float) (a c : ℕ) → HasValue s true a c → cube_above s p ≡ false
unfolding cube_above
cube_of_minus nan p a c h = absurd h
cube_of_minus (inf s) p a c h = absurd h
cube_of_minus (fin s m e) nan a c h = refl
cube_of_minus (fin s m e) (inf t) a c h = refl
cube_of_minus (fin s m e) (fin t n d) a c h = rw h.0
