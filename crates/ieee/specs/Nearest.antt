-- What `round` and `root` are worth: no value of the format is nearer to the number. Sizes are fractions, `num` / `den`.
use Rattle.std.specs.Prelude.{◌≡◌, ℕ, ◌+◌, ◌*◌, ◌%◌, ◌≤◌, ◌<◌, Float}
use Rattle.std.specs.Float.{Format}
use Rattle.std.specs.Float.Ieee.{to_bits}
use Rattle.std.specs.Float.Ieee.Positive.{num, den}

-- IEEE 754-2019 4.3.1, roundTiesToEven: r, the rounded a / b, against any other finite value v of the format, by size.
-- a / b lies on r's side of the middle of the two, so v is no nearer. On the middle itself both are as near, and r has the even
-- pattern. (`round_nearest`) r is finite below 2 ^ emax * (2 - 2 ^ -prec), the middle of the largest value and the next power of two,
-- and an infinity from there on. (`round_finite`, `round_inf`)
pub record Nearer (f : Format) (a b : ℕ) (r v : Float) : Type 0 where
  pub below : num v * den r < num r * den v → (num r * den v + num v * den r) * b ≤ 2 * a * (den r * den v)
  pub above : num r * den v < num v * den r → 2 * a * (den r * den v) ≤ (num r * den v + num v * den r) * b
  pub even : (num v * den r ≡ num r * den v → ⊥) → 2 * a * (den r * den v) ≡ (num r * den v + num v * den r) * b → to_bits f r % 2 ≡ 0

-- 5.4.1, squareRoot: r, the root of x, against any other finite value v, by squares, which compare as the numbers do.
-- Here v is always farther, since the root of a value is never the middle of two. (`root_nearest`; r itself is finite: `root_positive`)
pub record NearerRoot (x r v : Float) : Type 0 where
  pub below : num v * den r < num r * den v
      → (num r * den v + num v * den r) * (num r * den v + num v * den r) * den x < 4 * num x * (den r * den v * (den r * den v))
  pub above : num r * den v < num v * den r
      → 4 * num x * (den r * den v * (den r * den v)) < (num r * den v + num v * den r) * (num r * den v + num v * den r) * den x

-- What `closest_root` is worth: no whole number is nearer to √(a / b) than r, since √(a / b) is at most r + 1/2, and at least r - 1/2.
-- (`closest_root_nearest`)
pub record NearestRoot (a b r : ℕ) : Type 0 where
  pub at_most : 4 * a ≤ (2 * r + 1) * (2 * r + 1) * b
  pub at_least : (q : ℕ) → r ≡ q + 1 → (2 * q + 1) * (2 * q + 1) * b ≤ 4 * a
