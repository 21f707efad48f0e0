-- What floor, ceiling and rounding half away from zero are worth, at a finite value of the format.
use Rattle.std.specs.Prelude.{◌≡◌, ℕ, ◌+◌, ◌*◌, ◌%◌, ◌≤◌, ◌<◌, T, Float}
use Rattle.std.specs.Float.Ieee.{le}
use Rattle.std.specs.Float.Ieee.Positive.{num, den}
use Rattle.std.specs.Float.Ieee.Scale.{finite}

-- finite, with no fraction
abbrev pub NoFraction : Float → Type 0
NoFraction z = T (finite z) × (num z % den z ≡ 0)

-- r is the greatest whole number that is not above x: no z comes between, be it of the format or not. (`floor_is`)
pub record GreatestBelow (x r : Float) : Type 0 where
  pub whole : NoFraction r
  pub at_most : T (le r x)
  pub greatest : (z : Float) → NoFraction z → T (le z x) → T (le z r)

-- The least that is not below x. (`ceiling_is`)
pub record LeastAbove (x r : Float) : Type 0 where
  pub whole : NoFraction r
  pub at_least : T (le x r)
  pub least : (z : Float) → NoFraction z → T (le x z) → T (le r z)

-- No whole number is nearer to the size a / b than w: a / b is less than w + 1/2, and w - 1/2 at least. So a half goes away from
-- zero. (`half_away_is`)
pub record HalfAway (a b w : ℕ) : Type 0 where
  pub at_most : 2 * a < (2 * w + 1) * b
  pub at_least : (p : ℕ) → w ≡ p + 1 → (2 * p + 1) * b ≤ 2 * a
