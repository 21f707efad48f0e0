-- A float brought to a whole number of its own format: what `floor`, `ceiling` and `round` answer.
use Rattle.std.specs.Prelude.{ℕ, ◌+◌, ◌-◌, ◌*◌, ◌/◌, cond, Float}
use Rattle.std.specs.Float.{nan, inf, fin, Format}
use Rattle.std.specs.Float.Ieee.{up, down, round}

-- What becomes of a size's fraction: it is dropped, it counts as one more, or it does so from a half on.
pub data Way : Type 0 where
  cut away half : Way

-- a / b as a whole number, for a b above 0
abbrev pub to_whole : Way → ℕ → ℕ → ℕ
to_whole cut a b = a / b
to_whole away a b = (a + (b - 1)) / b
to_whole half a b = (2 * a + b) / (2 * b)

-- IEEE 754-2019 5.9, roundToIntegral: one way from zero up and one below. The sign stays, on a zero too (6.3).
-- The whole number next to a value of the format is one too, so `round` only writes it as a float. (`integral_exact`)
unfoldable pub integral : Format → Way → Way → Float → Float
integral f above below nan = nan
integral f above below (inf s) = inf s
integral f above below (fin s m e) = round f s (to_whole (cond s below above) (m * up e) (down e)) 1

-- 5.9, roundToIntegralTowardNegative
abbrev pub floor : Format → Float → Float
floor f x = integral f cut away x

-- 5.9, roundToIntegralTowardPositive
abbrev pub ceiling : Format → Float → Float
ceiling f x = integral f away cut x

-- 5.9, roundToIntegralTiesToAway
abbrev pub half_away : Format → Float → Float
half_away f x = integral f half half x
