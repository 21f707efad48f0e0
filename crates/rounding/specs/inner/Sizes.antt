-- The sizes that are narrowed, by the pattern m that a size has as an `f64`.
use Rattle.std.specs.Prelude.{ℕ, ◌/◌, ◌%◌, ◌^◌, false, to_bits}
use Rattle.std.specs.Float.{binary32, binary64}
use Rattle.std.specs.Float.Ieee.{round}
use Rattle.ieee.specs.inner.Fields.{sized}

-- the pattern of the nearest `f32`
abbrev pub narrow_size : ℕ → ℕ
narrow_size m = to_bits binary32 (round binary32 false (sized binary64 (m / 2 ^ 52) (m % 2 ^ 52)) (2 ^ 1074))
