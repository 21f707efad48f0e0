-- The word in which a row counts the uses of its key: 65536 for each use upwards, 1 for each downwards. It is 0 in a free row.
use Rattle.std.specs.Prelude.{ℕ, ◌+◌, ◌-◌, ◌/◌, ◌%◌}

unfoldable pub ups_in : ℕ → ℕ
ups_in w = w / 65536

unfoldable pub uses_in : ℕ → ℕ
uses_in w = w / 65536 + w % 65536

-- the magnitude of the signed sum of a key with n uses, u of them upwards
unfoldable pub sum_size : ℕ → ℕ → ℕ
sum_size n u = u + u - n + (n - (u + u))
