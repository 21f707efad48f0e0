-- The square root of a float: what `root64` answers.
use Prim.Native.Nat.{ℕ, zero, suc, ◌+◌, ◌-◌, ◌*◌, ◌/◌, ◌^◌, compare}
use Rattle.std.specs.Prelude.{true, false, cond, leb, Float}
use Rattle.std.specs.Float.{nan, inf, fin, Format}
use Rattle.std.specs.Float.Ieee.{prec, low, up, down, size, nearest, units}

-- The largest r with r * r ≤ n, of d binary digits at most: one more digit for each two of n's.
unfoldable pub digits : ℕ → ℕ → ℕ
digits zero n = 0
digits (suc d) n = let r = 2 * digits d (n / 4) in cond (leb ((r + 1) * (r + 1)) n) (r + 1) r

-- The whole part of √n, which has no more digits than n.
unfoldable pub floor_root : ℕ → ℕ
floor_root n = digits (size n) n

-- √(a / b) to the nearest whole number, for a b above 0. With q for its whole part, √(a / b) compares with q + 1/2
-- as the squares do: 4 * a with (2 * q + 1) ^ 2 * b.
unfoldable pub closest_root : ℕ → ℕ → ℕ
closest_root a b = let q = floor_root (a / b) in nearest q (compare (4 * a) ((2 * q + 1) * (2 * q + 1) * b))

-- The value of the format f that is nearest to √(num / den), for a den above 0: the model's `round` with a root in
-- the fraction's place. In units of f's smallest value the root is √(n / den). Of its whole part the format keeps the
-- `prec` leading digits and drops k, so the result is a multiple of 2 ^ k units.
unfoldable pub root_round : Format → ℕ → ℕ → Float
root_round f num den =
    let n = num * (2 ^ low f * 2 ^ low f) in
    let k = size (floor_root (n / den)) - prec f in
    units f false (closest_root n (den * (2 ^ k * 2 ^ k))) k

-- IEEE 754-2019 5.4.1, squareRoot: of -0 it is -0, and of any other number below zero a NaN.
-- (`root_nearest`: no value of the format is nearer.)
unfoldable pub root : Format → Float → Float
root f nan = nan
root f (inf s) = cond s nan (inf false)
root f (fin s zero e) = fin s zero e
root f (fin true (suc m) e) = nan
root f (fin false (suc m) e) = root_round f (suc m * up e) (down e)
