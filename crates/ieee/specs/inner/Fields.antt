-- The fields of a finite float's pattern as a number (IEEE 754-2019 3.4).
use Rattle.std.specs.Prelude.{ℕ, zero, suc, ◌+◌, ◌*◌, ◌^◌}
use Rattle.std.specs.Float.{Format}
use Rattle.std.specs.Float.Ieee.{hid}

-- The float with the field e for the exponent and the field t for the digits is `sized f e t` of the format's smallest values.
abbrev pub sig : Format → ℕ → ℕ → ℕ
sig f zero t = t
sig f (suc x) t = hid f + t

abbrev pub exp : ℕ → ℕ
exp zero = zero
exp (suc x) = x

abbrev pub sized : Format → ℕ → ℕ → ℕ
sized f e t = sig f e t * 2 ^ exp e
