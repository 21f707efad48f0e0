-- What it means that a float is a whole number: the premise of demand 3.
use Rattle.std.specs.Prelude.{not, ℤ, nat_abs, Float}
use Rattle.std.specs.Int.Signed.{non_neg}
use Rattle.std.specs.Float.Ieee.Exact.{HasValue}

-- x is the integer z, and is no -0: finite, of z's sign, and |z| / 1 in size
abbrev pub IsWhole : Float → ℤ → Type 0
IsWhole x z = HasValue x (not (non_neg z)) (nat_abs z) 1
