-- Arithmetic of f64: each step is rounded once (01, the float rule; IEEE 754-2019 5.4.1).
use Rattle.std.specs.Prelude.{Float}
use Rattle.std.specs.Float.{binary64}
use Rattle.std.specs.Float.Ieee.{add, sub, mul, div, of_bits}

infixl 60 ◌⊞◌ ◌⊟◌
infixl 65 ◌⊠◌ ◌⧄◌
abbrev pub ◌⊞◌ : Float → Float → Float
x ⊞ y = add binary64 x y

abbrev pub ◌⊟◌ : Float → Float → Float
x ⊟ y = sub binary64 x y

abbrev pub ◌⊠◌ : Float → Float → Float
x ⊠ y = mul binary64 x y

abbrev pub ◌⧄◌ : Float → Float → Float
x ⧄ y = div binary64 x y

-- 0, and 1
abbrev pub nought64 : Float
nought64 = of_bits binary64 0

abbrev pub one64 : Float
one64 = of_bits binary64 0x3ff0_0000_0000_0000
