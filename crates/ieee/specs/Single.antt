-- Arithmetic of f32: each step is rounded once (01, the float rule; IEEE 754-2019 5.4.1).
use Rattle.std.specs.Prelude.{ℕ, pos, Float}
use Rattle.std.specs.Float.{binary32}
use Rattle.std.specs.Float.Ieee.{add, sub, mul, div, of_bits, of_int}
use Rattle.ieee.specs.Order.{greatest}

infixl 60 ◌⊕◌ ◌⊖◌
infixl 65 ◌⊗◌ ◌⊘◌
abbrev pub ◌⊕◌ : Float → Float → Float
x ⊕ y = add binary32 x y

abbrev pub ◌⊖◌ : Float → Float → Float
x ⊖ y = sub binary32 x y

abbrev pub ◌⊗◌ : Float → Float → Float
x ⊗ y = mul binary32 x y

abbrev pub ◌⊘◌ : Float → Float → Float
x ⊘ y = div binary32 x y

-- 0, and 1e-12: the f32 nearest to it
abbrev pub nought : Float
nought = of_bits binary32 0

abbrev pub tiny : Float
tiny = of_bits binary32 0x2b8c_bccc

-- a whole number as f32
abbrev pub number : ℕ → Float
number n = of_int binary32 (pos n)

-- the length from lo to hi, never below 0
unfoldable pub extent : Float → Float → Float
extent lo hi = greatest (hi ⊖ lo) nought
