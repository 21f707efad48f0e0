-- How the listing spells names and numbers (01, The program `takeoff`), in bytes of ASCII.
use Rattle.std.specs.Prelude.{ℕ, zero, suc, ◌+◌, ◌/◌, ◌%◌, cond, List, [], ◌∷◌, ◌++◌, ltb, Float}
use Prim.Native.Char.{code}
use Prim.Native.String.{String, [] as none, ◌∷◌ as ◌then◌}
use Rattle.std.specs.Float.{binary32}
use Rattle.std.specs.Float.Ieee.{to_bits}

-- a text's bytes
abbrev pub codes : String → List ℕ
codes none = []
codes (c then s) = code c ∷ codes s

-- a digit below 16: 0 to 9, then a to f
unfoldable pub glyph : ℕ → ℕ
glyph d = cond (ltb d 10) (48 + d) (87 + d)

-- eight lower-case hex digits
unfoldable pub hex : ℕ → List ℕ
hex w =
    glyph (w / 0x1000_0000 % 16)
    ∷ glyph (w / 0x100_0000 % 16)
    ∷ glyph (w / 0x10_0000 % 16)
    ∷ glyph (w / 0x1_0000 % 16)
    ∷ glyph (w / 0x1000 % 16)
    ∷ glyph (w / 0x100 % 16)
    ∷ glyph (w / 0x10 % 16)
    ∷ glyph (w % 16)
    ∷ []

-- an f32 is its bits
unfoldable pub bits : Float → List ℕ
bits x = hex (to_bits binary32 x)

-- a count in decimal, in at most k digits and one more
unfoldable pub decimal_in : ℕ → ℕ → List ℕ
decimal_in zero n = glyph n ∷ []
decimal_in (suc k) n = cond (ltb n 10) (glyph n ∷ []) (decimal_in k (n / 10) ++ (glyph (n % 10) ∷ []))

-- a u32 has ten at most
abbrev pub decimal : ℕ → List ℕ
decimal n = decimal_in 9 n

-- a line: its label, its value, and the line's end
unfoldable pub line : String → List ℕ → List ℕ
line label value = codes label ++ (value ++ codes "\n")
