-- Numbers in bytes, little-endian: one at a place, those of a payload, these as floats; and the bytes of a number, and of many.
use Rattle.std.specs.Prelude.{ℕ, ◌+◌, ◌*◌, ◌/◌, ◌%◌, ◌<◌, List, [], ◌∷◌, ◌++◌, map, get_or, Float}
use Rattle.std.specs.Float.{binary32}
use Rattle.std.specs.Float.Ieee.{of_bits}

abbrev pub byte : List ℕ → ℕ → ℕ
byte bytes i = get_or bytes i 0

-- a u16 and a u32 at a place
unfoldable pub u16_at : List ℕ → ℕ → ℕ
u16_at bytes i = byte bytes i + 256 * byte bytes (i + 1)

unfoldable pub u32_at : List ℕ → ℕ → ℕ
u32_at bytes i = byte bytes i + 256 * byte bytes (i + 1) + 65536 * byte bytes (i + 2) + 16777216 * byte bytes (i + 3)

-- the words of a payload; what is left over at the end belongs to none
unfoldable pub words_in : List ℕ → List ℕ
words_in [] = []
words_in (a ∷ []) = []
words_in (a ∷ b ∷ []) = []
words_in (a ∷ b ∷ c ∷ []) = []
words_in (a ∷ b ∷ c ∷ d ∷ l) = (a + 256 * b + 65536 * c + 16777216 * d) ∷ words_in l

-- the floats of words: a NaN's pattern is a NaN
unfoldable pub floats_of : List ℕ → List Float
floats_of = map (of_bits binary32)

-- a u32 as four bytes, and words one behind the other
unfoldable pub bytes_of : ℕ → List ℕ
bytes_of w = w % 256 ∷ w / 256 % 256 ∷ w / 65536 % 256 ∷ w / 16777216 % 256 ∷ []

unfoldable pub all_bytes : List ℕ → List ℕ
all_bytes [] = []
all_bytes (w ∷ ws) = bytes_of w ++ all_bytes ws

-- each number below a bound: bytes are below 256, words below 2^32
unfoldable pub Below : ℕ → List ℕ → Type 0
Below n [] = Unit {0}
Below n (x ∷ xs) = (x < n) × Below n xs
