-- The word at a place, as a member of the words, within a part of the bytes, and as a float. Assumes nothing.
use mathlib.Core.Path.{◌≡◌, refl, ◌∙◌}
use mathlib.Core.List.{List, [], ◌∷◌}
use Prim.Native.Nat.{ℕ, zero, suc, ◌+◌, ◌*◌, ◌≤◌, ◌<◌}
use native.Mathlib.Omega.{arith}
use lib.ListN.{length, get_or, take, drop}
use lib.Seq.{get_or-take, get_or-drop}
use lib.Ieee.{Float, binary32, of_bits}
use Rattle.words.specs.Words.{byte, u32_at, words_in, floats_of}
use Rattle.words.proofs.Words.{words_at_lem}

pub word_at : (j n : ℕ) (l : List ℕ) → n + 4 * j + 4 ≤ length l → get_or (words_in (drop n l)) j 0 ≡ u32_at l (n + 4 * j)
word_at zero n l h =
    let e : n + 4 * 0 ≡ n = omega arith in
    rw (words_at_lem n l (omega arith), e)
word_at (suc j) n l h =
    let e : n + 4 * suc j ≡ n + 4 + 4 * j = omega arith in
    rw (words_at_lem n l (omega arith), e) (word_at j (n + 4) l (omega arith))

pub float_at : (ws : List ℕ) (i : ℕ) (d : Float) → i < length ws → get_or (floats_of ws) i d ≡ of_bits binary32 (get_or ws i 0)
unfolding floats_of
float_at [] i d l = absurd (omega arith)
float_at (w ∷ ws) zero d l = refl
float_at (w ∷ ws) (suc i) d l = float_at ws i d (omega arith)

-- a byte and a word within a part
pub byte_part : (p n k : ℕ) (bytes : List ℕ) → k < n → byte (take n (drop p bytes)) k ≡ byte bytes (p + k)
byte_part p n k bytes l = get_or-take n (drop p bytes) k 0 l ∙ get_or-drop p bytes k 0

pub word_part : (p n k : ℕ) (bytes : List ℕ) → k + 4 ≤ n → u32_at (take n (drop p bytes)) k ≡ u32_at bytes (p + k)
unfolding u32_at
word_part p n k bytes h =
    let e1 : p + (k + 1) ≡ p + k + 1 = omega arith in
    let e2 : p + (k + 2) ≡ p + k + 2 = omega arith in
    let e3 : p + (k + 3) ≡ p + k + 3 = omega arith in
    rw (
      byte_part p n k bytes (omega arith),
      byte_part p n (k + 1) bytes (omega arith),
      byte_part p n (k + 2) bytes (omega arith),
      byte_part p n (k + 3) bytes (omega arith),
      e1,
      e2,
      e3,
    )
