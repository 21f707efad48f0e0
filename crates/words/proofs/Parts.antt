-- A part of bytes is as long as was asked, and so are its words and their floats. Assumes nothing.
use mathlib.Core.Path.{◌≡◌, refl, ap}
use mathlib.Core.List.{List, [], ◌∷◌}
use Prim.Native.Nat.{ℕ, suc, ◌+◌, ◌*◌, ◌-◌, ◌/◌, ◌≤◌}
use native.Mathlib.Omega.{arith}
use lib.ListN.{length, take, drop, length-drop}
use lib.Seq.{length-take-le}
use Rattle.words.specs.Words.{words_in, floats_of}

pub length_words : (l : List ℕ) → length (words_in l) ≡ length l / 4
unfolding words_in
length_words [] = refl
length_words (a ∷ []) = refl
length_words (a ∷ b ∷ []) = refl
length_words (a ∷ b ∷ c ∷ []) = refl
length_words (a ∷ b ∷ c ∷ d ∷ l) = omega (arith, length_words l)

pub length_floats : (ws : List ℕ) → length (floats_of ws) ≡ length ws
unfolding floats_of
length_floats [] = refl
length_floats (w ∷ ws) = ap suc (length_floats ws)

pub part_length : (k n : ℕ) (bytes : List ℕ) → k + n ≤ length bytes → length (take n (drop k bytes)) ≡ n
part_length k n bytes h = length-take-le n (drop k bytes) (omega (arith, length-drop k bytes))

pub part_words : (k n : ℕ) (bytes : List ℕ) → k + 4 * n ≤ length bytes → length (words_in (take (4 * n) (drop k bytes))) ≡ n
part_words k n bytes h = omega (arith, length_words (take (4 * n) (drop k bytes)), part_length k (4 * n) bytes h)

-- as it is lent, up to its end
pub part_is : (k n : ℕ) (bytes : List ℕ) → take (k + n - k) (drop k bytes) ≡ take n (drop k bytes)
part_is k n bytes =
    let e : k + n - k ≡ n = omega arith in
    rw e
