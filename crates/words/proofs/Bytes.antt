-- Numbers as bytes: four bytes make one u32, and one u32 makes these four again; so do lists of them. Assumes nothing.
use mathlib.Core.Path.{◌≡◌, refl, ap}
use mathlib.Core.List.{List, [], ◌∷◌}
use Prim.Native.Nat.{ℕ, zero, suc, ◌+◌, ◌*◌, ◌^◌, ◌/◌, ◌%◌, ◌<◌}
use native.Mathlib.Omega.{arith}
use lib.ListN.{length, take, drop}
use Rattle.words.specs.Words.{words_in, bytes_of, all_bytes, Below}

-- the u32 of four bytes
abbrev pub four : ℕ → ℕ → ℕ → ℕ → ℕ
four a b c d = a + 256 * b + 65536 * c + 16777216 * d

pub four_of : (w : ℕ) → w < 2 ^ 32 → four (w % 256) (w / 256 % 256) (w / 65536 % 256) (w / 16777216 % 256) ≡ w
four_of w h =
    let e : w / 65536 ≡ w / 256 / 256 = omega arith in
    let f : w / 16777216 ≡ w / 65536 / 256 = omega arith in
    let g : w / 16777216 % 256 ≡ w / 16777216 = omega arith in
    omega arith

module _ (a b c d : ℕ) (ha : a < 256) (hb : b < 256) (hc : c < 256) (hd : d < 256) where
  pub four_below : four a b c d < 2 ^ 32
  four_below = omega arith

  pub bytes_back : bytes_of (four a b c d) ≡ a ∷ b ∷ c ∷ d ∷ []
  unfolding bytes_of
  bytes_back =
      let ea : four a b c d % 256 ≡ a = omega arith in
      let eb : (b + 256 * c + 65536 * d) % 256 ≡ b = omega arith in
      let ec : (c + 256 * d) % 256 ≡ c = omega arith in
      let ed : d % 256 ≡ d = omega arith in
      let fb : four a b c d / 256 ≡ b + 256 * c + 65536 * d = omega arith in
      let fc : four a b c d / 65536 ≡ c + 256 * d = omega arith in
      let fd : four a b c d / 16777216 ≡ d = omega arith in
      rw (ea, fb, fc, fd, eb, ec, ed)

-- ---- lists of them

pub length_all : (ws : List ℕ) → length (all_bytes ws) ≡ 4 * length ws
unfolding all_bytes bytes_of
length_all [] = refl
length_all (w ∷ ws) = omega (arith, length_all ws)

pub words_all : (ws : List ℕ) → Below (2 ^ 32) ws → words_in (all_bytes ws) ≡ ws
unfolding all_bytes bytes_of words_in Below
words_all [] h = refl
words_all (w ∷ ws) h = rw (four_of w h.0, words_all ws h.1)

pub all_words : (l : List ℕ) → Below 256 l → length l % 4 ≡ 0 → all_bytes (words_in l) ≡ l
unfolding all_bytes words_in Below
all_words [] h e = refl
all_words (a ∷ []) h e = absurd (omega arith)
all_words (a ∷ b ∷ []) h e = absurd (omega arith)
all_words (a ∷ b ∷ c ∷ []) h e = absurd (omega arith)
all_words (a ∷ b ∷ c ∷ d ∷ l) h e =
    rw (bytes_back a b c d h.0 h.1.0 h.1.1.0 h.1.1.1.0)
    (ap (λ (r : List ℕ). a ∷ b ∷ c ∷ d ∷ r) (all_words l h.1.1.1.1 (omega arith)))

pub words_below : (l : List ℕ) → Below 256 l → Below (2 ^ 32) (words_in l)
unfolding words_in Below
words_below [] h = tt
words_below (a ∷ []) h = tt
words_below (a ∷ b ∷ []) h = tt
words_below (a ∷ b ∷ c ∷ []) h = tt
words_below (a ∷ b ∷ c ∷ d ∷ l) h = (four_below a b c d h.0 h.1.0 h.1.1.0 h.1.1.1.0, words_below l h.1.1.1.1)

-- ---- a part of bytes is bytes

pub below_drop : (k n : ℕ) (l : List ℕ) → Below k l → Below k (drop n l)
unfolding Below
below_drop k zero l h = h
below_drop k (suc n) [] h = tt
below_drop k (suc n) (a ∷ l) h = below_drop k n l h.1

pub below_take : (k n : ℕ) (l : List ℕ) → Below k l → Below k (take n l)
unfolding Below
below_take k zero l h = tt
below_take k (suc n) [] h = tt
below_take k (suc n) (a ∷ l) h = (h.0, below_take k n l h.1)
