-- Words put one by one into an area: those put so far, then those still to come, are the payload's words, each under one map.
-- Assumes nothing.
use mathlib.Core.Path.{◌≡◌, refl, sym, ap, ◌∙◌}
use mathlib.Core.List.{List, [], ◌∷◌, ◌++◌, map, append_assoc, append-nil}
use Prim.Native.Nat.{ℕ, ◌+◌, ◌*◌, ◌≤◌, ◌<◌}
use native.Mathlib.Numerals.{add-one}
use native.Mathlib.Omega.{arith}
use lib.ListN.{length, take, drop, set, length-drop, drop_of_length-le}
use lib.Seq.{take_all, take-suc-set, get_or-drop, drop-drop}
use Rattle.words.specs.Words.{u32_at, words_in}

words_first : (l : List ℕ) → 4 ≤ length l → words_in l ≡ u32_at l 0 ∷ words_in (drop 4 l)
unfolding u32_at words_in
words_first [] h = absurd (omega arith)
words_first (a ∷ []) h = absurd (omega arith)
words_first (a ∷ b ∷ []) h = absurd (omega arith)
words_first (a ∷ b ∷ d ∷ []) h = absurd (omega arith)
words_first (a ∷ b ∷ d ∷ e ∷ l) h = refl

pub word_drop : (n : ℕ) (l : List ℕ) → u32_at (drop n l) 0 ≡ u32_at l n
unfolding u32_at
word_drop n l =
    let z : n + 0 ≡ n = omega arith in
    simp (get_or-drop, z)

pub words_at_lem : (n : ℕ) (l : List ℕ) → n + 4 ≤ length l → words_in (drop n l) ≡ u32_at l n ∷ words_in (drop (n + 4) l)
words_at_lem n l h =
    words_first (drop n l) (simp length-drop (omega arith)) ∙ ap (λ (w : ℕ). w ∷ words_in (drop 4 (drop n l))) (word_drop n l)
    ∙ ap (λ (r : List ℕ). u32_at l n ∷ words_in r) (drop-drop 4 n l)

module _ {A : Type 0} (f : ℕ → A) (bytes : List ℕ) where
  -- the first i words stand in t
  unfoldable pub Put : ℕ → List A → Type 0
  Put i t = take i t ++ map f (words_in (drop (4 * i) bytes)) ≡ map f (words_in bytes)

  pub put_none : (t : List A) → Put 0 t
  unfolding Put
  put_none t = refl

  pub put_next : (i : ℕ) (t : List A) (w : ℕ) → i < length t → 4 * i + 4 ≤ length bytes → w ≡ u32_at bytes (4 * i) → Put i t
      → Put (i + 1) (set t i (f w))
  unfolding Put
  put_next i t w h k e p =
      let to : List A → List A = λ r. r ++ map f (words_in (drop (4 * i + 4) bytes)) in
      let taken : take (i + 1) (set t i (f w)) ≡ take i t ++ (f w ∷ []) = rw (add-one i) (take-suc-set t i (f w) h) in
      let next : 4 * (i + 1) ≡ 4 * i + 4 = omega arith in
      rw next (ap to taken ∙ append_assoc (take i t) (f w ∷ []) _
      ∙ ap (λ (r : List A). take i t ++ r) (rw (words_at_lem (4 * i) bytes k, e)) ∙ p)

  pub put_all : (i : ℕ) (t : List A) → length bytes ≤ 4 * i → length t ≤ i → Put i t → t ≡ map f (words_in bytes)
  unfolding Put words_in
  put_all i t h k p = sym (append-nil t) ∙ ap (λ (r : List A). r ++ []) (sym (take_all i t k)) ∙ rw (drop_of_length-le bytes h) at p
