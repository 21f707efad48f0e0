-- Words put as bytes into an area: those put so far, then those still to come, are the bytes of all. Assumes nothing.
use mathlib.Core.Path.{◌≡◌, refl, sym, ap, ◌∙◌}
use mathlib.Core.List.{List, [], ◌∷◌, ◌++◌, append_assoc, append-nil}
use Prim.Native.Nat.{ℕ, zero, suc, ◌+◌, ◌*◌, ◌≤◌, ◌<◌}
use native.Mathlib.Numerals.{add-one}
use native.Mathlib.Omega.{arith}
use lib.ListN.{length, get_or, take, drop, set, length-append, drop_of_length-le}
use lib.Seq.{length-take-le, take_all, take_at, drop-cons}
use Rattle.words.specs.Words.{bytes_of, all_bytes}

-- ---- one behind the other

module _ (ws : List ℕ) where
  -- the first i words stand in t
  unfoldable pub PutAsBytes : ℕ → List ℕ → Type 0
  PutAsBytes i t = take (4 * i) t ++ all_bytes (drop i ws) ≡ all_bytes ws

  pub bytes_none : (t : List ℕ) → PutAsBytes 0 t
  unfolding PutAsBytes
  bytes_none t = refl

  -- what was there and a word behind it
  with_word : (n : ℕ) (t : List ℕ) (w : ℕ) → n + 4 ≤ length t
      → take (n + 4) (take n t ++ (bytes_of w ++ drop (n + 4) t)) ≡ take n t ++ bytes_of w
  unfolding bytes_of
  with_word n t w h =
      let front : length (take n t) ≡ n = length-take-le n t (omega arith) in
      let long : length (take n t ++ bytes_of w) ≡ n + 4 = omega (arith, length-append (take n t) (bytes_of w)) in
      rw (← append_assoc (take n t) (bytes_of w) (drop (n + 4) t)) (take_at (take n t ++ bytes_of w) (drop (n + 4) t) (n + 4) long)

  pub bytes_next : (i : ℕ) (t : List ℕ) → i < length ws → 4 * i + 4 ≤ length t → PutAsBytes i t
      → PutAsBytes (i + 1) (take (4 * i) t ++ (bytes_of (get_or ws i 0) ++ drop (4 * i + 4) t))
  unfolding PutAsBytes all_bytes
  bytes_next i t h k p =
      let w = get_or ws i 0 in
      let next : 4 * (i + 1) ≡ 4 * i + 4 = omega arith in
      let first : drop i ws ≡ w ∷ drop (i + 1) ws = rw (add-one i) (drop-cons ws i 0 h) in
      rw (next, with_word (4 * i) t w k) (append_assoc (take (4 * i) t) (bytes_of w) (all_bytes (drop (i + 1) ws))
      ∙ ap (λ (l : List ℕ). take (4 * i) t ++ all_bytes l) (sym first) ∙ p)

  pub bytes_all : (i : ℕ) (t : List ℕ) → length ws ≤ i → length t ≤ 4 * i → PutAsBytes i t → t ≡ all_bytes ws
  unfolding PutAsBytes all_bytes
  bytes_all i t h k p =
      sym (append-nil t) ∙ ap (λ (r : List ℕ). r ++ []) (sym (take_all (4 * i) t k)) ∙ rw (drop_of_length-le ws h) at p
