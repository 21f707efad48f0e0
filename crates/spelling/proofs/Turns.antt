-- One turn of a loop puts the first part of what is left: a byte of a form, or a number. Assumes nothing.
use mathlib.Core.Path.{◌≡◌, refl}
use mathlib.Core.Bool.{Bool, true, false, cond, ◌&&◌}
use mathlib.Core.List.{List, [], ◌∷◌, ◌++◌}
use Prim.Native.Nat.{ℕ, ◌+◌, ◌≤◌, ◌<◌}
use native.Mathlib.Omega.{arith}
use native.Mathlib.Numerals.{add-one}
use borrow.Author.Tests.{ltb-true, ltb-false}
use lib.Dec.{eqb, ltb}
use lib.ListN.{length, get_or, drop, drop_of_length-le}
use lib.Seq.{drop-cons}
use lib.Ieee.{Float, nan}
use Rattle.ids.proofs.Same.{both}
use Rattle.spelling.specs.Text.{hex, bits}
use Rattle.spelling.specs.inner.Steps.{filled_at, filled}
use Rattle.spelling.proofs.Left.{Left, left_room}

-- a byte that is no mark stays, and so does a mark when no number is left
byte_stays : (mark : Bool) (b : ℕ) (xs : List Float) (j : ℕ) (rest : List Float → List ℕ) → mark && ltb j (length xs) ≡ false
    → filled_at mark b (drop j xs) rest ≡ b ∷ rest (drop j xs)
unfolding filled_at
byte_stays false b xs j rest e = refl
byte_stays true b xs j rest e = rw (drop_of_length-le xs {i = j} (ltb-false j (length xs) e))

module _ (t : List ℕ) (i : ℕ) where
  text_next : i < length t → drop i t ≡ get_or t i 0 ∷ drop (i + 1) t
  text_next h = rw (add-one i) (drop-cons t i 0 h)

  -- ---- a form with numbers

  module _ (xs : List Float) (j : ℕ) where
    number_next : j < length xs → drop j xs ≡ get_or xs j nan ∷ drop (j + 1) xs
    number_next h = rw (add-one j) (drop-cons xs j nan h)

    -- whether the next byte is a mark that has a number
    abbrev pub marked : Bool
    marked = eqb (get_or t i 0) 35 && ltb j (length xs)

    pub number_left : marked ≡ true → j < length xs
    number_left e = ltb-true j (length xs) (both (eqb (get_or t i 0) 35) (ltb j (length xs)) e).1

    pub form_number : i < length t → marked ≡ true
        → filled (drop i t) (drop j xs) ≡ bits (get_or xs j nan) ++ filled (drop (i + 1) t) (drop (j + 1) xs)
    unfolding filled filled_at
    form_number h e = rw (text_next h, number_next (number_left e), (both (eqb (get_or t i 0) 35) (ltb j (length xs)) e).0)

    pub form_byte : i < length t → marked ≡ false → filled (drop i t) (drop j xs) ≡ get_or t i 0 ∷ filled (drop (i + 1) t) (drop j xs)
    unfolding filled
    form_byte h e = rw (text_next h) (byte_stays (eqb (get_or t i 0) 35) (get_or t i 0) xs j (filled (drop (i + 1) t)) e)

    pub form_end : length t ≤ i → filled (drop i t) (drop j xs) ≡ []
    unfolding filled
    form_end h = rw (drop_of_length-le t h)

-- a number has eight digits
pub number_room : {at end : ℕ} {whole area₀ rest area : List ℕ} → Left at whole area₀ end rest area → (x : Float) (b : List ℕ)
    → rest ≡ bits x ++ b → end + 8 ≤ length area
unfolding bits hex
number_room l x b e = left_room l (bits x) b e
