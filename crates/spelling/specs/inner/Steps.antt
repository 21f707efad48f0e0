-- How text is put together: a text at a place, and the place behind it.
use Rattle.std.specs.Prelude.{◌≡◌, ℕ, ◌+◌, Bool, true, false, cond, List, ◌++◌, ◌∷◌, [], eqb, length, take, drop, Float}
use Rattle.spelling.specs.Text.{bits}

-- the area with a text at a place
unfoldable pub written : ℕ → List ℕ → List ℕ → List ℕ
written at text area = take at area ++ (text ++ drop (at + length text) area)

-- the contract of all that put a text: r is the place behind it
pub record PutsText (at : ℕ) (text area : List ℕ) (r : ℕ) (area' : List ℕ) : Type 0 where
  pub place : r ≡ at + length text
  pub later : area' ≡ written at text area

-- one byte of a form: the next number if it is a mark and there is one, or the byte; and the rest with the other numbers
unfoldable pub filled_at : Bool → ℕ → List Float → (List Float → List ℕ) → List ℕ
filled_at true b (x ∷ xs) rest = bits x ++ rest xs
filled_at true b [] rest = b ∷ rest []
filled_at false b xs rest = b ∷ rest xs

-- a form with numbers for its marks, `#`, as far as there are numbers
unfoldable pub filled : List ℕ → List Float → List ℕ
filled [] xs = []
filled (b ∷ t) xs = filled_at (eqb b 35) b xs (filled t)
