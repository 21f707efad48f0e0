-- What agrees of two outcomes of `mf_compute`: the number that comes back, the record's 26 words but for those that the documents except of
-- an open shell, the areas afterwards.
use Rattle.std.specs.Prelude.{◌≡◌, Bool, ◌&&◌, ◌||◌, cond, List, [], ◌∷◌, ℕ, suc, eqb, leb, get_or, Float}

-- trust, method, best volume, the bits of the prism bound, and the six words of the pairs
abbrev pub excepted : ℕ → Bool
excepted i = eqb i 1 || (eqb i 2 || (eqb i 13 || (eqb i 15 || (leb 20 i && leb i 25))))

-- words from place i on, some left out: those places have 0
unfoldable pub without : (ℕ → Bool) → ℕ → List ℕ → List ℕ
without left i [] = []
without left i (x ∷ words) = cond (left i) 0 x ∷ without left (suc i) words

-- What has to agree of a record's words, by the number that comes back with them. Where the call answered, which is 0, and the
-- verdict, word 0, is open: all but these ten. Else all of them; on a refusal they are what the caller had there, whatever that was.
unfoldable pub owed : ℕ → List ℕ → List ℕ
owed n words = cond (eqb n 0 && eqb (get_or words 0 0) 1) (without excepted 0 words) words

-- the words stand to each other as W says, and the surface areas as S says, both by the number that comes back
pub record AgreeNumbered (W : ℕ → List ℕ → List ℕ → Type 0) (S : ℕ → List ℕ → List Float → List Float → Type 0) (n n' : ℕ)
    (w w' r r' : List ℕ) (s s' : List Float) (words words' : List ℕ) : Type 0 where
  pub number : n' ≡ n
  pub record_words : W n words words'
  pub work : w' ≡ w
  pub raster : r' ≡ r
  pub surfaces : S n words s s'

-- whatever they are, the surface area is the same
abbrev pub SameNumberedArea : ℕ → List ℕ → List Float → List Float → Type 0
SameNumberedArea n words s s' = s' ≡ s
