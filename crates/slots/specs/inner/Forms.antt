-- How a table lies in its words: the mark in a slot's word, and a key, which is three numbers, in the words that it takes.
use Rattle.std.specs.Prelude.{◌≡◌, ℕ, ◌+◌, ◌*◌, ◌/◌, ◌%◌, ◌<◌, List, [], ◌∷◌, length, get_or}
use Rattle.slots.specs.declared.Code.{Code}

pub record Form : Type 1 where
  -- the mark in a word
  pub mark : ℕ → ℕ
  -- how many words a key takes
  pub words : ℕ
  -- the key in the words f 0, f 1 ..
  pub key : (ℕ → ℕ) → Code
  -- and the words of a key
  pub into : Code → List ℕ
  -- has the key room in them?
  pub Fits : Code → Type 0

-- what a table leans on
pub record FormLaws (form : Form) : Type 0 where
  -- a key is told by its words, and read back from those that it was written into
  pub told : (f g : ℕ → ℕ) → ((d : ℕ) → d < form.words → f d ≡ g d) → form.key f ≡ form.key g
  pub back : (k : Code) → form.key (λ d. get_or (form.into k) d 0) ≡ k
  pub long : (k : Code) → length (form.into k) ≡ form.words
  -- an entry's number and 1 more, added to a word with no mark, are its mark, and leave the upper half of the word
  pub marked : (x v : ℕ) → form.mark x ≡ 0 → v < 32768 → form.mark (x + (v + 1)) ≡ v + 1
  pub upper : (x v : ℕ) → form.mark x ≡ 0 → v < 32768 → (x + (v + 1)) / 65536 ≡ x / 65536

-- two words a number, of which the lower half stands first: a number of 64 bits has room. The mark is the lower half of its word: the
-- upper half is for whoever has the table
abbrev pub wide : Form
wide = record {
  mark = λ w. w % 65536;
  words = 6;
  key = λ f. record { x = f 0 + 4294967296 * f 1; y = f 2 + 4294967296 * f 3; z = f 4 + 4294967296 * f 5 };
  into = λ k.
      k.x % 4294967296 ∷ k.x / 4294967296 ∷ k.y % 4294967296 ∷ k.y / 4294967296 ∷ k.z % 4294967296 ∷ k.z / 4294967296 ∷ [];
  Fits = λ k. Unit {0};
}

-- a word a number, which has room where it is below 2^32. The mark is a whole word
abbrev pub narrow : Form
narrow = record {
  mark = λ w. w;
  words = 3;
  key = λ f. record { x = f 0; y = f 1; z = f 2 };
  into = λ k. k.x ∷ k.y ∷ k.z ∷ [];
  Fits = λ k. (k.x < 4294967296) × (k.y < 4294967296) × (k.z < 4294967296);
}
