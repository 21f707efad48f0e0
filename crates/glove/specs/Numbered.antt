-- The glove for the C interface: `mf_compute` with its flags, the number that comes back and the record's 26 words.
use Rattle.std.specs.Prelude.{◌≡◌, Bool, true, false, List, ℕ, eqb, get_or, set, Float}
use Rattle.std.specs.Float.{binary32}
use Rattle.std.specs.Float.Ieee.{of_bits, to_bits}
use Rattle.ieee.specs.Number.{as_number, opposite}
use Rattle.ids.specs.Reversed.{reversed}
use Rattle.qto.specs.Numbers.{ComputesNumbered}
use Rattle.road.specs.Numbered.{owed, AgreeNumbered}
use Rattle.glove.specs.Turned.{TurnedRows}

abbrev pub word_at : List ℕ → ℕ → ℕ
word_at words i = get_or words i 0

-- the volume, word 4, as a number; and negated, with top and bottom, words 7 and 8, in each other's place
abbrev pub volume_word_as_number : List ℕ → List ℕ
volume_word_as_number words = set words 4 (to_bits binary32 (as_number (of_bits binary32 (word_at words 4))))

abbrev pub turned_words : List ℕ → List ℕ
turned_words words =
    set (set (set words 4 (to_bits binary32 (opposite (of_bits binary32 (word_at words 4))))) 7 (word_at words 8)) 8 (word_at words 7)

-- by whether the call answered, which is 0: all that is owed of the words is turned; on a refusal they are as they were
unfoldable pub TurnedWordsBy : Bool → List ℕ → List ℕ → Type 0
TurnedWordsBy true words words' = owed 0 (volume_word_as_number words') ≡ owed 0 (turned_words words)
TurnedWordsBy false words words' = words' ≡ words

abbrev pub TurnedWords : ℕ → List ℕ → List ℕ → Type 0
TurnedWords n words words' = TurnedWordsBy (eqb n 0) words words'

-- likewise the surface area; word 16 is the number of rows
unfoldable pub TurnedAreaBy : Bool → ℕ → List Float → List Float → Type 0
TurnedAreaBy true rows s s' = TurnedRows rows s s'
TurnedAreaBy false rows s s' = s' ≡ s

abbrev pub TurnedNumberedArea : ℕ → List ℕ → List Float → List Float → Type 0
TurnedNumberedArea n words s s' = TurnedAreaBy (eqb n 0) (word_at words 16) s s'

-- the same edition and flags, and the record's words alike before the call (`glove_numbered`)
abbrev pub GloveNumbered : Type 0
GloveNumbered =
    (vs : List Float) (ids : List ℕ) (u : Float) (e clip defect : ℕ) (w r : List ℕ) (s : List Float) (words : List ℕ)
    (n n' : ℕ) (w₁ w₂ r₁ r₂ : List ℕ) (s₁ s₂ : List Float) (words₁ words₂ : List ℕ)
    → ComputesNumbered vs ids u e clip defect w r s words n w₁ r₁ s₁ words₁
    → ComputesNumbered vs (reversed ids) u e clip defect w r s words n' w₂ r₂ s₂ words₂
    → AgreeNumbered TurnedWords TurnedNumberedArea n n' w₁ w₂ r₁ r₂ s₁ s₂ words₁ words₂
