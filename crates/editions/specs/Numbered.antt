-- The same for the C interface: of the record's 26 words all but four do not hang on the edition, and these move as the areas do.
use Rattle.std.specs.Prelude.{◌≡◌, Bool, true, false, ◌&&◌, cond, List, ℕ, T, eqb, leb, get_or, Float}
use Rattle.std.specs.Float.{binary32}
use Rattle.std.specs.Float.Ieee.{of_bits}
use Rattle.sums.specs.declared.totals.Areas.{Areas}
use Rattle.sums.specs.Editions.{edition_known}
use Rattle.qto.specs.Numbers.{ComputesNumbered}
use Rattle.road.specs.Numbered.{without, AgreeNumbered, SameNumberedArea}
use Rattle.editions.specs.Moves.{AreasMove}

-- top, bottom, side and inclined
abbrev pub by_slope : ℕ → Bool
by_slope i = leb 7 i && leb i 10

-- by the number that comes back: where the call answered, which is 0, all words but these; on a refusal all, as the caller had them
unfoldable pub but_slopes : ℕ → List ℕ → List ℕ
but_slopes n words = cond (eqb n 0) (without by_slope 0 words) words

abbrev pub SameButSlopes : ℕ → List ℕ → List ℕ → Type 0
SameButSlopes n words words' = but_slopes n words' ≡ but_slopes n words

-- the same flags, and the record's words alike before the call (`edition_unseen_numbered`)
abbrev pub EditionUnseenNumbered : Type 0
EditionUnseenNumbered =
    (vs : List Float) (ids : List ℕ) (u : Float) (e e' clip defect : ℕ) (w r : List ℕ) (s : List Float) (words : List ℕ)
    (n n' : ℕ) (w₁ w₂ r₁ r₂ : List ℕ) (s₁ s₂ : List Float) (words₁ words₂ : List ℕ)
    → T (edition_known e) → T (edition_known e')
    → ComputesNumbered vs ids u e clip defect w r s words n w₁ r₁ s₁ words₁
    → ComputesNumbered vs ids u e' clip defect w r s words n' w₂ r₂ s₂ words₂
    → AgreeNumbered SameButSlopes SameNumberedArea n n' w₁ w₂ r₁ r₂ s₁ s₂ words₁ words₂

-- ---- from edition 1 to edition 2

-- words 7 to 10 as the areas that they are the bits of
abbrev pub float_in : List ℕ → ℕ → Float
float_in words i = of_bits binary32 (get_or words i 0)

abbrev pub areas_in_words : List ℕ → Areas
areas_in_words words =
    record { top = float_in words 7; bottom = float_in words 8; side = float_in words 9; inclined = float_in words 10 }

-- by whether the call answered, which is 0; on a refusal the words are as they were
unfoldable pub WordsMoveBy : Bool → List ℕ → List ℕ → Type 0
WordsMoveBy true words words' = AreasMove (areas_in_words words) (areas_in_words words')
WordsMoveBy false words words' = words' ≡ words

abbrev pub WordsMove : ℕ → List ℕ → List ℕ → Type 0
WordsMove n words words' = WordsMoveBy (eqb n 0) words words'

-- (`second_moves_numbered`)
abbrev pub SecondMovesNumbered : Type 0
SecondMovesNumbered =
    (vs : List Float) (ids : List ℕ) (u : Float) (clip defect : ℕ) (w r : List ℕ) (s : List Float) (words : List ℕ)
    (n n' : ℕ) (w₁ w₂ r₁ r₂ : List ℕ) (s₁ s₂ : List Float) (words₁ words₂ : List ℕ)
    → ComputesNumbered vs ids u 1 clip defect w r s words n w₁ r₁ s₁ words₁
    → ComputesNumbered vs ids u 2 clip defect w r s words n' w₂ r₂ s₂ words₂
    → AgreeNumbered WordsMove SameNumberedArea n n' w₁ w₂ r₁ r₂ s₁ s₂ words₁ words₂
