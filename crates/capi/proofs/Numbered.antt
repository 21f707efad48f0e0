-- The C form of the record: what `compute` answers becomes a number and words, after the flags are checked; and for every input there is
-- one number and one later content of record and areas.
use Rattle.std.specs.Prelude.{Option, Result, Ok, Err}
use mathlib.Core.Path.{◌≡◌, refl, sym, ap, ◌∙◌}
use Prim.Native.Nat.{ℕ, ◌+◌}
use mathlib.Core.Bool.{Bool, true, false, not, cond}
use mathlib.Core.List.{List}
use lib.Dec.{eqb}
use lib.ListN.{length}
use lib.Ieee.{Float}
use Rattle.ids.specs.declared.refusal.Refusal.{Refusal}
use Rattle.ids.specs.Refusal.{refusal_number}
use Rattle.ids.specs.Lent.{cleared}
use Rattle.record.specs.declared.ProfileDefect.{ProfileDefect}
use Rattle.record.specs.declared.MeshQto.{MeshQto}
use Rattle.record.specs.Flags.{flagged}
use Rattle.record.specs.Numbers.{profile_at, flags_fit}
use Rattle.refusals.specs.declared.Check.{Check}
use Rattle.refusals.specs.Refusals.{check_of}
use Rattle.sums.specs.Editions.{thresholds_of}
use Rattle.vertices.specs.Areas.{work_words, raster_bytes}
use Rattle.qto.specs.declared.Takeoff.{Takeoff}
use Rattle.qto.specs.Full.{takeoff_of, surfaces_after}
use Rattle.qto.specs.Compute.{answer_at, area_at, Computes}
use Rattle.qto.specs.Numbers.{words_of, with_flags, number_at, words_at, check_flags, ComputesNumbered, ComputeNumberedOne}

-- ---- an answer as a number and as words

answer_number : Result Takeoff Refusal → ℕ
answer_number (Ok t) = 0
answer_number (Err why) = 0x8000_0000 + refusal_number why

answer_words : ℕ → ℕ → List ℕ → Result Takeoff Refusal → List ℕ
answer_words clip defect words (Ok t) = words_of (with_flags clip defect t)
answer_words clip defect words (Err why) = words

number_of_answer : (c : Result Check Refusal) (t : Takeoff) → answer_number (answer_at c t) ≡ number_at c
unfolding answer_at number_at answer_number
number_of_answer (Err why) t = refl
number_of_answer (Ok Check.Zero) t = refl
number_of_answer (Ok Check.Full) t = refl

words_of_answer : (c : Result Check Refusal) (clip defect : ℕ) (t : Takeoff) (words : List ℕ)
    → answer_words clip defect words (answer_at c t) ≡ words_at c clip defect t words
unfolding answer_at words_at answer_words
words_of_answer (Err why) clip defect t words = refl
words_of_answer (Ok Check.Zero) clip defect t words = refl
words_of_answer (Ok Check.Full) clip defect t words = refl

-- ---- the contract of mf_compute

module _ (vs : List Float) (ids : List ℕ) (u : Float) (e clip defect : ℕ) (w r : List ℕ) (s : List Float) (words : List ℕ) where
  abbrev made_of : Takeoff
  made_of = takeoff_of vs ids u (thresholds_of e)

  abbrev said : Result Check Refusal
  said = check_of vs ids u e (length w) (length r) (length s)

  -- the check once the flags are tested
  fit : (b t : Bool) → t ≡ flags_fit clip defect → not t ≡ b → cond b (Err Refusal.File) said ≡ check_flags clip defect said
  unfolding check_flags
  fit b t is h = ap (λ (f : Bool). cond f (Err Refusal.File) said) (sym h ∙ ap not is)

  -- by what the flags and the table of refusals say
  by_check : (c : Result Check Refusal) (n : ℕ) (w' r' : List ℕ) (s' : List Float) (words' : List ℕ) → c ≡ check_flags clip defect said
      → n ≡ number_at c → words' ≡ words_at c clip defect made_of words
      → w' ≡ area_at c (cleared (work_words (length vs) (length ids)) w) w → r' ≡ area_at c (cleared raster_bytes r) r
      → s' ≡ area_at c (surfaces_after vs ids u s) s
      → ComputesNumbered vs ids u e clip defect w r s words n w' r' s' words'
  by_check c n w' r' s' words' is hn hwords hw hr hs =
      record {
        number = hn ∙ ap number_at is;
        record_words = hwords ∙ ap (λ (d : Result Check Refusal). words_at d clip defect made_of words) is;
        work = hw ∙ ap (λ (d : Result Check Refusal). area_at d (cleared (work_words (length vs) (length ids)) w) w) is;
        raster = hr ∙ ap (λ (d : Result Check Refusal). area_at d (cleared raster_bytes r) r) is;
        surfaces = hs ∙ ap (λ (d : Result Check Refusal). area_at d (surfaces_after vs ids u s) s) is;
      }

  -- where a flag value is none, nothing is done
  pub flags_refused : (t : Bool) → t ≡ flags_fit clip defect → not t ≡ true
      → ComputesNumbered vs ids u e clip defect w r s words 0x8000_0005 w r s words
  unfolding number_at words_at area_at
  flags_refused t is h = by_check (Err Refusal.File) 0x8000_0005 w r s words (fit true t is h) refl refl refl refl refl

  module _ (a : Result Takeoff Refusal) (w' r' : List ℕ) (s' : List Float) (t : Bool) (is : t ≡ flags_fit clip defect) (h : not t ≡ false)
      (made : Computes vs ids u e w r s a w' r' s') where
    -- else the answer is taken over
    numbered : (n : ℕ) (words' : List ℕ) → n ≡ answer_number a → words' ≡ answer_words clip defect words a
        → ComputesNumbered vs ids u e clip defect w r s words n w' r' s' words'
    numbered n words' hn hwords =
        by_check said n w' r' s' words' (fit false t is h)
        (hn ∙ ap answer_number made.answers ∙ number_of_answer said made_of)
        (hwords ∙ ap (answer_words clip defect words) made.answers ∙ words_of_answer said clip defect made_of words)
        made.work made.raster made.surfaces

    -- a record fills the words
    pub filled : (t : Takeoff) (q : MeshQto) (p : Option ProfileDefect) (words' : List ℕ) → a ≡ Ok t → p ≡ profile_at defect
        → q ≡ flagged (eqb clip 1) p t.qto → words' ≡ words_of (record { qto = q; pairs = t.pairs })
        → ComputesNumbered vs ids u e clip defect w r s words 0 w' r' s' words'
    unfolding answer_number answer_words
    filled t q p words' ha hp hq hwords =
        let flags = hq ∙ ap (λ (p' : Option ProfileDefect). flagged (eqb clip 1) p' t.qto) hp in
        numbered 0 words' (sym (ap answer_number ha))
        (hwords ∙ ap (λ (q' : MeshQto). words_of (record { qto = q'; pairs = t.pairs })) flags
        ∙ sym (ap (answer_words clip defect words) ha))

    -- a refusal leaves them
    pub refused : (why : Refusal) → a ≡ Err why
        → ComputesNumbered vs ids u e clip defect w r s words (0x8000_0000 + refusal_number why) w' r' s' words
    unfolding answer_number answer_words
    refused why ha = numbered (0x8000_0000 + refusal_number why) words (sym (ap answer_number ha))
        (sym (ap (answer_words clip defect words) ha))

-- any two numbers that the contract allows are equal, and so is what is left in the record's words and in the areas
pub compute_numbered_one : ComputeNumberedOne
compute_numbered_one vs ids u e clip defect w r s words n m w₁ w₂ r₁ r₂ s₁ s₂ words₁ words₂ x y = (
  x.number ∙ sym y.number,
  x.record_words ∙ sym y.record_words,
  x.work ∙ sym y.work,
  x.raster ∙ sym y.raster,
  x.surfaces ∙ sym y.surfaces,
)
