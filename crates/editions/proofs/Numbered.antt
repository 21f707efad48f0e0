-- The same of the C form: flags leave the areas alone, and the words are made of the record. Assumes nothing.
use mathlib.Core.Path.{◌≡◌, refl, sym, ◌∙◌, ap, subst}
use mathlib.Core.List.{List}
use Prim.Native.Nat.{ℕ}
use lib.Dec.{T, eqb}
use lib.Ieee.{Float, binary32, fits, of_bits}
use lib.Ieee.Bits.{of_bits-to_bits}
use lib.Ieee.Fits.{mul-fits}
use Rattle.sums.specs.declared.totals.Areas.{Areas}
use Rattle.sums.specs.declared.totals.Thresholds.{Thresholds}
use Rattle.sums.specs.Editions.{edition_known, thresholds_of}
use Rattle.walk.specs.Domain.{EachArea}
use Rattle.record.specs.Flags.{marked, flagged}
use Rattle.record.specs.Numbers.{profile_at}
use Rattle.record.proofs.Kept.{flags_leave}
use Rattle.qto.specs.declared.Takeoff.{Takeoff}
use Rattle.qto.specs.Full.{measures_from, measures, record_from, record_by, record_of, takeoff_of}
use Rattle.qto.specs.Compute.{zero_takeoff}
use Rattle.qto.specs.Numbers.{words_of, with_flags}
use Rattle.road.specs.Numbered.{without, SameNumberedArea}
use Rattle.road.specs.Replaced.{areas_in, replaced}
use Rattle.road.proofs.Flags.{flags_replace}
use Rattle.road.proofs.Numbered.{AlikeNumbered, numbered_agree, refused_at}
use Rattle.editions.specs.ButAreas.{ButAreas}
use Rattle.editions.specs.Moves.{TakeoffMoves}
use Rattle.editions.specs.Numbered.{but_slopes, SameButSlopes, EditionUnseenNumbered}
use Rattle.editions.specs.Numbered.{areas_in_words, WordsMoveBy, WordsMove, SecondMovesNumbered}
use Rattle.editions.proofs.Record.{pair_unseen}
use Rattle.editions.proofs.Outcomes.{check_same}
use Rattle.editions.proofs.Moves.{takeoffs_move, zero_moves}

-- words without the four do not see them
words_same : (t t' : Takeoff) (areas : Areas) → t'.qto ≡ replaced t.qto.volume_m3 areas t.qto → t'.pairs ≡ t.pairs
    → SameButSlopes 0 (words_of t) (words_of t')
unfolding but_slopes words_of without replaced
words_same t t' areas q p = rw (q, p)

flagged_same : (clip defect : ℕ) (t t' : Takeoff) → ButAreas t t'
    → SameButSlopes 0 (words_of (with_flags clip defect t)) (words_of (with_flags clip defect t'))
flagged_same clip defect t t' b =
    let areas = areas_in t'.qto in
    let profile = profile_at defect in
    words_same (with_flags clip defect t) (with_flags clip defect t') areas
    (ap (flagged (eqb clip 1) profile) b.rest ∙ flags_replace (λ v. v) (λ a. areas) (eqb clip 1) profile t.qto) b.pairs

alike : (vs : List Float) (ids : List ℕ) (u : Float) (e e' clip defect : ℕ) (s : List Float) (words : List ℕ) → T (edition_known e)
    → T (edition_known e') → AlikeNumbered SameButSlopes SameNumberedArea vs vs ids ids u e e' clip defect s words
alike vs ids u e e' clip defect s words h h' =
    record {
      checks = check_same vs ids u e e' h h';
      lengths = refl;
      refused = λ n. refl;
      refused_rows = λ n. refl;
      zero_record_lem = refl;
      zero_rows = refl;
      full = λ passes. flagged_same clip defect (takeoff_of vs ids u (thresholds_of e)) (takeoff_of vs ids u (thresholds_of e'))
          (pair_unseen vs ids u (thresholds_of e) (thresholds_of e'));
      full_rows = λ passes. refl;
    }

pub edition_unseen_numbered : EditionUnseenNumbered
edition_unseen_numbered vs ids u e e' clip defect w r s words n n' w₁ w₂ r₁ r₂ s₁ s₂ words₁ words₂ h h' c c' =
    numbered_agree SameButSlopes SameNumberedArea vs vs ids ids u e e' clip defect s words
    (alike vs ids u e e' clip defect s words h h') w r n n' w₁ w₂ r₁ r₂ s₁ s₂ words₁ words₂ c c'

-- ---- from edition 1 to edition 2

abbrev Singles : Areas → Type 0
Singles a = EachArea (λ x. T (fits binary32 x)) a

-- the words of a record whose areas are of f32 have them, flags or none
words_areas : (t : Takeoff) → Singles (areas_in t.qto) → areas_in_words (words_of t) ≡ areas_in t.qto
unfolding words_of
words_areas t h =
    λ i.
    record {
      top = of_bits-to_bits binary32 t.qto.area_top_m2 h.top i;
      bottom = of_bits-to_bits binary32 t.qto.area_bottom_m2 h.bottom i;
      side = of_bits-to_bits binary32 t.qto.area_side_m2 h.side i;
      inclined = of_bits-to_bits binary32 t.qto.area_inclined_m2 h.inclined i;
    }

module _ (clip defect : ℕ) where
  flagged_areas : (t : Takeoff) → Singles (areas_in t.qto) → areas_in_words (words_of (with_flags clip defect t)) ≡ areas_in t.qto
  unfolding marked
  flagged_areas t h =
      let same = flags_leave areas_in (λ to p x. refl) (eqb clip 1) (profile_at defect) t.qto in
      words_areas (with_flags clip defect t) (subst Singles (sym same) h) ∙ same

  words_move : (t t' : Takeoff) → Singles (areas_in t.qto) → Singles (areas_in t'.qto) → TakeoffMoves t t'
      → WordsMove 0 (words_of (with_flags clip defect t)) (words_of (with_flags clip defect t'))
  unfolding WordsMoveBy
  words_move t t' h h' m = rw (flagged_areas t h, flagged_areas t' h') m

zero_singles : Singles (areas_in zero_takeoff.qto)
unfolding fits of_bits
zero_singles = record { top = tt; bottom = tt; side = tt; inclined = tt }

full_singles : (vs : List Float) (ids : List ℕ) (u : Float) (p : Thresholds) → Singles (areas_in (takeoff_of vs ids u p).qto)
unfolding takeoff_of record_of record_by record_from measures measures_from
full_singles vs ids u p =
    record {
      top = mul-fits binary32 _ _;
      bottom = mul-fits binary32 _ _;
      side = mul-fits binary32 _ _;
      inclined = mul-fits binary32 _ _;
    }

moves_alike : (vs : List Float) (ids : List ℕ) (u : Float) (clip defect : ℕ) (s : List Float) (words : List ℕ)
    → AlikeNumbered WordsMove SameNumberedArea vs vs ids ids u 1 2 clip defect s words
unfolding edition_known WordsMoveBy
moves_alike vs ids u clip defect s words =
    record {
      checks = check_same vs ids u 1 2 tt tt;
      lengths = refl;
      refused = λ n. rw (refused_at n) refl;
      refused_rows = λ n. refl;
      zero_record_lem = words_move clip defect zero_takeoff zero_takeoff zero_singles zero_singles zero_moves;
      zero_rows = refl;
      full = λ passes. words_move clip defect (takeoff_of vs ids u (thresholds_of 1)) (takeoff_of vs ids u (thresholds_of 2))
          (full_singles vs ids u (thresholds_of 1)) (full_singles vs ids u (thresholds_of 2)) (takeoffs_move vs ids u passes);
      full_rows = λ passes. refl;
    }

pub second_moves_numbered : SecondMovesNumbered
second_moves_numbered vs ids u clip defect w r s words n n' w₁ w₂ r₁ r₂ s₁ s₂ words₁ words₂ c c' =
    numbered_agree WordsMove SameNumberedArea vs vs ids ids u 1 2 clip defect s words (moves_alike vs ids u clip defect s words) w r n n'
    w₁ w₂ r₁ r₂ s₁ s₂ words₁ words₂ c c'
