-- The glove for the C interface, from that for the record: the words are made of the record. Assumes nothing.
use Rattle.std.specs.Prelude.{Option}
use mathlib.Core.Path.{◌≡◌, refl}
use mathlib.Core.Bool.{Bool}
use mathlib.Core.List.{List}
use Prim.Native.Nat.{ℕ}
use lib.Dec.{T, eqb}
use lib.Ieee.{Float, binary32, fits, of_bits}
use lib.Ieee.Bits.{of_bits-to_bits}
use Rattle.ieee.proofs.Patterns.Narrowed.{rounded_fits}
use Rattle.ids.specs.Reversed.{reversed}
use Rattle.ids.proofs.Reversed.{reversed_is}
use Rattle.record.specs.declared.ProfileDefect.{ProfileDefect}
use Rattle.record.specs.declared.MeshQto.{MeshQto}
use Rattle.record.specs.Flags.{marked, flagged}
use Rattle.record.specs.Numbers.{profile_at}
use Rattle.record.proofs.Kept.{flags_leave}
use Rattle.sums.specs.declared.totals.Thresholds.{Thresholds}
use Rattle.sums.specs.Editions.{thresholds_of}
use Rattle.qto.specs.declared.Takeoff.{Takeoff}
use Rattle.qto.specs.Full.{record_of, record_by, record_from, measures, measures_from, volume_of, takeoff_of}
use Rattle.qto.specs.Compute.{zero_takeoff}
use Rattle.qto.specs.Numbers.{words_of, with_flags}
use Rattle.road.specs.Agree.{Beside}
use Rattle.road.specs.Replaced.{replaced}
use Rattle.road.proofs.Outcomes.{zero_beside}
use Rattle.road.proofs.Numbered.{AlikeNumbered, words_agree, flagged_pairs, numbered_agree, refused_at}
use Rattle.glove.specs.Turned.{turned_over, volume_as_number, TurnedRecords, TurnedRows}
use Rattle.glove.specs.Numbered.{volume_word_as_number, turned_words, TurnedWordsBy, TurnedWords, TurnedAreaBy, TurnedNumberedArea}
use Rattle.glove.specs.Numbered.{GloveNumbered}
use Rattle.glove.proofs.Flags.{flags_turn}
use Rattle.glove.proofs.Glove.{check_same, no_rows, rows_after, takeoffs_turned, zero_turned}

-- ---- a record's volume is of binary32, flagged or not

flagged_volume : (clip : Bool) (profile : Option ProfileDefect) (q : MeshQto) → (flagged clip profile q).volume_m3 ≡ q.volume_m3
unfolding marked
flagged_volume = flags_leave (λ q. q.volume_m3) (λ to p q. refl)

flagged_count : (clip : Bool) (profile : Option ProfileDefect) (q : MeshQto) → (flagged clip profile q).surface_count ≡ q.surface_count
unfolding marked
flagged_count = flags_leave (λ q. q.surface_count) (λ to p q. refl)

record_fits : (vs : List Float) (ids : List ℕ) (u : Float) (p : Thresholds) → T (fits binary32 (record_of vs ids u p).volume_m3)
unfolding record_of record_by record_from measures measures_from volume_of
record_fits vs ids u p = rounded_fits binary32 _

-- ---- so its words are turned as it is, and those of the pairs stay

-- with another record
abbrev over : Takeoff → MeshQto → Takeoff
over t q = record { qto = q; pairs = t.pairs }

module _ (t : Takeoff) (h : T (fits binary32 t.qto.volume_m3)) where
  words_turned : turned_words (words_of t) ≡ words_of (over t (turned_over t.qto))
  unfolding words_of replaced
  words_turned = rw (of_bits-to_bits binary32 t.qto.volume_m3 h)

  words_numbered : volume_word_as_number (words_of t) ≡ words_of (over t (volume_as_number t.qto))
  unfolding words_of replaced
  words_numbered = rw (of_bits-to_bits binary32 t.qto.volume_m3 h)

turned_by : (t t' : Takeoff) → T (fits binary32 t.qto.volume_m3) → T (fits binary32 t'.qto.volume_m3)
    → Beside TurnedRecords t t' → TurnedWords 0 (words_of t) (words_of t')
unfolding TurnedWordsBy replaced
turned_by t t' h h' b =
    rw (words_turned t h, words_numbered t' h')
    (words_agree (over t (turned_over t.qto)) (over t' (volume_as_number t'.qto)) (record { records = b.records; pairs = b.pairs }))

-- ---- two outcomes

module _ (clip defect : ℕ) where
  abbrev with : Takeoff → Takeoff
  with t = with_flags clip defect t

  with_fits : (t : Takeoff) → T (fits binary32 t.qto.volume_m3) → T (fits binary32 (with t).qto.volume_m3)
  with_fits t h = rw (flagged_volume (eqb clip 1) (profile_at defect) t.qto) h

  words_for : (t t' : Takeoff) → T (fits binary32 t.qto.volume_m3) → T (fits binary32 t'.qto.volume_m3)
      → Beside TurnedRecords t t' → TurnedWords 0 (words_of (with t)) (words_of (with t'))
  words_for t t' h h' b =
      turned_by (with t) (with t') (with_fits t h) (with_fits t' h')
      (record {
        records = flags_turn (eqb clip 1) (profile_at defect) t.qto t'.qto b.records;
        pairs = flagged_pairs clip defect t t' b.pairs;
      })

  rows_for : (t : Takeoff) (s s' : List Float) → TurnedRows t.qto.surface_count s s' → TurnedNumberedArea 0 (words_of (with t)) s s'
  unfolding TurnedAreaBy words_of
  rows_for t s s' h = rw (flagged_count (eqb clip 1) (profile_at defect) t.qto) h

full_fits : (vs : List Float) (ids : List ℕ) (u : Float) (p : Thresholds) → T (fits binary32 (takeoff_of vs ids u p).qto.volume_m3)
unfolding takeoff_of
full_fits vs ids u p = record_fits vs ids u p

zero_fits : T (fits binary32 zero_takeoff.qto.volume_m3)
zero_fits = unfold fits of_bits in tt

alike : (vs : List Float) (ids : List ℕ) (u : Float) (e clip defect : ℕ) (s : List Float) (words : List ℕ)
    → AlikeNumbered TurnedWords TurnedNumberedArea vs vs ids (reversed ids) u e e clip defect s words
unfolding TurnedWordsBy TurnedAreaBy takeoff_of
alike vs ids u e clip defect s words =
    let p = thresholds_of e in
    record {
      checks = check_same vs ids u e;
      lengths = rw (reversed_is ids).long;
      refused = λ n. rw (refused_at n) refl;
      refused_rows = λ n. rw (refused_at n) refl;
      zero_record_lem = words_for clip defect zero_takeoff zero_takeoff zero_fits zero_fits (zero_beside TurnedRecords zero_turned);
      zero_rows = rows_for clip defect zero_takeoff s s (no_rows s);
      full = λ k. words_for clip defect (takeoff_of vs ids u p) (takeoff_of vs (reversed ids) u p) (full_fits vs ids u p)
          (full_fits vs (reversed ids) u p) (takeoffs_turned vs ids u e k);
      full_rows = λ k. rows_for clip defect (takeoff_of vs ids u p) _ _ (rows_after vs ids u e p s k);
    }

pub glove_numbered : GloveNumbered
glove_numbered vs ids u e clip defect w r s words n n' w₁ w₂ r₁ r₂ s₁ s₂ words₁ words₂ c c' =
    numbered_agree TurnedWords TurnedNumberedArea vs vs ids (reversed ids) u e e clip defect s words
    (alike vs ids u e clip defect s words) w r n n' w₁ w₂ r₁ r₂ s₁ s₂ words₁ words₂ c c'
