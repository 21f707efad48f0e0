-- The same of the C form: its words are made of the record and its flags, and flag values that are none are refused in both. Assumes
-- nothing.
use Rattle.std.specs.Prelude.{Result, Ok, Err}
use mathlib.Core.Path.{◌≡◌, refl}
use mathlib.Core.Bool.{Bool, true, false, not, cond}
use native.Mathlib.Omega.{arith}
use mathlib.Core.List.{List}
use Prim.Native.Nat.{ℕ, ◌+◌}
use borrow.Author.Tests.{ne_eqb}
use lib.Dec.{eqb}
use lib.ListN.{length}
use lib.Ieee.{Float}
use Rattle.ids.specs.declared.refusal.Refusal.{Refusal}
use Rattle.ids.specs.Refusal.{refusal_number}
use Rattle.sums.specs.Editions.{thresholds_of}
use Rattle.vertices.specs.Areas.{work_words}
use Rattle.verdict.specs.declared.Quality.{Quality}
use Rattle.record.specs.Flags.{marked}
use Rattle.verdict.specs.Numbers.{quality_number}
use Rattle.record.specs.Numbers.{profile_at, flags_fit}
use Rattle.record.proofs.Kept.{flags_leave}
use Rattle.refusals.specs.declared.Check.{Check}
use Rattle.refusals.specs.Refusals.{check_of, Passes}
use Rattle.refusals.proofs.Checks.{admitted}
use Rattle.qto.specs.declared.Takeoff.{Takeoff}
use Rattle.qto.specs.Full.{takeoff_of, surfaces_after}
use Rattle.qto.specs.Compute.{zero_takeoff, area_at}
use Rattle.qto.specs.Numbers.{words_of, with_flags, number_at, words_at, check_flags, ComputesNumbered}
use Rattle.road.specs.Agree.{AgreeBy, AgreePairs, AgreeRecords, Beside}
use Rattle.road.specs.Numbered.{without, owed, AgreeNumbered}

-- ---- words of records that agree

words_by : (v : Quality) (t t' : Takeoff) → t.qto.mesh_quality ≡ v → t'.qto.mesh_quality ≡ v → AgreeBy v t.qto t'.qto
    → AgreePairs v t.pairs t'.pairs → owed 0 (words_of t') ≡ owed 0 (words_of t)
unfolding AgreeBy AgreePairs owed words_of without quality_number
words_by Quality.Closed t t' h h' r p = rw (r, p)
words_by Quality.Degenerate t t' h h' r p = rw (r, p)
words_by Quality.OpenShell t t' h h' r p =
    rw (
      h,
      h',
      r.volume,
      r.aabb,
      r.surface,
      r.top,
      r.bottom,
      r.side,
      r.inclined,
      r.largest,
      r.smallest,
      r.count,
      r.profile,
      r.bounded,
      r.used,
      r.out_of_range,
      r.sliver,
    )

pub words_agree : (t t' : Takeoff) → Beside AgreeRecords t t' → owed 0 (words_of t') ≡ owed 0 (words_of t)
words_agree t t' b = words_by t.qto.mesh_quality t t' refl b.records.verdict b.records.rest b.pairs

-- flags leave the verdict alone, and so the pairs agree as they did
pub flagged_pairs : (clip defect : ℕ) (t t' : Takeoff) → AgreePairs t.qto.mesh_quality t.pairs t'.pairs
    → AgreePairs (with_flags clip defect t).qto.mesh_quality t.pairs t'.pairs
unfolding marked
flagged_pairs clip defect t t' a =
    rw (flags_leave (λ q. q.mesh_quality) (λ to p q. refl) (eqb clip 1) (profile_at defect) t.qto) a

-- ---- two outcomes

-- a refusal is no answer
pub refused_at : (n : ℕ) → eqb (0x8000_0000 + n) 0 ≡ false
refused_at n = ne_eqb (0x8000_0000 + n) 0 (λ e. omega arith)

-- what has to hold of a relation of words and one of surface areas, for two meshes, two editions, one area and one record's words before
pub record AlikeNumbered (W : ℕ → List ℕ → List ℕ → Type 0) (S : ℕ → List ℕ → List Float → List Float → Type 0) (vs vs' : List Float)
    (ids ids' : List ℕ) (u : Float) (e e' clip defect : ℕ) (s : List Float) (words : List ℕ) : Type 0 where
  pub checks : (w r s : ℕ) → check_of vs' ids' u e' w r s ≡ check_of vs ids u e w r s
  pub lengths : work_words (length vs') (length ids') ≡ work_words (length vs) (length ids)
  pub refused : (n : ℕ) → W (0x8000_0000 + n) words words
  pub refused_rows : (n : ℕ) → S (0x8000_0000 + n) words s s
  pub zero_record_lem : W 0 (words_of (with_flags clip defect zero_takeoff)) (words_of (with_flags clip defect zero_takeoff))
  pub zero_rows : S 0 (words_of (with_flags clip defect zero_takeoff)) s s
  pub full : Passes vs ids u e
      → W 0 (words_of (with_flags clip defect (takeoff_of vs ids u (thresholds_of e))))
      (words_of (with_flags clip defect (takeoff_of vs' ids' u (thresholds_of e'))))
  pub full_rows : Passes vs ids u e
      → S 0 (words_of (with_flags clip defect (takeoff_of vs ids u (thresholds_of e)))) (surfaces_after vs ids u s) (surfaces_after vs' ids' u s)

module _ (W : ℕ → List ℕ → List ℕ → Type 0) (S : ℕ → List ℕ → List Float → List Float → Type 0) (vs vs' : List Float)
    (ids ids' : List ℕ) (u : Float) (e e' clip defect : ℕ) (s : List Float) (words : List ℕ)
    (k : AlikeNumbered W S vs vs' ids ids' u e e' clip defect s words) where
  abbrev made : Takeoff
  made = takeoff_of vs ids u (thresholds_of e)

  abbrev made' : Takeoff
  made' = takeoff_of vs' ids' u (thresholds_of e')

  abbrev words_as : Result Check Refusal → Takeoff → List ℕ
  words_as c t = words_at c clip defect t words

  words_at_lem : (c : Result Check Refusal) → (c ≡ Ok Check.Full → Passes vs ids u e) → W (number_at c) (words_as c made) (words_as c made')
  unfolding number_at words_at
  words_at_lem (Err why) passes = k.refused (refusal_number why)
  words_at_lem (Ok Check.Zero) passes = k.zero_record_lem
  words_at_lem (Ok Check.Full) passes = k.full (passes refl)

  rows_at : (c : Result Check Refusal) → (c ≡ Ok Check.Full → Passes vs ids u e)
      → S (number_at c) (words_as c made) (area_at c (surfaces_after vs ids u s) s) (area_at c (surfaces_after vs' ids' u s) s)
  unfolding number_at words_at area_at
  rows_at (Err why) passes = k.refused_rows (refusal_number why)
  rows_at (Ok Check.Zero) passes = k.zero_rows
  rows_at (Ok Check.Full) passes = k.full_rows (passes refl)

  -- flags that are none are refused before anything is asked of the mesh
  fitting : (fit : Bool) (c : Result Check Refusal) → (c ≡ Ok Check.Full → Passes vs ids u e) → cond (not fit)
      (Err Refusal.File) c ≡ Ok Check.Full
      → Passes vs ids u e
  fitting false c passes h = let no : ◌≡◌ {A = ℕ} 0 1 = cc in absurd (no_more no)
    where
      no_more : ◌≡◌ {A = ℕ} 0 1 → ⊥
      no_more e = absurd (omega arith)
  fitting true c passes h = passes h

  pub numbered_agree : (w r : List ℕ) (n n' : ℕ) (w₁ w₂ r₁ r₂ : List ℕ) (s₁ s₂ : List Float) (words₁ words₂ : List ℕ)
      → ComputesNumbered vs ids u e clip defect w r s words n w₁ r₁ s₁ words₁
      → ComputesNumbered vs' ids' u e' clip defect w r s words n' w₂ r₂ s₂ words₂
      → AgreeNumbered W S n n' w₁ w₂ r₁ r₂ s₁ s₂ words₁ words₂
  unfolding check_flags
  numbered_agree w r n n' w₁ w₂ r₁ r₂ s₁ s₂ words₁ words₂ c c' =
      let said = check_of vs ids u e (length w) (length r) (length s) in
      let all = cond (not (flags_fit clip defect)) (Err Refusal.File) said in
      let same = k.checks (length w) (length r) (length s) in
      let passes : all ≡ Ok Check.Full → Passes vs ids u e =
      fitting (flags_fit clip defect) said (λ h. (admitted vs ids u e (length w) (length r) (length s) said h refl).mesh) in
      record {
        number = rw (c.number, c'.number, same);
        record_words = rw (c.number, c.record_words, c'.record_words, same) (words_at_lem all passes);
        work = rw (c.work, c'.work, same, k.lengths);
        raster = rw (c.raster, c'.raster, same);
        surfaces = rw (c.number, c.record_words, c.surfaces, c'.surfaces, same) (rows_at all passes);
      }
