-- Outcomes that `compute`'s contract allows for two meshes, each under an edition, agree where their checks, their full records and their
-- rows do: a refusal and the zero record hang on neither; and with one verdict the pairs agree. Assumes nothing.
use Rattle.std.specs.Prelude.{Result, Ok, Err}
use mathlib.Core.Path.{◌≡◌, refl}
use mathlib.Core.List.{List}
use Prim.Native.Nat.{ℕ}
use lib.ListN.{length}
use lib.Ieee.{Float}
use Rattle.ids.specs.declared.refusal.Refusal.{Refusal}
use Rattle.sums.specs.declared.totals.Thresholds.{Thresholds}
use Rattle.sums.specs.Editions.{thresholds_of}
use Rattle.vertices.specs.Areas.{work_words}
use Rattle.verdict.specs.declared.Quality.{Quality}
use Rattle.volume.specs.declared.Pairs.{Pairs}
use Rattle.volume.specs.Pairs.{pairs_of}
use Rattle.record.specs.declared.MeshQto.{MeshQto}
use Rattle.record.specs.Record.{zero_record}
use Rattle.refusals.specs.declared.Check.{Check}
use Rattle.refusals.specs.Refusals.{check_of, Passes}
use Rattle.refusals.proofs.Checks.{admitted}
use Rattle.qto.specs.declared.Takeoff.{Takeoff}
use Rattle.qto.specs.Full.{record_of, takeoff_of, surfaces_after}
use Rattle.qto.specs.Compute.{zero_takeoff, answer_at, area_at, Computes}
use Rattle.road.specs.Agree.{AgreePairs, Beside, AgreeAnswers, Agree}

-- what has to hold of a relation of records with their pairs and one of surface areas, for two meshes, two editions and one area before
pub record Alike (R : Takeoff → Takeoff → Type 0) (S : Result Takeoff Refusal → List Float → List Float → Type 0) (vs vs' : List Float)
    (ids ids' : List ℕ) (u : Float) (e e' : ℕ) (s : List Float) : Type 0 where
  pub checks : (w r s : ℕ) → check_of vs' ids' u e' w r s ≡ check_of vs ids u e w r s
  pub lengths : work_words (length vs') (length ids') ≡ work_words (length vs) (length ids)
  pub refused : (why : Refusal) → S (Err why) s s
  pub zero_record_lem : R zero_takeoff zero_takeoff
  pub zero_rows : S (Ok zero_takeoff) s s
  pub full : Passes vs ids u e → R (takeoff_of vs ids u (thresholds_of e)) (takeoff_of vs' ids' u (thresholds_of e'))
  pub full_rows : Passes vs ids u e
      → S (Ok (takeoff_of vs ids u (thresholds_of e))) (surfaces_after vs ids u s) (surfaces_after vs' ids' u s)

-- with one verdict the pairs agree, whatever the prisms' are
pub same_verdict_pairs : (q q' : Quality) (p p' : Pairs) → q' ≡ q → AgreePairs q (pairs_of q p) (pairs_of q' p')
unfolding AgreePairs pairs_of
same_verdict_pairs Quality.Closed q' p p' e = rw e refl
same_verdict_pairs Quality.Degenerate q' p p' e = rw e refl
same_verdict_pairs Quality.OpenShell q' p p' e = tt

-- so two records with one verdict have pairs that agree beside them
pub beside : (R : MeshQto → MeshQto → Type 0) (vs vs' : List Float) (ids ids' : List ℕ) (u : Float) (p : Thresholds)
    → R (record_of vs ids u p) (record_of vs' ids' u p) → (record_of vs' ids' u p).mesh_quality ≡ (record_of vs ids u p).mesh_quality
    → Beside R (takeoff_of vs ids u p) (takeoff_of vs' ids' u p)
unfolding takeoff_of
beside R vs vs' ids ids' u p r same = record { records = r; pairs = same_verdict_pairs _ _ _ _ same }

-- and so has the zero record with itself
pub zero_beside : (R : MeshQto → MeshQto → Type 0) → R zero_record zero_record → Beside R zero_takeoff zero_takeoff
unfolding AgreePairs
zero_beside R r = record { records = r; pairs = refl }

module _ (R : Takeoff → Takeoff → Type 0) (S : Result Takeoff Refusal → List Float → List Float → Type 0) (vs vs' : List Float)
    (ids ids' : List ℕ)
    (u : Float) (e e' : ℕ) (s : List Float) (k : Alike R S vs vs' ids ids' u e e' s) where
  abbrev made : Takeoff
  made = takeoff_of vs ids u (thresholds_of e)

  abbrev made' : Takeoff
  made' = takeoff_of vs' ids' u (thresholds_of e')

  agree_at : (c : Result Check Refusal) → (c ≡ Ok Check.Full → Passes vs ids u e) → AgreeAnswers R (answer_at c made) (answer_at c made')
  unfolding answer_at AgreeAnswers
  agree_at (Err why) passes = refl
  agree_at (Ok Check.Zero) passes = k.zero_record_lem
  agree_at (Ok Check.Full) passes = k.full (passes refl)

  rows_at : (c : Result Check Refusal) → (c ≡ Ok Check.Full → Passes vs ids u e)
      → S (answer_at c made) (area_at c (surfaces_after vs ids u s) s) (area_at c (surfaces_after vs' ids' u s) s)
  unfolding answer_at area_at
  rows_at (Err why) passes = k.refused why
  rows_at (Ok Check.Zero) passes = k.zero_rows
  rows_at (Ok Check.Full) passes = k.full_rows (passes refl)

  pub outcomes_agree : (w r : List ℕ) (a a' : Result Takeoff Refusal) (w₁ w₂ r₁ r₂ : List ℕ) (s₁ s₂ : List Float)
      → Computes vs ids u e w r s a w₁ r₁ s₁ → Computes vs' ids' u e' w r s a' w₂ r₂ s₂ → Agree R S a a' w₁ w₂ r₁ r₂ s₁ s₂
  outcomes_agree w r a a' w₁ w₂ r₁ r₂ s₁ s₂ c c' =
      let said = check_of vs ids u e (length w) (length r) (length s) in
      let same = k.checks (length w) (length r) (length s) in
      let passes : said ≡ Ok Check.Full → Passes vs ids u e = λ h.
      (admitted vs ids u e (length w) (length r) (length s) said h refl).mesh in
      record {
        answers = rw (c.answers, c'.answers, same) (agree_at said passes);
        work = rw (c.work, c'.work, same, k.lengths);
        raster = rw (c.raster, c'.raster, same);
        surfaces = rw (c.answers, c.surfaces, c'.surfaces, same) (rows_at said passes);
      }
