-- What comes back, by what the table of refusals says; what holds of every record that does; and that it is one thing only.
use Rattle.std.specs.Prelude.{Result, Ok, Err}
use Rattle.std.proofs.Common.{◌≡◌, ℕ, List, length, sym, refl, ap, ◌∙◌, subst, arith}
use lib.Ieee.{Float}
use Rattle.ids.specs.declared.refusal.Refusal.{Refusal}
use Rattle.ids.specs.Lent.{cleared}
use Rattle.refusals.specs.declared.Check.{Check}
use Rattle.refusals.specs.Refusals.{check_of, Passes}
use Rattle.refusals.proofs.Checks.{admitted}
use Rattle.sums.specs.Editions.{thresholds_of}
use Rattle.vertices.specs.Areas.{work_words, raster_bytes}
use Rattle.qto.specs.declared.Takeoff.{Takeoff}
use Rattle.qto.specs.Full.{takeoff_of, surfaces_after}
use Rattle.qto.specs.inner.Steps.{Recorded}
use Rattle.qto.specs.Compute.{zero_takeoff, answer_at, area_at, Computes, ComputeOne}

module _ (vs : List Float) (ids : List ℕ) (u : Float) (e : ℕ) (w r : List ℕ) (s : List Float) where
  abbrev said : Result Check Refusal
  said = check_of vs ids u e (length w) (length r) (length s)

  -- the table said k
  module _ (k : Result Check Refusal) (is : k ≡ said) where
    by : {a : Result Takeoff Refusal} {w' r' : List ℕ} {s' : List Float} → a ≡ answer_at k (takeoff_of vs ids u (thresholds_of e))
        → w' ≡ area_at k (cleared (work_words (length vs) (length ids)) w) w → r' ≡ area_at k (cleared raster_bytes r) r
        → s' ≡ area_at k (surfaces_after vs ids u s) s → Computes vs ids u e w r s a w' r' s'
    by ha hw hr hs =
        record {
          answers = ha ∙ ap (λ (c : Result Check Refusal). answer_at c (takeoff_of vs ids u (thresholds_of e))) is;
          work = hw ∙ ap (λ (c : Result Check Refusal). area_at c (cleared (work_words (length vs) (length ids)) w) w) is;
          raster = hr ∙ ap (λ (c : Result Check Refusal). area_at c (cleared raster_bytes r) r) is;
          surfaces = hs ∙ ap (λ (c : Result Check Refusal). area_at c (surfaces_after vs ids u s) s) is;
        }

    pub refused : (why : Refusal) → k ≡ Err why → Computes vs ids u e w r s (Err why) w r s
    unfolding answer_at area_at
    refused why h = by (rw h) (rw h) (rw h) (rw h)

    pub zero : (t : Takeoff) → k ≡ Ok Check.Zero → t ≡ zero_takeoff → Computes vs ids u e w r s (Ok t) w r s
    unfolding answer_at area_at
    zero t h ht = by (rw (h, ht)) (rw h) (rw h) (rw h)

    pub full : {t : Takeoff} {w' r' : List ℕ} {s' : List Float} → k ≡ Ok Check.Full → Recorded vs ids u e w r s t w' r' s'
        → Computes vs ids u e w r s (Ok t) w' r' s'
    unfolding answer_at area_at
    full h q = by (rw (h, q.is)) (rw h q.work) (rw h q.raster) (rw h q.surfaces)

-- what holds of the zero record and its pairs, and of those of a mesh that passes, holds of whatever comes back
pub of_record : (P : Takeoff → Type 0) (vs : List Float) (ids : List ℕ) (u : Float) (e : ℕ) (w r : List ℕ) (s : List Float) → P zero_takeoff
    → (Passes vs ids u e → P (takeoff_of vs ids u (thresholds_of e))) → {a : Result Takeoff Refusal} {w' r' : List ℕ}
    {s' : List Float} {t : Takeoff}
    → Computes vs ids u e w r s a w' r' s' → a ≡ Ok t → P t
unfolding answer_at
of_record P vs ids u e w r s zero_has full-has {a} {w'} {r'} {s'} {t} c is =
    go (check_of vs ids u e (length w) (length r) (length s)) refl (sym c.answers ∙ is)
  where
    go : (k : Result Check Refusal) → k ≡ check_of vs ids u e (length w) (length r) (length s)
        → answer_at k (takeoff_of vs ids u (thresholds_of e)) ≡ Ok t → P t
    go (Err why) k h = let no : ◌≡◌ {A = ℕ} 0 1 = cc in absurd (omega arith)
    go (Ok Check.Zero) k h = let same : zero_takeoff ≡ t = cc in subst P same zero_has
    go (Ok Check.Full) k h =
        let same : takeoff_of vs ids u (thresholds_of e) ≡ t = cc in
        subst P same (full-has (admitted vs ids u e (length w) (length r) (length s) (Ok Check.Full) refl k).mesh)

pub compute_one : ComputeOne
compute_one vs ids u e w r s a a' w₁ w₂ r₁ r₂ s₁ s₂ x y =
    (x.answers ∙ sym y.answers, x.work ∙ sym y.work, x.raster ∙ sym y.raster, x.surfaces ∙ sym y.surfaces)
