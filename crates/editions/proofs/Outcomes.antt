-- Two editions that are known meet the same row of the table of refusals, and so the same answer but for the areas. Assumes nothing.
use mathlib.Core.Path.{◌≡◌, refl}
use mathlib.Core.Bool.{Bool, true, false}
use mathlib.Core.List.{List}
use Prim.Native.Nat.{ℕ}
use lib.Dec.{T}
use lib.Ieee.{Float}
use Rattle.sums.specs.Editions.{edition_known, thresholds_of}
use Rattle.refusals.specs.Refusals.{check_of}
use Rattle.road.specs.Agree.{SameArea}
use Rattle.road.specs.Replaced.{replaced}
use Rattle.road.proofs.Outcomes.{Alike, outcomes_agree}
use Rattle.editions.specs.ButAreas.{ButAreas, EditionUnseen}
use Rattle.editions.proofs.Record.{pair_unseen}

both : (a b : Bool) → T a → T b → b ≡ a
both true true h k = refl
both true false h k = absurd k
both false b h k = absurd h

module _ (vs : List Float) (ids : List ℕ) (u : Float) (e e' : ℕ) (h : T (edition_known e)) (h' : T (edition_known e')) where
  pub check_same : (w r s : ℕ) → check_of vs ids u e' w r s ≡ check_of vs ids u e w r s
  unfolding check_of
  check_same w r s = rw (both (edition_known e) (edition_known e') h h')

  alike : (s : List Float) → Alike ButAreas SameArea vs vs ids ids u e e' s
  alike s =
      record {
        checks = check_same;
        lengths = refl;
        refused = λ n. refl;
        zero_record_lem = record { rest = unfold replaced in refl; pairs = refl };
        zero_rows = refl;
        full = λ passes. pair_unseen vs ids u (thresholds_of e) (thresholds_of e');
        full_rows = λ passes. refl;
      }

pub edition_unseen : EditionUnseen
edition_unseen vs ids u e e' w r s a a' w₁ w₂ r₁ r₂ s₁ s₂ h h' c c' =
    outcomes_agree ButAreas SameArea vs vs ids ids u e e' s (alike vs ids u e e' h h' s) w r a a' w₁ w₂ r₁ r₂ s₁ s₂ c c'
