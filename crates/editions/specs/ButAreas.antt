-- Everything but the four areas by slope does not hang on the edition: of any two outcomes that `compute`'s contract allows for one mesh
-- under two editions that are known.
use Rattle.std.specs.Prelude.{◌≡◌, List, ℕ, T, Float, Result}
use Rattle.ids.specs.declared.refusal.Refusal.{Refusal}
use Rattle.sums.specs.declared.totals.Thresholds.{Thresholds}
use Rattle.sums.specs.Editions.{edition_known}
use Rattle.record.specs.declared.MeshQto.{MeshQto}
use Rattle.qto.specs.declared.Takeoff.{Takeoff}
use Rattle.qto.specs.Full.{takeoff_of}
use Rattle.qto.specs.Compute.{Computes}
use Rattle.road.specs.Agree.{Agree, SameArea}
use Rattle.road.specs.Replaced.{areas_in, replaced}

-- q' is q with its own areas by slope in the place of q's
abbrev pub OtherAreas : MeshQto → MeshQto → Type 0
OtherAreas q q' = q' ≡ replaced q.volume_m3 (areas_in q') q

-- and the pairs are the same, an open shell's too
pub record ButAreas (t t' : Takeoff) : Type 0 where
  pub rest : OtherAreas t.qto t'.qto
  pub pairs : t'.pairs ≡ t.pairs

-- ---- of the definitions, by any two pairs of thresholds (`pair_unseen`)

abbrev pub PairUnseen : Type 0
PairUnseen = (vs : List Float) (ids : List ℕ) (u : Float) (p p' : Thresholds) → ButAreas (takeoff_of vs ids u p) (takeoff_of vs ids u p')

-- ---- of the contract: the same refusal, or two such records; the same rows in the surface area, the same work words and raster
-- (`edition_unseen`)

abbrev pub EditionUnseen : Type 0
EditionUnseen =
    (vs : List Float) (ids : List ℕ) (u : Float) (e e' : ℕ) (w r : List ℕ) (s : List Float) (a a' : Result Takeoff Refusal)
    (w₁ w₂ r₁ r₂ : List ℕ)
    (s₁ s₂ : List Float)
    → T (edition_known e) → T (edition_known e') → Computes vs ids u e w r s a w₁ r₁ s₁ → Computes vs ids u e' w r s a' w₂ r₂ s₂
    → Agree ButAreas SameArea a a' w₁ w₂ r₁ r₂ s₁ s₂
