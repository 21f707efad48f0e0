-- The record as the C interface has it, with the pairs behind it: 26 words, and refusals as numbers. Flag values that are none are
-- refusal 5, tried first.
use Rattle.std.specs.Prelude.{◌≡◌, ℕ, ◌+◌, cond, not, List, [], ◌∷◌, length, ◌==◌, to_bits, Float, Result, Ok, Err}
use Rattle.std.specs.Float.{binary32}
use Rattle.ids.specs.declared.refusal.Refusal.{Refusal}
use Rattle.ids.specs.Refusal.{refusal_number}
use Rattle.ids.specs.Lent.{cleared}
use Rattle.ids.specs.Uses.{bit}
use Rattle.record.specs.Flags.{flagged}
use Rattle.verdict.specs.Numbers.{quality_number}
use Rattle.volume.specs.Numbers.{method_number}
use Rattle.record.specs.Numbers.{profile_number, profile_at, prism_number, prism_bits, flags_fit}
use Rattle.refusals.specs.declared.Check.{Check}
use Rattle.refusals.specs.Refusals.{check_of}
use Rattle.sums.specs.Editions.{thresholds_of}
use Rattle.vertices.specs.Areas.{work_words, raster_bytes}
use Rattle.qto.specs.declared.Takeoff.{Takeoff}
use Rattle.qto.specs.Full.{takeoff_of, surfaces_after}
use Rattle.qto.specs.Compute.{zero_takeoff, area_at}

-- the 26 words
unfoldable pub words_of : Takeoff → List ℕ
words_of t =
    let q = t.qto in
    quality_number q.mesh_quality
    ∷ bit q.volume_reliable
    ∷ method_number q.volume_method
    ∷ profile_number q.profile_invalid
    ∷ to_bits binary32 q.volume_m3
    ∷ to_bits binary32 q.aabb_volume_m3
    ∷ to_bits binary32 q.surface_area_m2
    ∷ to_bits binary32 q.area_top_m2
    ∷ to_bits binary32 q.area_bottom_m2
    ∷ to_bits binary32 q.area_side_m2
    ∷ to_bits binary32 q.area_inclined_m2
    ∷ to_bits binary32 q.largest_surface_m2
    ∷ to_bits binary32 q.smallest_surface_m2
    ∷ to_bits binary32 q.volume_best_m3
    ∷ prism_number q.volume_prism_bound_m3
    ∷ prism_bits q.volume_prism_bound_m3
    ∷ q.surface_count
    ∷ q.triangles_used
    ∷ q.triangles_out_of_range
    ∷ q.triangles_sliver
    ∷ t.pairs.z.covered
    ∷ t.pairs.z.rim
    ∷ t.pairs.y.covered
    ∷ t.pairs.y.rim
    ∷ t.pairs.x.covered
    ∷ t.pairs.x.rim
    ∷ []

-- flags are the record's; the pairs stay
abbrev pub with_flags : ℕ → ℕ → Takeoff → Takeoff
with_flags clip defect t = record { qto = flagged (clip == 1) (profile_at defect) t.qto; pairs = t.pairs }

-- the number that comes back, and the record's words afterwards
unfoldable pub number_at : Result Check Refusal → ℕ
number_at (Err why) = 0x8000_0000 + refusal_number why
number_at (Ok c) = 0

unfoldable pub words_at : Result Check Refusal → ℕ → ℕ → Takeoff → List ℕ → List ℕ
words_at (Err why) clip defect t words = words
words_at (Ok Check.Zero) clip defect t words = words_of (with_flags clip defect zero_takeoff)
words_at (Ok Check.Full) clip defect t words = words_of (with_flags clip defect t)

unfoldable pub check_flags : ℕ → ℕ → Result Check Refusal → Result Check Refusal
check_flags clip defect c = cond (not (flags_fit clip defect)) (Err Refusal.File) c

abbrev pub check_all : List Float → List ℕ → Float → ℕ → ℕ → ℕ → List ℕ → List ℕ → List Float → Result Check Refusal
check_all vs ids u e clip defect w r s = check_flags clip defect (check_of vs ids u e (length w) (length r) (length s))

-- The contract of mf_compute: `words` are the record's before, words' afterwards, and n is what comes back.
pub record ComputesNumbered (vs : List Float) (ids : List ℕ) (u : Float) (e clip defect : ℕ) (w r : List ℕ) (s : List Float)
    (words : List ℕ) (n : ℕ) (w' r' : List ℕ) (s' : List Float) (words' : List ℕ) : Type 0 where
  pub number : n ≡ number_at (check_all vs ids u e clip defect w r s)
  pub record_words : words' ≡ words_at (check_all vs ids u e clip defect w r s) clip defect (takeoff_of vs ids u (thresholds_of e)) words
  pub work : w' ≡ area_at (check_all vs ids u e clip defect w r s) (cleared (work_words (length vs) (length ids)) w) w
  pub raster : r' ≡ area_at (check_all vs ids u e clip defect w r s) (cleared raster_bytes r) r
  pub surfaces : s' ≡ area_at (check_all vs ids u e clip defect w r s) (surfaces_after vs ids u s) s

-- any two outcomes that it allows are equal (`compute_numbered_one`)
abbrev pub ComputeNumberedOne : Type 0
ComputeNumberedOne =
    (vs : List Float) (ids : List ℕ) (u : Float) (e clip defect : ℕ) (w r : List ℕ) (s : List Float) (words : List ℕ)
    (n m : ℕ) (w₁ w₂ r₁ r₂ : List ℕ) (s₁ s₂ : List Float) (words₁ words₂ : List ℕ)
    → ComputesNumbered vs ids u e clip defect w r s words n w₁ r₁ s₁ words₁
    → ComputesNumbered vs ids u e clip defect w r s words m w₂ r₂ s₂ words₂
    → (n ≡ m) × (words₁ ≡ words₂) × (w₁ ≡ w₂) × (r₁ ≡ r₂) × (s₁ ≡ s₂)
