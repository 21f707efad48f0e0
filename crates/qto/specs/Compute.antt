-- What comes back of `compute`, and what it leaves in the lent areas (01): for every input one answer, and one later content of each area.
use Rattle.std.specs.Prelude.{◌≡◌, ℕ, List, length, Float, Result, Ok, Err}
use Rattle.ids.specs.declared.refusal.Refusal.{Refusal}
use Rattle.ids.specs.Lent.{cleared}
use Rattle.record.specs.Record.{zero_record}
use Rattle.refusals.specs.declared.Check.{Check}
use Rattle.refusals.specs.Refusals.{check_of}
use Rattle.sums.specs.Editions.{thresholds_of}
use Rattle.vertices.specs.Areas.{work_words, raster_bytes}
use Rattle.volume.specs.Pairs.{no_pairs}
use Rattle.qto.specs.declared.Takeoff.{Takeoff}
use Rattle.qto.specs.Full.{takeoff_of, surfaces_after}

-- the zero record, and no pairs
abbrev pub zero_takeoff : Takeoff
zero_takeoff = record { qto = zero_record; pairs = no_pairs }

-- a refusal returns its number only
unfoldable pub answer_at : Result Check Refusal → Takeoff → Result Takeoff Refusal
answer_at (Err why) t = Err why
answer_at (Ok Check.Zero) t = Ok zero_takeoff
answer_at (Ok Check.Full) t = Ok t

-- refusals and the zero record leave a lent area untouched
unfoldable pub area_at : {A : Type 0} → Result Check Refusal → List A → List A → List A
area_at (Err why) after area = area
area_at (Ok Check.Zero) after area = area
area_at (Ok Check.Full) after area = after

-- The complete contract: of floats vs, ids, a unit u, an edition e, and lent work area w, raster r and surface area s come the answer a and
-- the later w', r' and s'.
pub record Computes (vs : List Float) (ids : List ℕ) (u : Float) (e : ℕ) (w r : List ℕ) (s : List Float) (a : Result Takeoff Refusal)
    (w' r' : List ℕ)
    (s' : List Float) : Type 0 where
  pub answers : a ≡ answer_at (check_of vs ids u e (length w) (length r) (length s)) (takeoff_of vs ids u (thresholds_of e))
  pub work : w' ≡ area_at (check_of vs ids u e (length w) (length r) (length s)) (cleared (work_words (length vs) (length ids)) w) w
  pub raster : r' ≡ area_at (check_of vs ids u e (length w) (length r) (length s)) (cleared raster_bytes r) r
  pub surfaces : s' ≡ area_at (check_of vs ids u e (length w) (length r) (length s)) (surfaces_after vs ids u s) s

-- any two answers that the contract allows are equal, and so is what is left in the areas (`compute_one`)
abbrev pub ComputeOne : Type 0
ComputeOne =
    (vs : List Float) (ids : List ℕ) (u : Float) (e : ℕ) (w r : List ℕ) (s : List Float) (a a' : Result Takeoff Refusal)
    (w₁ w₂ r₁ r₂ : List ℕ)
    (s₁ s₂ : List Float)
    → Computes vs ids u e w r s a w₁ r₁ s₁ → Computes vs ids u e w r s a' w₂ r₂ s₂ → (a ≡ a') × (w₁ ≡ w₂) × (r₁ ≡ r₂) × (s₁ ≡ s₂)
