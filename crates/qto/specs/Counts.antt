-- Left out (02, A1): in every full record the three counts of triangles add up to the number of complete triples. (`full_counts`)
use Rattle.std.specs.Prelude.{◌≡◌, ℕ, ◌+◌, List, length, Float, Result, Ok}
use Rattle.ids.specs.declared.refusal.Refusal.{Refusal}
use Rattle.ids.specs.Triangles.{triangle_count}
use Rattle.refusals.specs.declared.Check.{Check}
use Rattle.refusals.specs.Refusals.{check_of}
use Rattle.qto.specs.declared.Takeoff.{Takeoff}
use Rattle.qto.specs.Compute.{Computes}

abbrev pub FullCounts : Type 0
FullCounts =
    (vs : List Float) (ids : List ℕ) (u : Float) (e : ℕ) (w r : List ℕ) (s : List Float) (a : Result Takeoff Refusal) (w' r' : List ℕ)
    (s' : List Float)
    (t : Takeoff)
    → Computes vs ids u e w r s a w' r' s' → a ≡ Ok t → check_of vs ids u e (length w) (length r) (length s) ≡ Ok Check.Full
    → t.qto.triangles_used + t.qto.triangles_out_of_range + t.qto.triangles_sliver ≡ triangle_count ids
