-- The record and the pairs, from the values that the code has on the way, each a variable here.
use Rattle.std.proofs.Common.{◌≡◌, ℕ, List, ap, ◌∙◌}
use lib.Ieee.{Float}
use Rattle.ieee.specs.Magnitude.{magnitude}
use Rattle.ieee.specs.Single.{◌⊗◌}
use Rattle.sums.specs.declared.bounds.Bounds.{Bounds}
use Rattle.sums.specs.declared.totals.Thresholds.{Thresholds}
use Rattle.sums.specs.Box.{box, box_volume}
use Rattle.weld.specs.Weld.{epsilon_of}
use Rattle.verdict.specs.declared.Quality.{Quality}
use Rattle.verdict.specs.Verdict.{quality}
use Rattle.volume.specs.declared.Best.{Best}
use Rattle.volume.specs.declared.Pairs.{Pairs}
use Rattle.volume.specs.Best.{prism, best_of}
use Rattle.volume.specs.Pairs.{prism_pairs, pairs_of}
use Rattle.qto.specs.declared.Measures.{Measures}
use Rattle.qto.specs.declared.Takeoff.{Takeoff}
use Rattle.qto.specs.Full.{distance, verdict, best, measures, record_from, record_by, record_of, takeoff_of}

pub assembled : (vs : List Float) (ids : List ℕ) (u : Float) (b : Bounds) (m : Measures) (aabb ε : Float) (q : Quality)
    (e : Best) → b ≡ box vs
    → aabb ≡ box_volume b (u ⊗ u ⊗ u) → ε ≡ epsilon_of distance u → q ≡ quality vs ids ε m.volume aabb
    → e ≡ best_of q (magnitude m.volume) m.surface aabb (prism vs ids b (u ⊗ u ⊗ u))
    → record_from m aabb q e ≡ record_by vs ids u m (verdict vs ids u m.volume)
unfolding record_by verdict best
assembled vs ids u b m aabb ε q e hb ha hε hq he = rw (he, hq, hε, ha, hb)

-- the pairs, with the verdict that the code has
pub paired : (vs : List Float) (ids : List ℕ) (u : Float) (b : Bounds) (m : Measures) (aabb ε : Float) (q : Quality) (p : Pairs)
    → b ≡ box vs → aabb ≡ box_volume b (u ⊗ u ⊗ u) → ε ≡ epsilon_of distance u → q ≡ quality vs ids ε m.volume aabb
    → p ≡ pairs_of q (prism_pairs vs ids b) → p ≡ pairs_of (verdict vs ids u m.volume) (prism_pairs vs ids (box vs))
unfolding verdict
paired vs ids u b m aabb ε q p hb ha hε hq hp = rw (hp, hq, hε, ha, hb)

-- the measures are those of the mesh
pub of_mesh : (vs : List Float) (ids : List ℕ) (u : Float) (p : Thresholds) (m : Measures) (t : Takeoff) → m ≡ measures vs ids u p
    → t.qto ≡ record_by vs ids u m (verdict vs ids u m.volume)
    → t.pairs ≡ pairs_of (verdict vs ids u m.volume) (prism_pairs vs ids (box vs)) → t ≡ takeoff_of vs ids u p
unfolding takeoff_of record_of record_by record_from
of_mesh vs ids u p m t hm hq hp =
    let q = hq ∙ ap (λ (n : Measures). record_by vs ids u n (verdict vs ids u n.volume)) hm in
    let both = hp ∙ ap (λ (n : Measures). pairs_of (verdict vs ids u n.volume) (prism_pairs vs ids (box vs))) hm in
    λ i. record { qto = q i; pairs = both i }
