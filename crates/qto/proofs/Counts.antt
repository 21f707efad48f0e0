-- In every full record the three counts of triangles add up: the record carries those of the mesh, and the mesh passed refusal 4. Assumes
-- nothing.
use Rattle.std.specs.Prelude.{Result, Ok}
use Rattle.std.proofs.Common.{◌≡◌, ℕ, ◌+◌, T, List, length, sym, refl, ap, ◌∙◌}
use lib.Ieee.{Float}
use Rattle.ids.specs.declared.refusal.Refusal.{Refusal}
use Rattle.ids.specs.Triangles.{triangle_count}
use Rattle.sums.specs.declared.totals.Thresholds.{Thresholds}
use Rattle.sums.specs.Editions.{thresholds_of}
use Rattle.sums.specs.Fine.{all_fine}
use Rattle.walk.proofs.Counts.{counts_add_up}
use Rattle.refusals.specs.declared.Check.{Check}
use Rattle.refusals.proofs.Checks.{admitted}
use Rattle.qto.specs.Full.{measures_from, measures, record_from, record_by, record_of, takeoff_of}
use Rattle.qto.specs.Compute.{answer_at}
use Rattle.qto.specs.Counts.{FullCounts}

counts_of_mesh : (vs : List Float) (ids : List ℕ) (u : Float) (p : Thresholds) → T (all_fine vs)
    → (record_of vs ids u p).triangles_used + (record_of vs ids u p).triangles_out_of_range + (record_of vs ids u p).triangles_sliver
    ≡ triangle_count ids
unfolding record_of record_by record_from measures measures_from
counts_of_mesh vs ids u p fine = counts_add_up vs ids fine

pub full_counts : FullCounts
unfolding answer_at takeoff_of
full_counts vs ids u e w r s a w' r' s' t c is k =
    let full : answer_at (Ok Check.Full) (takeoff_of vs ids u (thresholds_of e)) ≡ Ok t =
    ap (λ (x : Result Check Refusal). answer_at x (takeoff_of vs ids u (thresholds_of e))) (sym k) ∙ sym c.answers ∙ is in
    let same : takeoff_of vs ids u (thresholds_of e) ≡ t = cc in
    rw (← same)
    (counts_of_mesh vs ids u (thresholds_of e) (admitted vs ids u e (length w) (length r) (length s) (Ok Check.Full) refl (sym k)).mesh.fine)
