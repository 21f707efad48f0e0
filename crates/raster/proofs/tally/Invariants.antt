-- What the loop keeps.
use Rattle.std.proofs.Common.{◌≡◌, ◌≤◌, eqb, ltb, length, get_or}
use Rattle.raster.specs.Footprint.{count}
use Rattle.raster.proofs.tally.Given as goal

abbrev pub invariant-loop-cell : goal.invariant-loop-cell
invariant-loop-cell l =
    (l.cell-index ≤ length l.part) × (l.covered ≡ count (λ k. ltb 0 (get_or l.part k 0)) l.cell-index)
    × (l.rim ≡ count (λ k. eqb (get_or l.part k 0) 1) l.cell-index)
