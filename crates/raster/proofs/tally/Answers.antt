-- `raster::tally` meets its contract: the two numbers count the bytes before this one. Assumes nothing.
use Rattle.std.proofs.Common.{ℕ, ◌+◌, ◌≤◌, Bool, eqb, ltb, get_or, refl, arith, w32, Fits}
use mir.Val.{bool_byte}
use Rattle.ids.proofs.Bits.{byte_small}
use Rattle.raster.specs.Footprint.{count}
use Rattle.raster.proofs.Counting.{count_next, count_most}
use Rattle.raster.proofs.tally.Goals as goal

-- whatever is tested, one more fits
one_fits : (n : ℕ) (b : Bool) → n ≤ 65536 → Fits w32 (n + bool_byte b)
one_fits n b most = omega (arith, most, byte_small b)

pub loop-cell-init : goal.loop-cell-init
unfolding count
loop-cell-init c = (omega arith, refl, refl)

pub overflow_add-covered : goal.overflow_add-covered
overflow_add-covered c =
    let l = c.loop-cell in
    let counted = count_most (λ k. ltb 0 (get_or c.args.part.now k 0)) l.cell-index in
    one_fits l.covered _ (omega (arith, l.invariant.1, counted, l.invariant.0, c.requires))

pub overflow_add-rim : goal.overflow_add-rim
overflow_add-rim c =
    let l = c.loop-cell in
    let counted = count_most (λ k. eqb (get_or c.args.part.now k 0) 1) l.cell-index in
    one_fits l.rim _ (omega (arith, l.invariant.2, counted, l.invariant.0, c.requires))

pub loop-cell-preserved : goal.loop-cell-preserved
loop-cell-preserved c =
    let l = c.loop-cell in (
      omega (arith, c.loop-cell-test.true),
      count_next (λ k. ltb 0 (get_or c.args.part.now k 0)) l.cell-index l.covered l.invariant.1,
      count_next (λ k. eqb (get_or c.args.part.now k 0) 1) l.cell-index l.rim l.invariant.2,
    )
