-- `rows::presort` meets its contract: the quick sort and each pass keep the rows, and no gap is 0. Assumes nothing.
use Rattle.std.proofs.Common.{ℕ, zero, suc, ◌<◌, ◌∷◌, [], get_or, arith}
use Rattle.rows.proofs.Counts.{same_rows, same_then}
use Rattle.rows.proofs.presort.Goals as goal

some : (k : ℕ) → k < 8 → 0 < get_or (9841 ∷ 3280 ∷ 1093 ∷ 364 ∷ 121 ∷ 40 ∷ 13 ∷ 4 ∷ []) k 0
some zero h = omega arith
some (suc zero) h = omega arith
some (suc (suc zero)) h = omega arith
some (suc (suc (suc zero))) h = omega arith
some (suc (suc (suc (suc zero)))) h = omega arith
some (suc (suc (suc (suc (suc zero))))) h = omega arith
some (suc (suc (suc (suc (suc (suc zero)))))) h = omega arith
some (suc (suc (suc (suc (suc (suc (suc zero))))))) h = omega arith
some (suc (suc (suc (suc (suc (suc (suc (suc k)))))))) h = absurd (omega arith)

pub loop-gap-init : goal.loop-gap-init
loop-gap-init c = same_rows

pub insertion-requires : goal.insertion-requires
insertion-requires c = some c.loop-gap.gap-index (omega arith)

pub loop-gap-preserved : goal.loop-gap-preserved
loop-gap-preserved c = same_then c.loop-gap.invariant c.insertion.ensures.same

pub returns : goal.returns
returns c = same_then c.quick.ensures c.loop-gap.invariant
