-- `rows::settle` meets its contract. Rows 0 to i are rising but for row j, which goes back; when it stops they all are. Assumes nothing.
use mathlib.Core.Path.{refl, ◌∙◌, sym}
use Prim.Native.Nat.{◌-◌}
use native.Mathlib.Omega.{arith}
use Rattle.rows.proofs.Counts.{same_rows}
use Rattle.rows.proofs.Flat.{row_inside}
use Rattle.rows.proofs.Sinking.{swap_keeps, sinking_start, sinking_step, sinking_end}
use Rattle.rows.proofs.settle.Goals as goal

pub loop-j-init : goal.loop-j-init
loop-j-init c =
    (omega arith, refl, same_rows, sinking_start c.args.gap c.requires.1 c.requires.2)

pub returns-then-not-ahead : goal.returns-then-not-ahead
returns-then-not-ahead c =
    record {
      same = c.loop-j.invariant.2;
      rising =
          sinking_end c.args.gap c.requires.1 c.loop-j.invariant.3 (λ h. sym c.ahead.ensures ∙ c.if-not-ahead.true);
    }

pub loop-j-preserved : goal.loop-j-preserved
loop-j-preserved c =
    let l = c.loop-j in
    let j = l.j in (
      omega arith,
      omega (arith, c.swap.auto),
      swap_keeps l.rows (j - c.args.gap) j l.invariant.2 c.swap.ensures (omega arith) (omega arith),
      sinking_step c.args.gap c.requires.1 (omega arith) (omega arith) (row_inside l.rows c.args.i (omega arith)) l.invariant.3
          (sym c.ahead.ensures ∙ c.if-not-ahead.false) c.swap.ensures,
    )

pub returns : goal.returns
returns c =
    let l = c.loop-j in
    record { same = l.invariant.2; rising = sinking_end c.args.gap c.requires.1 l.invariant.3 (λ h. absurd (omega arith)) }
