-- `rows::split` meets its contract: rows change places and are divided. Assumes nothing.
use Rattle.std.proofs.Common.{◌≡◌, length, arith}
use Rattle.rows.proofs.Counts.{same_rows, same_then}
use Rattle.rows.proofs.Sinking.{swap_keeps}
use Rattle.rows.proofs.split.Goals as goal

pub returns : goal.returns
returns c =
    let at_front = swap_keeps c.args.rows.now 0 _ same_rows c.swap.ensures c.requires (omega arith) in
    let both = same_then at_front c.divide-last.ensures.1 in
    let u = c.divide-last.new.rows in
    let long : length u ≡ length c.args.rows.now = omega (arith, c.swap.auto, c.divide-last.auto) in
    (omega arith, swap_keeps u 0 _ both c.swap-2.ensures (omega arith) (omega arith))
