-- `rows::quick` meets its contract: the rows are split, and then what is in front and behind changes by itself. Assumes nothing.
use Rattle.std.proofs.Common.{◌≡◌, ◌≤◌, ◌+◌, ◌*◌, ◌++◌, refl, length, drop, length-take-le, length-append, length-drop, arith}
use Rattle.rows.proofs.Counts.{same_then}
use Rattle.rows.proofs.Fours.{keeps_front, keeps_back}
use Rattle.rows.proofs.+quick.Goals as goal

pub returns-else-quick : goal.returns-else-quick
returns-else-quick t c =
    let p = c.split-p.result in
    let s = c.split-p.new.rows in
    let room : 4 * p ≤ length s = omega arith in
    let cut = length-take-le (4 * p) s room in
    same_then c.split-p.ensures.1 (keeps_front p (4 * p) s c.quick.new.rows refl room (omega arith) c.quick.ensures)

pub returns-then-quick : goal.returns-then-quick
returns-then-quick t c =
    let p = c.split-p.result in
    let s = c.split-p.new.rows in
    let room : 4 * p ≤ length s = omega arith in
    let cut = length-take-le (4 * p) s room in
    let front = keeps_front p (4 * p) s c.quick.new.rows refl room (omega arith) c.quick.ensures in
    let r = c.quick.new.rows ++ drop (4 * p) s in
    let long : length r ≡ length s = (omega (arith, length-append c.quick.new.rows (drop (4 * p) s), length-drop (4 * p) s)) in
    same_then (same_then c.split-p.ensures.1 front)
    (keeps_back (p + 1) (4 * p + 4) r c.quick-then-quick.new.rows (omega arith) (omega arith) c.quick-then-quick.ensures)
