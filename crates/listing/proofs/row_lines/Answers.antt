-- `listing::row_lines` meets its contract: each turn puts the line of a row. Assumes nothing.
use Prim.Native.Nat.{◌+◌}
use native.Mathlib.Omega.{arith}
use Rattle.spelling.proofs.Left.{left_all, left_room, left_less, left_none}
use Rattle.listing.proofs.Rows.{lines_from, row_text, lines_next, lines_end, lines_room}
use borrow.Author.Rules.{rules}
use Rattle.listing.proofs.row_lines.Goals as goal

pub loop-i-init : goal.loop-i-init
loop-i-init c =
    let l = lines_room c.args.surfaces.now c.args.n c.requires.0 in
    left_all c.args.at (lines_from c.args.surfaces.now 0) c.args.out.now (omega (arith, c.requires.1))

pub fill-end-requires : goal.fill-end-requires
fill-end-requires c =
    let s = c.args.surfaces.now in
    left_room c.loop-i.invariant (row_text s c.loop-i.i) (lines_from s (c.loop-i.i + 1)) (lines_next s c.loop-i.i (search rules))

pub loop-i-preserved : goal.loop-i-preserved
loop-i-preserved c =
    left_less c.loop-i.invariant _ _ (lines_next _ c.loop-i.i (search rules)) c.fill-end.ensures

pub returns : goal.returns
returns c = left_none c.loop-i.invariant (lines_end _ c.loop-i.i (search rules))
