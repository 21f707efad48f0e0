-- `sums::triangle::cross_at` meets its contract. A triangle in range has its corners, and one out of range has no part. Assumes nothing.
use Rattle.std.proofs.Common.{sym, ◌∙◌, arith}
use Rattle.sums.proofs.Parts.{part_in_lem, part_out, corners_are, no_part_yet}
use Rattle.sums.proofs.triangle.cross_at.Goals as goal

pub returns-then-indices-t : goal.returns-then-indices-t
returns-then-indices-t c = λ h. absurd (omega (arith, h))

pub returns-then-not-corners_in_range : goal.returns-then-not-corners_in_range
returns-then-not-corners_in_range c =
    let out = sym c.corners_in_range.ensures ∙ c.if-not-corners_in_range.true in
    λ h. rw (← c.of-corners.ensures, c.nothing-then-not-corners_in_range.ensures)
    (no_part_yet ∙ part_out c.args.vertices.now c.args.origin c.of-corners.result out)

pub corner-p-requires : goal.corner-p-requires
corner-p-requires c =
    let there = corners_are c.args.vertices.now c.of-corners.result (sym c.corners_in_range.ensures ∙ c.if-not-corners_in_range.false) in
    (there.a, c.requires.1)

pub corner-q-requires : goal.corner-q-requires
corner-q-requires c =
    let there = corners_are c.args.vertices.now c.of-corners.result (sym c.corners_in_range.ensures ∙ c.if-not-corners_in_range.false) in
    (there.b, c.requires.1)

pub corner-r-requires : goal.corner-r-requires
corner-r-requires c =
    let there = corners_are c.args.vertices.now c.of-corners.result (sym c.corners_in_range.ensures ∙ c.if-not-corners_in_range.false) in
    (there.c, c.requires.1)

pub returns : goal.returns
returns c =
    let in_range = sym c.corners_in_range.ensures ∙ c.if-not-corners_in_range.false in
    λ h. rw (← c.of-corners.ensures) (c.cross_corners.ensures
    ∙ part_in_lem c.args.vertices.now c.args.origin c.of-corners.result _ _ _ in_range c.corner-p.ensures
    c.corner-q.ensures c.corner-r.ensures)
