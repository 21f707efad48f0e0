-- `verdict::judge` meets its contract: box, then volume, then ids, as the definition has them. Assumes nothing.
use mathlib.Core.Path.{◌≡◌, sym}
use mathlib.Core.Bool.{false}
use lib.Ieee.{le}
use Rattle.ieee.specs.Single.{nought}
use Rattle.verdict.specs.Verdict.{too_large, near_zero}
use Rattle.verdict.proofs.Meaning.{no_box, too_large_lem, within_box}
use Rattle.verdict.proofs.judge.Goals as goal
use Rattle.verdict.proofs.judge.Lts as lts
use Rattle.verdict.proofs.judge.Tie.{the-claims}
use Rattle.verdict.proofs.judge.Reads.{Pre, Post}

some : (c : lts.Else1 the-claims Pre Post) → le c.args.s.aabb nought ≡ false
some c = c.if-s.false

pub returns-then-s : goal.returns-then-s
returns-then-s c =
    let a = c.args in
    sym (no_box a.vertices.now a.indices.now a.eps a.s.volume a.s.aabb c.if-s.true)

pub returns-then-size-s : goal.returns-then-size-s
unfolding too_large
returns-then-size-s c =
    let a = c.args in
    sym (too_large_lem a.vertices.now a.indices.now a.eps a.s.volume a.s.aabb (some c.before.before.before.before)
    (rw c.magnitude-size.ensures at c.if-size-s.true))

pub returns : goal.returns
unfolding too_large near_zero
returns c =
    let a = c.args in
    let is = c.magnitude-size.ensures in
    rw (within_box a.vertices.now a.indices.now a.eps a.s.volume a.s.aabb (some c.before.before.before.before.before.before.before.before.before)
    (rw is at c.if-size-s.false)) (rw is at c.by_chain.ensures)
