-- `cells::enter` meets its contract: from what the search found and what was written, by the laws `welds_new` and `welds_known`.
-- Assumes nothing.
use native.Mathlib.Omega.{arith}
use Rattle.vertices.specs.Vertices.{vertex_count}
use Rattle.cells.proofs.Welding.{welds_searchable, welds_new, welds_known}
use Rattle.cells.proofs.enter.Goals as goal

pub find-requires : goal.find-requires
find-requires c = welds_searchable c.args.vertices.now c.args.inv c.args.part.now c.args.v c.requires.1 c.requires.0

pub returns-in-Ok : goal.returns-in-Ok
returns-in-Ok c =
    let a = c.args in
    let found = rw c.cell_at-k.ensures at c.in-Ok.ensures in
    rw c.note.ensures (
    welds_known (vertex_count a.vertices.now) a.vertices.now a.inv a.part.now a.v found.0 c.requires.1 c.requires.0.welds found.1 _ (omega (arith, found.2))
    (omega (arith, c.requires.0.words, c.requires.1)))

pub returns-in-Err : goal.returns-in-Err
returns-in-Err c =
    let a = c.args in
    let found = rw c.cell_at-k.ensures at c.in-Err.ensures in
    let claimed = rw c.cell_at-k.ensures at c.claim.ensures in
    rw c.note-in-Err.ensures (
    welds_new (vertex_count a.vertices.now) a.vertices.now a.inv a.part.now a.v c.in-Err.free c.requires.1 c.requires.0.welds found.0 c.claim.new.part found.1
    claimed (omega (arith, c.claim.auto.part, c.requires.0.words, c.requires.1)))
