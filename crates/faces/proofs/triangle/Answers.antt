-- `faces::triangle` meets its contract: no use where an id repeats, else one, from what the search found and what was written, by the law
-- `adding`. Assumes nothing.
use mathlib.Core.Path.{sym, ◌∙◌}
use Rattle.faces.specs.inner.Rows.{face_of}
use Rattle.faces.proofs.Adding.{FaceSought, seekable, bump_fits, adding}
use Rattle.faces.proofs.Turns.{adds_none, adds_one}
use Rattle.faces.proofs.triangle.Goals as goal
use Rattle.faces.proofs.triangle.Lts as lts
use Rattle.faces.proofs.triangle.Tie.{the-claims}
use Rattle.faces.proofs.triangle.Reads.{Pre, Post}

pub returns-then-not-distinct : goal.returns-then-not-distinct
returns-then-not-distinct c = adds_none _ (rw c.of-corners.ensures at (sym c.distinct.ensures ∙ c.if-not-distinct.true))

pub find-r-requires : goal.find-r-requires
find-r-requires c = seekable c.requires c.home-start.ensures.1

module _ (c : lts.After-weight the-claims Pre Post) where
  sought : FaceSought c.args.ids.now c.args.n c.args.work.now c.args.t (face_of c.of-face.result)
      c.hash.result c.home-start.result c.find-r.result c.weight.result
  sought = record {
    sorting = rw c.of-corners.ensures at c.of-face.ensures;
    hashing = c.hash.ensures;
    homing = c.home-start.ensures.0;
    found = c.find-r.ensures;
    weighed = rw (c.upwards.ensures, c.of-corners.ensures) at c.weight.ensures;
  }

pub bump-requires : goal.bump-requires
bump-requires c = bump_fits c.requires (sought c.before)

pub returns : goal.returns
returns c =
    adds_one _ (rw c.of-corners.ensures at (sym c.distinct.ensures ∙ c.if-not-distinct.false))
    (rw c.bump.ensures (adding c.requires (sought c.before.before.before.before)))
