-- `sums::bounds::with_vertex` meets its contract. Each bound is taken as the box of one vertex more takes it, and none is a NaN. Assumes
-- nothing.
use Rattle.sums.specs.Box.{box_to, lowest, highest}
use Rattle.sums.proofs.Boxes.{Numbers, bounds_numbers, first_axis}
use Rattle.sums.proofs.bounds.with_vertex.Goals as goal
use Rattle.sums.proofs.bounds.with_vertex.Lts as lts
use Rattle.sums.proofs.bounds.with_vertex.Tie.{the-claims}
use Rattle.sums.proofs.bounds.with_vertex.Reads.{Pre, Post}

-- the vertex is read; no bound so far is a NaN
module _ (c : lts.After-shared_slice_known4 the-claims Pre Post) where
  numbers : Numbers c.args.b
  numbers = bounds_numbers c.args.vertices.now c.args.v c.args.b c.requires.1

pub returns : goal.returns
unfolding box_to lowest highest
returns c =
    rw (
      c.lower.ensures,
      c.lower-2.ensures,
      c.lower-3.ensures,
      c.higher.ensures,
      c.higher-2.ensures,
      c.higher-3.ensures,
      c.requires.1,
      first_axis c.args.v,
    )

pub lower-requires : goal.lower-requires
lower-requires c = (numbers c.before).xmin

pub lower-requires-2 : goal.lower-requires-2
lower-requires-2 c = (numbers c.before.before).ymin

pub lower-requires-3 : goal.lower-requires-3
lower-requires-3 c = (numbers c.before.before.before).zmin

pub higher-requires : goal.higher-requires
higher-requires c = (numbers c.before.before.before.before).xmax

pub higher-requires-2 : goal.higher-requires-2
higher-requires-2 c = (numbers c.before.before.before.before.before).ymax

pub higher-requires-3 : goal.higher-requires-3
higher-requires-3 c = (numbers c.before.before.before.before.before.before).zmax
