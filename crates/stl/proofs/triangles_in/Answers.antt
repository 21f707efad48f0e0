-- `stl::triangles_in` meets its contract: the three tests are the definition's, in its order. Assumes nothing.
use mathlib.Core.Path.{sym}
use Prim.Native.Nat.{◌≤◌}
use native.Mathlib.Omega.{arith}
use lib.ListN.{length}
use Rattle.stl.specs.Stl.{stl_count}
use Rattle.stl.proofs.Tests.{under_84, too_many_lem, wrong_length, right_length}
use Rattle.stl.proofs.triangles_in.Goals as goal
use Rattle.stl.proofs.triangles_in.Lts as lts
use Rattle.stl.proofs.triangles_in.Tie.{the-claims}
use Rattle.stl.proofs.triangles_in.Reads.{Pre, Post}

pub returns-then-bytes-lt84 : goal.returns-then-bytes-lt84
returns-then-bytes-lt84 c = sym (under_84 _ _ (omega (arith, c.if-bytes-lt84.true)))

-- the count has been read
module _ (c : lts.After-count_of the-claims Pre Post) where
  whole : 84 ≤ length c.args.bytes.now
  whole = omega (arith, c.if-bytes-lt84.false)

-- and is not above the greatest
few : (c : lts.Else2 the-claims Pre Post) → stl_count c.args.bytes.now ≤ c.args.most
few c = omega (arith, c.if-most-n.false, c.count_of-n.ensures.0)

pub returns-then-most-n : goal.returns-then-most-n
returns-then-most-n c = sym (too_many_lem _ _ (whole c.before.before) (omega (arith, c.if-most-n.true, c.count_of-n.ensures.0)))

pub returns-then-bytes-n : goal.returns-then-bytes-n
returns-then-bytes-n c =
    sym (wrong_length _ _ (whole c.before.before.before) (few c.before.before) (λ q. c.if-bytes-n.true (omega (arith, q, c.count_of-n.ensures.0))))

pub returns : goal.returns
returns c =
    rw c.count_of-n.ensures.0
    (sym (right_length _ _ (whole c.before.before.before) (few c.before.before) (omega (arith, c.if-bytes-n.false, c.count_of-n.ensures.0))))
