-- `cells::coded` meets its contract: by the sign, as the integer is read back from its bits. Assumes nothing.
use mathlib.Core.Path.{◌≡◌}
use lib.IntN.{ℤ}
use mir.Syntax.{w64}
use mir.Val.{of_z, to_z}
use mir.ValLaws.{to_z-of_z}
use Rattle.cells.proofs.Signs.{rest, Up, from_zero, Down, below}
use Rattle.cells.proofs.coded.Goals as goal
use Rattle.cells.proofs.coded.Goals.{Else-z-ge0, Start, Then-z-ge0}

-- the integer is read back from its bits, and so is what is left of it above -1
module _ (c : Start) where
  abbrev z : ℤ
  z = c.args.z

  kept : to_z w64 (of_z w64 z) ≡ z
  kept = to_z-of_z w64 z c.ranges.z

up : (c : Then-z-ge0) → Up (z c.before)
up c = from_zero (z c.before) c.ranges.z (rw (kept c.before) at c.if-z-ge0.true)

down : (c : Else-z-ge0) → Down (z c.before)
down c = below (z c.before) c.ranges.z (rw (kept c.before) at c.if-z-ge0.false)

rest_kept : (c : Else-z-ge0) → to_z w64 (of_z w64 (rest (z c.before))) ≡ rest (z c.before)
rest_kept c = to_z-of_z w64 (rest (z c.before)) (down c).left

pub returns-then-z-ge0 : goal.returns-then-z-ge0
returns-then-z-ge0 c = rw (kept c.before) (up c).is

pub returns-else-z-ge0 : goal.returns-else-z-ge0
returns-else-z-ge0 c = rw (kept c.before, rest_kept c) (down c).is
