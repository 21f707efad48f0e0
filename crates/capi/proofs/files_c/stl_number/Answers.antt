-- Few triangles leave room for the number of an answer. That it is the definition's is left to the check, case by case, so that only another
-- number is refused, and no other wording. Assumes nothing.
use native.Mathlib.Omega.{arith}
use Prim.Native.Nat.{◌≤◌}
use Rattle.stl.specs.Reading.{most_large}
use Rattle.stl.specs.inner.FewTriangles.{FewTriangles}
use Rattle.capi.proofs.files_c.stl_number.Goals as goal

pub overflow_cast-result : goal.overflow_cast-result
unfolding FewTriangles
overflow_cast-result c = let few : c.in-Ok.n ≤ most_large = rw c.in-Ok.is at c.requires in omega arith
