-- `listing::method_line` meets its contract: case by case the text is the line. Assumes nothing.
use mathlib.Core.Path.{refl}
use native.Mathlib.Omega.{arith}
use Rattle.spelling.specs.Text.{line}
use Rattle.record.specs.Names.{method_name}
use Rattle.listing.proofs.method_line.Goals as goal

pub returns-in-Mesh : goal.returns-in-Mesh
unfolding line method_name
returns-in-Mesh c = rw c.in-Mesh.is (refl, omega arith)

pub returns-in-MeshOpen : goal.returns-in-MeshOpen
unfolding line method_name
returns-in-MeshOpen c = rw c.in-MeshOpen.is (refl, omega arith)

pub returns-in-PrismFallback : goal.returns-in-PrismFallback
unfolding line method_name
returns-in-PrismFallback c = rw c.in-PrismFallback.is (refl, omega arith)

pub returns-in-MeshUnclipped : goal.returns-in-MeshUnclipped
unfolding line method_name
returns-in-MeshUnclipped c = rw c.in-MeshUnclipped.is (refl, omega arith)

pub returns-in-MeshProfileInvalid : goal.returns-in-MeshProfileInvalid
unfolding line method_name
returns-in-MeshProfileInvalid c = rw c.in-MeshProfileInvalid.is (refl, omega arith)
