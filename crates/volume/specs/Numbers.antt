-- The number of a method, which is the C interface's alone.
use Rattle.std.specs.Prelude.{ℕ}
use Rattle.volume.specs.declared.Method.{Method}

unfoldable pub method_number : Method → ℕ
method_number Method.Mesh = 0
method_number Method.MeshOpen = 1
method_number Method.PrismFallback = 2
method_number Method.MeshUnclipped = 3
method_number Method.MeshProfileInvalid = 4
