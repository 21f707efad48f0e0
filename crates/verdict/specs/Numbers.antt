-- The number of a quality, which is the C interface's alone.
use Rattle.std.specs.Prelude.{ℕ}
use Rattle.verdict.specs.declared.Quality.{Quality}

unfoldable pub quality_number : Quality → ℕ
quality_number Quality.Closed = 0
quality_number Quality.OpenShell = 1
quality_number Quality.Degenerate = 2
