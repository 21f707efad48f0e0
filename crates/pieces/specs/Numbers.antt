-- The contract of the C form: the same routine, its answer as a number. A refusal n is 2^31 + n.
use Rattle.std.specs.Prelude.{ℕ, List}
use Rattle.ids.specs.Triangles.{triangle_count}
use Rattle.ids.specs.Refusal.{refused_number}
use Rattle.ids.specs.Lent.{Gives}
use Rattle.ids.specs.Pieces.{share_edge, pieces}

abbrev pub PiecesNumbered : List ℕ → List ℕ → ℕ → List ℕ → Type 0
PiecesNumbered ids area r after = Gives (triangle_count ids) refused_number (pieces share_edge ids) ids area r after
