-- The complete contract of the piece count.
use Rattle.std.specs.Prelude.{ℕ, List, Ok, Err, Result}
use Rattle.ids.specs.declared.refusal.Refusal.{Refusal}
use Rattle.ids.specs.Triangles.{triangle_count}
use Rattle.ids.specs.Lent.{Gives, OneGiven}
use Rattle.ids.specs.Pieces.{share_edge, pieces}

-- for these ids and this area, r is the answer and `after` is what the area holds then
abbrev pub PiecesGiven : List ℕ → List ℕ → Result ℕ Refusal → List ℕ → Type 0
PiecesGiven ids area r after = Gives (triangle_count ids) Err (Ok (pieces share_edge ids)) ids area r after

-- it leaves one answer and one area (`pieces_one`)
abbrev pub PiecesOne : Type 0
PiecesOne = OneGiven PiecesGiven
