-- The contract of `pieces` leaves one answer, and one area afterwards. Assumes nothing.
use Rattle.ids.proofs.Lent.{gives_one}
use Rattle.pieces.specs.Answer.{PiecesOne}

pub pieces_one : PiecesOne
pieces_one ids area r r' after after' = gives_one _ _ _ ids area r r' after after'
