-- `rows::get` meets its contract: the array of four is row j. Assumes nothing.
use Rattle.std.proofs.Common.{length, ◌/◌, arith}
use Rattle.rows.proofs.Fours.{row_of_four}
use Rattle.rows.proofs.get.Goals as goal

pub returns : goal.returns
returns c =
    let t = c.args.rows.now in
    rw c.as_chunks.ensures.front (row_of_four t c.args.j (length t / 4) (omega arith) (omega arith))
