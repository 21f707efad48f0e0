-- `rows::swap` meets its contract. Each row is read before either is written. Assumes nothing.
use Rattle.rows.specs.Rows.{rows_of}
use Rattle.rows.proofs.Counts.{swapped_by}
use Rattle.rows.proofs.swap.Goals as goal

pub returns : goal.returns
returns c =
    swapped_by (rows_of c.args.rows.now) c.args.i c.args.j c.get-r.ensures c.get-s.ensures
    c.put.ensures c.put-2.ensures
