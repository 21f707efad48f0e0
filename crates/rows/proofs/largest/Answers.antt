-- `rows::largest` meets its contract. The first row's area is the first float. Assumes nothing.
use Rattle.rows.proofs.Fours.{largest_of_first}
use Rattle.rows.proofs.largest.Goals as goal

pub returns : goal.returns
returns c = rw (c.unwrap_or.ensures, c.copied.ensures, c.first.ensures.value) (largest_of_first c.args.rows.now c.requires)
