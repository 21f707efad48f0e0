-- `program::print_record` meets its contract: the flags leave the number of rows alone, and the areas are long enough. Assumes nothing.
use Rattle.program.proofs.Given.{record_prints}
use Rattle.program.proofs.print_record.Goals as goal

pub unwrap-requires : goal.unwrap-requires
unwrap-requires c = (record_prints _ _ _ _ _ _ _ _ _ c.apply_product_flags-flagged.ensures c.requires.0 c.requires.1 c.list.ensures).0

pub returns : goal.returns
returns c =
    (record_prints _ _ _ _ _ _ _ _ _ c.apply_product_flags-flagged.ensures c.requires.0 c.requires.1 c.list.ensures).1 _ c.unwrap.ensures
