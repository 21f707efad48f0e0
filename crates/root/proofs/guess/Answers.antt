-- `root::guess` meets its contract, which says nothing: but the pattern that it starts from is no NaN's. Assumes nothing.
use Rattle.std.proofs.Common.{◌-◌, ◌/◌, arith}
use lib.Ieee.{binary64}
use Rattle.ieee.proofs.Patterns.Nan.{up_to_inf}
use Rattle.root.proofs.guess.Goals as goal

pub float_from_bits-y : goal.float_from_bits-y
float_from_bits-y c = up_to_inf binary64 (0x5fe6eb50c7b537a9 - c.args.b / 2) (omega arith)
