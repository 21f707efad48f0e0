-- `faces::upwards` meets its contract: it counts the pairs that fall, and goes by the parity, whatever words ask for that. So only another
-- answer is refused, and no other wording. Assumes nothing.
use native.Mathlib.Omega.{arith}
use Rattle.faces.proofs.Parity.{even_up}
use Rattle.faces.proofs.upwards.Goals as goal

pub returns : goal.returns
returns c = even_up c.args.t _ (λ e. omega (arith, e)) (λ e. omega (arith, e))
