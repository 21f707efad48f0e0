-- `listing::areas_short` meets its contract: the tests are the definition's, and where both fail there is room. Assumes nothing.
use mathlib.Core.Path.{refl}
use Rattle.listing.specs.Lists.{text_bytes}
use Rattle.listing.proofs.Outcomes.{areas_fit}
use Rattle.listing.proofs.areas_short.Goals as goal

pub returns : goal.returns
unfolding text_bytes
returns c = record { is = refl; room = areas_fit c.args.n c.args.surfaces c.args.text }
