-- `meshfile::read_bits` meets its contract: words are taken as they are. Assumes nothing.
use Rattle.meshfile.proofs.One.{read_same}
use Rattle.meshfile.proofs.read_bits.Goals as goal

pub returns : goal.returns
returns c = read_same c.read_as.ensures
