-- `meshfile::read` meets its contract: words are taken as floats. Assumes nothing.
use Rattle.words.specs.Words.{floats_of}
use Rattle.meshfile.proofs.read.Goals as goal

pub returns : goal.returns
unfolding floats_of
returns c = c.read_as.ensures
