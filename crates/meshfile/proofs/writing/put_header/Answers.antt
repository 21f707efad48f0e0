-- `meshfile::writing::put_header` meets its contract: length, kind and a zero. Assumes nothing.
use Rattle.meshfile.specs.inner.Kinds.{kind_number}
use Rattle.meshfile.proofs.Puts.{header_put}
use Rattle.meshfile.proofs.writing.put_header.Goals as goal

pub returns : goal.returns
returns c =
    rw (c.put_u32.ensures, c.from.ensures) (header_put c.args.area.now c.args.n (kind_number c.args.kind) c.requires)
