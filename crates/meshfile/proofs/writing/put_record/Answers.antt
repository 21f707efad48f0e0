-- `meshfile::writing::put_record` meets its contract: a header, and the words behind it to the area's end. Assumes nothing.
use native.Mathlib.Omega.{arith}
use Rattle.meshfile.specs.inner.Kinds.{kind_number}
use Rattle.meshfile.proofs.Puts.{words_put}
use Rattle.meshfile.proofs.writing.put_record.Goals as goal

pub returns : goal.returns
returns c =
    words_put (kind_number c.args.kind) _ c.args.payload.now c.args.area.now _ _ c.put_header.ensures (omega arith)
    c.put_bytes.ensures
