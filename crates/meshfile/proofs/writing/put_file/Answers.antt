-- `meshfile::writing::put_file` meets its contract: four records, each behind the one before it. Assumes nothing.
use mathlib.Core.Path.{sym}
use native.Mathlib.Omega.{arith}
use lib.Seq.{length-take-le}
use Rattle.meshfile.specs.Writing.{contents_of}
use Rattle.meshfile.proofs.Puts.{file_put}
use Rattle.meshfile.proofs.writing.put_file.Goals as goal

pub slice_bounds-put_record-end-3 : goal.slice_bounds-put_record-end-3
slice_bounds-put_record-end-3 c = sym (length-take-le 10 c.args.area.now (omega (arith, c.requires)))

pub put_record-requires : goal.put_record-requires
put_record-requires c = (length-take-le 10 c.args.area.now (omega (arith, c.requires)), omega arith)

pub returns : goal.returns
returns c =
    let a = c.args in
    file_put (contents_of a.unit a.vertices.now a.ids.now a.clip a.profile) _ _ _ _ _ c.put_record.ensures
    c.put_record-2.ensures c.put_record-3.ensures c.put_flags.ensures
