-- `meshfile::write` meets its contract: its tests are the definition's, in their order. Assumes nothing.
use mathlib.Core.Path.{◌≡◌, sym}
use mathlib.Core.Bool.{false}
use native.Mathlib.Omega.{arith}
use lib.Seq.{length-take-le}
use Rattle.meshfile.specs.Format.{Contents}
use Rattle.meshfile.specs.Writing.{contents_of, too_many}
use Rattle.meshfile.proofs.Writes.{few, too_many_lem, too_short, written}
use Rattle.meshfile.proofs.writing.write.Goals as goal
use Rattle.meshfile.proofs.writing.write.Lts as lts
use Rattle.meshfile.proofs.writing.write.Tie.{the-claims}
use Rattle.meshfile.proofs.writing.write.Reads.{Pre, Post}

-- what is to be written
abbrev contents : (lts.Start the-claims Pre Post) → Contents
contents s = contents_of s.args.unit s.args.vertices.now s.args.ids.now s.args.clip s.args.profile

few-enough : (c : lts.Else1 the-claims Pre Post) → too_many (contents c.before.before.before.before) ≡ false
unfolding too_many
few-enough c = c.if-vertices-ids.false

pub returns-then-vertices-ids : goal.returns-then-vertices-ids
unfolding too_many
returns-then-vertices-ids c =
    too_many_lem (contents c.before.before.before.before.before) c.args.bytes.now c.if-vertices-ids.true

pub overflow_add-n-2 : goal.overflow_add-n-2
overflow_add-n-2 c = omega (arith, few (contents c.before.before.before.before.before) (few-enough c.before))

pub returns-then-bytes-n : goal.returns-then-bytes-n
returns-then-bytes-n c =
    too_short (contents c.before.before.before.before.before.before) c.args.bytes.now (few-enough c.before.before) (omega arith)

pub slice_bounds-put_file-end-2 : goal.slice_bounds-put_file-end-2
slice_bounds-put_file-end-2 c = sym (length-take-le _ _ (omega arith))

pub put_file-requires : goal.put_file-requires
put_file-requires c =
    let least = few (contents c.before.before.before.before.before.before.before) (few-enough c.before.before.before) in
    (length-take-le _ _ (omega arith), least.0, least.1)

pub returns : goal.returns
returns c =
    written (contents c.before.before.before.before.before.before.before.before.before.before) c.args.bytes.now (few-enough c.before.before.before.before.before.before) (omega arith) _ c.put_file.ensures
