-- `mf_write_mesh` gives the number of what `meshfile::write` gives, after the flags. Assumes nothing.
use mathlib.Core.Path.{◌∙◌}
use native.Mathlib.Omega.{arith}
use Rattle.meshfile.specs.Numbers.{writing_number}
use Rattle.meshfile.proofs.Writes.{written_few}
use Rattle.meshfile.proofs.Numbers.{flags_refused, as_written}
use Rattle.capi.proofs.files_c.mf_write_mesh.Goals as goal

pub returns-then-not-flags_fit : goal.returns-then-not-flags_fit
returns-then-not-flags_fit c = rw c.refused.ensures (flags_refused _ _ _ c.flags_fit.ensures c.if-not-flags_fit.true-raw)

pub overflow_cast-result : goal.overflow_cast-result
overflow_cast-result c = omega (arith, written_few _ _ _ _ c.write-answer.ensures _ c.in-Ok.is)

pub returns-in-Ok : goal.returns-in-Ok
unfolding writing_number
returns-in-Ok c =
    as_written _ _ _ c.flags_fit.ensures c.if-not-flags_fit.false-raw _ c.profile_of.ensures _ _ c.write-answer.ensures _
    (rw c.in-Ok.is)

pub returns-in-Err : goal.returns-in-Err
unfolding writing_number
returns-in-Err c =
    as_written _ _ _ c.flags_fit.ensures c.if-not-flags_fit.false-raw _ c.profile_of.ensures _ _ c.write-answer.ensures _
    (c.refused-in-Err.ensures ∙ rw c.in-Err.is)
