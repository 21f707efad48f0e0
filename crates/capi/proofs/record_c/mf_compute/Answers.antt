-- `capi::record_c::mf_compute` meets its contract: by the flags, and by what `compute` answers. Assumes nothing.
use Rattle.capi.proofs.Numbered.{flags_refused, filled, refused}
use Rattle.capi.proofs.record_c.mf_compute.Goals as goal

pub returns-then-not-flags_fit : goal.returns-then-not-flags_fit
returns-then-not-flags_fit c = rw c.refused.ensures (search flags_refused)

pub returns-in-Ok : goal.returns-in-Ok
returns-in-Ok c =
    filled _ _ _ _ _ _ _ _ _ _ _ _ _ _ _ c.flags_fit.ensures c.if-not-flags_fit.false-raw c.compute-answer.ensures _ _ _ _
    c.in-Ok.is c.profile_of.ensures c.apply_product_flags-qto.ensures c.record_words.ensures

pub returns-in-Err : goal.returns-in-Err
returns-in-Err c = rw c.refused-in-Err.ensures (search refused)
