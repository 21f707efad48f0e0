-- `qto::compute` meets its contract: by what the table of refusals says. Assumes nothing.
use Rattle.qto.proofs.Outcomes.{refused, zero, full}
use Rattle.std.proofs.Common.{◌≡◌, Err, rules}
use Rattle.qto.proofs.compute.Goals as goal

pub returns-in_err-checked : goal.returns-in_err-checked
returns-in_err-checked c =
    let a = c.args in
    let same : c.from_residual.result ≡ Err c.in_err-checked.field-0.0 = search rules in
    rw same
    (refused a.vertices.now a.indices.now a.unit_scale a.edition a.work.now a.raster.now a.surfaces.now
    c.checked.result c.checked.ensures _ c.in_err-checked.was)

pub returns-in-Zero : goal.returns-in-Zero
returns-in-Zero c =
    let a = c.args in
    let h = c.in_ok-checked.was in
    zero a.vertices.now a.indices.now a.unit_scale a.edition a.work.now a.raster.now a.surfaces.now
    c.checked.result c.checked.ensures _ (rw (h, c.in-Zero.is)) c.zero_takeoff.ensures

pub returns-in-Full : goal.returns-in-Full
returns-in-Full c =
    let a = c.args in
    let h = c.in_ok-checked.was in
    full a.vertices.now a.indices.now a.unit_scale a.edition a.work.now a.raster.now a.surfaces.now
    c.checked.result c.checked.ensures (rw (h, c.in-Full.is)) c.full.ensures
