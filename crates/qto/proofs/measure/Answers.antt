-- `qto::measure` meets its contract: by what the walk left in the surface area. Assumes nothing.
use Rattle.sums.specs.Editions.{thresholds_of}
use Rattle.qto.proofs.Measured.{Found, few, arrangeable, measured, rows_after}
use borrow.Rule.Slice.PartMut.{Post-is}
use Rattle.std.proofs.Common.{◌-◌, ◌*◌, arith}
use Rattle.qto.proofs.measure.Goals as goal

pub arrange-e-requires : goal.arrange-e-requires
arrange-e-requires c =
    let a = c.args in
    let found : Found a.mesh.now.vertices.now a.mesh.now.indices.now a.b c.origin.result
    (thresholds_of a.edition) c.thresholds_of.result a.surfaces.now
    c.walk-w.result c.walk-w.new.rows =
    record {
      is_box = c.requires.is_box;
      is_origin = c.origin.ensures;
      is_pair = c.thresholds_of.ensures;
      walked = c.walk-w.ensures;
    } in
    arrangeable a.mesh.now.unit_scale found (4 * c.walk-w.result.rows - 0) (omega arith) a.edition c.requires.mesh

pub returns : goal.returns
returns c =
    let a = c.args in
    let found : Found a.mesh.now.vertices.now a.mesh.now.indices.now a.b c.origin.result
    (thresholds_of a.edition) c.thresholds_of.result a.surfaces.now
    c.walk-w.result c.walk-w.new.rows =
    record {
      is_box = c.requires.is_box;
      is_origin = c.origin.ensures;
      is_pair = c.thresholds_of.ensures;
      walked = c.walk-w.ensures;
    } in
    let front = 4 * c.walk-w.result.rows in
    let e = c.arrange-e in
    record {
      is =
          measured a.mesh.now.unit_scale found (front - 0)
          (omega arith) e.result _ e.ensures _ _ _ _ _ c.requires.mesh.fine c.narrow.ensures
          c.f32_to_f64_with_nan-cube.ensures c.narrow-2.ensures c.f32_to_f64_with_nan.ensures c.scaled.ensures;
      few = few a.mesh.now.unit_scale found c.requires.mesh.ids_most;
      later =
          rows_after a.mesh.now.unit_scale found (front - 0) (omega arith) e.result _ e.ensures _
          (Post-is 0 front c.walk-w.new.rows (omega arith));
    }
