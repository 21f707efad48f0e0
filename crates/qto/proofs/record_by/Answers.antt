-- `qto::record_by` meets its contract: by its parts. Assumes nothing.
use Rattle.std.proofs.Common.{arith}
use Rattle.qto.proofs.Assembled.{assembled, paired}
use Rattle.qto.specs.Full.{record_from}
use Rattle.qto.proofs.record_by.Goals as goal

pub classify_mesh_quality-q-requires : goal.classify_mesh_quality-q-requires
classify_mesh_quality-q-requires c =
    let h = c.requires in record { floats_most = h.floats_most; ids_most = h.ids_most; words = h.words }

pub overflow_cast-qto : goal.overflow_cast-qto
overflow_cast-qto c =
    omega (arith, c.requires.few)

pub returns : goal.returns
unfolding record_from
returns c =
    let a = c.args in
    let boxed = c.box_volume-aabb.ensures in
    let ε-is = c.epsilon-eps.ensures in
    let quality-is = c.classify_mesh_quality-q.ensures.0 in
    let carried = c.best_volume-carried.ensures in
    record {
      is =
          assembled a.mesh.now.vertices.now a.mesh.now.indices.now a.mesh.now.unit_scale a.b a.m _ _ _ _ c.requires.is_box boxed ε-is quality-is
          carried.0;
      pairs_are =
          paired a.mesh.now.vertices.now a.mesh.now.indices.now a.mesh.now.unit_scale a.b a.m _ _ _ _ c.requires.is_box boxed ε-is quality-is
          carried.1;
      work = c.classify_mesh_quality-q.ensures.1;
      raster = carried.2;
    }
