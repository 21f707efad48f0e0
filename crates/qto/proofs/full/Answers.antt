-- `qto::full` meets its contract: the record is that of the mesh's own measures, and the parts that are lent come back zero. Assumes
-- nothing.
use Rattle.ids.specs.Triangles.{triangle_count}
use Rattle.sums.specs.Editions.{thresholds_of}
use Rattle.vertices.specs.Areas.{work_words, raster_bytes}
use Rattle.raster.proofs.Clearing.{cleared_back}
use Rattle.qto.proofs.Assembled.{of_mesh}
use Rattle.qto.proofs.Fronts.{index_in, front_exact, still_long, front_cleared}
use Rattle.std.proofs.Common.{◌-◌, ◌*◌, ◌/◌, ◌++◌, length, refl, ◌∙◌, arith}
use borrow.Rule.Slice.PartMut.{post_of}
use Rattle.qto.proofs.full.Goals as goal

pub slice_bounds-measure-end : goal.slice_bounds-measure-end
slice_bounds-measure-end c = omega
    (arith, index_in (length c.args.mesh.now.vertices.now) (length c.args.mesh.now.indices.now), c.requires.work)

pub measure-m-requires : goal.measure-m-requires
measure-m-requires c =
    let a = c.args in
    record {
      mesh = c.requires.mesh;
      is_box = c.box_of-b.ensures;
      index_words =
          front_exact (5 * triangle_count a.mesh.now.indices.now) _ a.work.now refl
          (omega (arith, index_in (length a.mesh.now.vertices.now) (length a.mesh.now.indices.now), c.requires.work));
      room = c.requires.surfaces;
    }

pub slice_bounds-record_by-end : goal.slice_bounds-record_by-end
slice_bounds-record_by-end c =
    let a = c.args in
    let m = c.measure-m in
    omega (
      arith,
      c.work_words-words.ensures,
      still_long (5 * (length a.mesh.now.indices.now / 3)) _ a.work.now m.new.index m.auto.index c.requires.work,
    )

pub slice_bounds-record_by-end-2 : goal.slice_bounds-record_by-end-2
slice_bounds-record_by-end-2 c = rw c.raster_bytes-bytes.ensures c.requires.raster

pub record_by-requires : goal.record_by-requires
record_by-requires c =
    let a = c.args in
    let m = c.measure-m in
    record {
      floats_most = c.requires.mesh.floats_most;
      ids_most = c.requires.mesh.ids_most;
      is_box = c.box_of-b.ensures;
      few = m.ensures.few;
      words =
          front_exact (work_words (length a.mesh.now.vertices.now) (length a.mesh.now.indices.now)) _ _ c.work_words-words.ensures
          (still_long (5 * (length a.mesh.now.indices.now / 3)) _ a.work.now m.new.index m.auto.index c.requires.work);
      bytes = front_exact raster_bytes _ a.raster.now c.raster_bytes-bytes.ensures c.requires.raster;
    }

pub returns : goal.returns
returns c =
    let a = c.args in
    let q = c.record_by in
    let m = c.measure-m in
    let words = work_words (length a.mesh.now.vertices.now) (length a.mesh.now.indices.now) in
    let index = 5 * (length a.mesh.now.indices.now / 3) in
    let within = index_in (length a.mesh.now.vertices.now) (length a.mesh.now.indices.now) in
    record {
      is =
          of_mesh a.mesh.now.vertices.now a.mesh.now.indices.now a.mesh.now.unit_scale
          (thresholds_of a.edition) m.result q.result m.ensures.is
          q.ensures.is q.ensures.pairs_are;
      work =
          front_cleared words _ (m.new.index ++ post_of 0 (index - 0) a.work.now) q.new.work c.work_words-words.ensures q.ensures.work
          ∙ cleared_back words index a.work.now m.new.index within (omega (arith, within, c.requires.work)) m.auto.index;
      raster = front_cleared raster_bytes _ a.raster.now q.new.raster c.raster_bytes-bytes.ensures q.ensures.raster;
      surfaces = m.ensures.later;
    }
