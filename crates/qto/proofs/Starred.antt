-- The starred examples hold: those on floats and ids by the crates that define these, those on flags by computing. Assumes nothing.
use Rattle.std.proofs.Common.{ap}
use Rattle.ieee.proofs.Examples as on_floats
use Rattle.ids.specs.Examples.{Holds, examples}
use Rattle.ids.proofs.Examples as on-ids
use Rattle.volume.specs.declared.Method.{Method}
use Rattle.record.specs.Flags.{relabelled, marked, if_clip, if_invalid}
use Rattle.qto.specs.Starred.{Starred}

pub starred : Starred
unfolding Holds examples relabelled marked if_clip if_invalid
starred =
    let h = on-ids.examples_hold in
    record {
      tetrahedron_free = h.0;
      tetrahedron_faces = h.2;
      tetrahedron_pieces = h.6;
      sheet_free = h.7.0;
      sheet_cancels = h.7.3;
      six_ids = h.7.7.0;
      zeros_free = h.7.7.7.0;
      zeros_manifold = h.7.7.7.4;
      twice_free = h.7.7.7.7.0;
      twice_crowded = h.7.7.7.7.1;
      twice_faces = h.7.7.7.7.2;
      ten_ids = h.7.7.7.7.7.0;
      root_0 = (on_floats.examples).root_0;
      root_4 = (on_floats.examples).root_4;
      root_quarter = (on_floats.examples).root_quarter;
      half_up = (on_floats.examples).half_up;
      half_down = (on_floats.examples).half_down;
      clip_and_defect = λ q d e. ap (λ (m : Method). relabelled Method.MeshProfileInvalid (relabelled Method.MeshUnclipped m)) e;
      defect_alone = λ q d e. ap (λ (m : Method). relabelled Method.MeshProfileInvalid m) e;
      one_common_id = h.7.7.7.7.7.7.6;
    }
