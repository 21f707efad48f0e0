-- What a record that is another one turned over says field by field, and what the pairs beside it say. Assumes nothing.
use mathlib.Core.Path.{ap}
use Rattle.record.specs.declared.MeshQto.{MeshQto}
use Rattle.road.specs.Replaced.{replaced}
use Rattle.road.proofs.Agree.{but_best, same_record, same_pairs}
use Rattle.glove.specs.Turned.{turned_over, volume_as_number}
use Rattle.glove.specs.Says.{RecordsSay, PairsSay}

pub glove_says : RecordsSay
unfolding replaced
glove_says q q' r =
    let b = but_best q.mesh_quality (turned_over q) (volume_as_number q') r.rest in
    record {
      volume = b.volume;
      surface = b.surface;
      side = b.side;
      inclined = b.inclined;
      aabb = b.aabb;
      verdict = r.verdict;
      used = b.used;
      out_of_range = b.out_of_range;
      sliver = b.sliver;
      largest = b.largest;
      smallest = b.smallest;
      count = b.count;
      profile = b.profile;
      top = b.top;
      bottom = b.bottom;
      unless_open =
          λ shut.
          let e = same_record q.mesh_quality (turned_over q) (volume_as_number q') r.rest shut in
          record {
            best = ap (λ (x : MeshQto). x.volume_best_m3) e;
            method = ap (λ (x : MeshQto). x.volume_method) e;
            reliable = ap (λ (x : MeshQto). x.volume_reliable) e;
            prism = ap (λ (x : MeshQto). x.volume_prism_bound_m3) e;
          };
    }

pub pairs_say : PairsSay
pairs_say t t' b shut = same_pairs t.qto.mesh_quality t.pairs t'.pairs b.pairs shut
