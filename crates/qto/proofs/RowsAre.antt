-- The surface rows are in order, and exactly the keys' sums.
use Rattle.ids.specs.Triangles.{triangle_count}
use Rattle.sums.specs.Box.{box, origin}
use Rattle.rows.specs.Rows.{scaled}
use Rattle.rows.proofs.Order.{sorted_in_order, sorted_same}
use Rattle.surfaces.specs.Surfaces.{rows}
use Rattle.walk.proofs.Worth.{buckets_sums, buckets_keys, buckets_apart, buckets_plain}
use Rattle.qto.specs.Full.{square, buckets, surface_rows}
use Rattle.qto.specs.Surfaces.{SurfaceRowsAre}
use Rattle.qto.proofs.Measured.{unit_square}

pub rows_are : SurfaceRowsAre
unfolding surface_rows buckets
rows_are vs ids u e p =
    record {
      in_order =
          sorted_in_order (scaled (square u) (rows (buckets vs ids)))
          (buckets_plain vs ids (square u) (triangle_count ids) p.fine (unit_square u p.unit));
      same = sorted_same (scaled (square u) (rows (buckets vs ids)));
      apart = buckets_apart vs (origin (box vs)) ids (triangle_count ids);
      keys = λ k. buckets_keys vs (origin (box vs)) ids k (triangle_count ids);
      sums = λ k. buckets_sums vs (origin (box vs)) ids k (triangle_count ids);
    }
