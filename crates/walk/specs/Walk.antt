-- Surfaces (01): areas with one key are summed in f32 in triangle order. What a walk over the triangles gathers beside the totals.
use Rattle.std.specs.Prelude.{ℕ, zero, suc, List, [], Float}
use Rattle.ids.specs.Triangles.{triangle}
use Rattle.sums.specs.Facet.{Part, out_of_range, sliver, used, part}
use Rattle.surfaces.specs.Surfaces.{Bucket, normal_key, add_area}

-- with one triangle's part: only a used one has a surface
unfoldable pub with_surface : List Bucket → Part → List Bucket
with_surface bs out_of_range = bs
with_surface bs sliver = bs
with_surface bs (used f) = add_area (normal_key f.nx f.ny f.nz) f.area32 bs

-- after the first n triangles, in order
unfoldable pub buckets_to : List Float → List Float → List ℕ → ℕ → List Bucket
buckets_to vs o ids zero = []
buckets_to vs o ids (suc n) = with_surface (buckets_to vs o ids n) (part vs o (triangle ids n))
