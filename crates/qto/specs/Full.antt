-- Rules of the record (01): the record of a mesh that passes the checks, each float step rounded once, as 000 writes it. Beside it the
-- pairs (02, A3). The slopes are by a pair of thresholds p, whichever it is: an edition gives one (02, A6).
use Rattle.std.specs.Prelude.{ℕ, ◌*◌, List, ◌++◌, length, drop, from_bits, Float, None}
use Rattle.std.specs.Float.{binary32, binary64}
use Rattle.ieee.specs.Magnitude.{magnitude}
use Rattle.ieee.specs.Rounded.{rounded}
use Rattle.ieee.specs.Single.{◌⊗◌}
use Rattle.ieee.specs.Double.{◌⊠◌, ◌⧄◌}
use Rattle.ids.specs.Triangles.{triangle_count}
use Rattle.sums.specs.declared.totals.Thresholds.{Thresholds}
use Rattle.sums.specs.declared.totals.Totals.{Totals}
use Rattle.sums.specs.Box.{box, origin, box_volume}
use Rattle.sums.specs.Totals.{scaled_areas, totals_to}
use Rattle.rows.specs.declared.PlanarSurface.{PlanarSurface}
use Rattle.rows.specs.Rows.{flatten, scaled, sorted, largest, smallest}
use Rattle.surfaces.specs.Surfaces.{Bucket, rows}
use Rattle.walk.specs.declared.TriangleCounts.{TriangleCounts}
use Rattle.walk.specs.Walk.{buckets_to}
use Rattle.walk.specs.Counts.{counts_of}
use Rattle.weld.specs.Weld.{epsilon_of}
use Rattle.verdict.specs.declared.Quality.{Quality}
use Rattle.verdict.specs.Verdict.{quality}
use Rattle.volume.specs.declared.Best.{Best}
use Rattle.volume.specs.Best.{prism, best_of}
use Rattle.volume.specs.Pairs.{prism_pairs, pairs_of}
use Rattle.record.specs.declared.MeshQto.{MeshQto}
use Rattle.qto.specs.declared.Measures.{Measures}
use Rattle.qto.specs.declared.Takeoff.{Takeoff}

-- u² and u³ in f32
abbrev pub square : Float → Float
square u = u ⊗ u

abbrev pub cube : Float → Float
cube u = u ⊗ u ⊗ u

-- ---- triangles and slope: the sums over the mesh

unfoldable pub totals : List Float → List ℕ → Thresholds → Totals
totals vs ids p = totals_to vs (origin (box vs)) p ids (triangle_count ids)

-- the volume: a sixth of the sum, times u³ in f64, to f32; the surface area: times u² likewise
unfoldable pub volume_of : Totals → Float → Float
volume_of t u = rounded binary32 (t.volume6 ⧄ from_bits binary64 0x4018_0000_0000_0000 ⊠ cube u)

unfoldable pub surface_of : Totals → Float → Float
surface_of t u = rounded binary32 (t.surface ⊠ square u)

-- ---- surfaces: the rows, in order

unfoldable pub buckets : List Float → List ℕ → List Bucket
buckets vs ids = buckets_to vs (origin (box vs)) ids (triangle_count ids)

unfoldable pub surface_rows : List Float → List ℕ → Float → List PlanarSurface
surface_rows vs ids u = sorted (scaled (square u) (rows (buckets vs ids)))

-- the surface area s holds its rows first; the rest is untouched
unfoldable pub surfaces_after : List Float → List ℕ → Float → List Float → List Float
surfaces_after vs ids u s = flatten (surface_rows vs ids u) ++ drop (4 * length (surface_rows vs ids u)) s

-- ---- what is measured

unfoldable pub measures_from : Totals → List PlanarSurface → TriangleCounts → Float → Measures
measures_from t rs c u =
    record {
      volume = volume_of t u;
      surface = surface_of t u;
      areas = scaled_areas (square u) t.areas;
      largest = largest rs;
      smallest = smallest rs;
      count = length rs;
      triangles = c;
    }

unfoldable pub measures : List Float → List ℕ → Float → Thresholds → Measures
measures vs ids u p = measures_from (totals vs ids p) (surface_rows vs ids u) (counts_of vs (origin (box vs)) ids) u

-- ---- verdict and best volume

-- the weld distance: 1e-4 metres
abbrev pub distance : Float
distance = from_bits binary32 0x38d1_b717

unfoldable pub verdict : List Float → List ℕ → Float → Float → Quality
verdict vs ids u volume = quality vs ids (epsilon_of distance u) volume (box_volume (box vs) (cube u))

unfoldable pub best : List Float → List ℕ → Float → Measures → Quality → Best
best vs ids u m q = best_of q (magnitude m.volume) m.surface (box_volume (box vs) (cube u)) (prism vs ids (box vs) (cube u))

-- ---- the record

unfoldable pub record_from : Measures → Float → Quality → Best → MeshQto
record_from m aabb q b =
    record {
      volume_m3 = m.volume;
      aabb_volume_m3 = aabb;
      surface_area_m2 = m.surface;
      area_top_m2 = m.areas.top;
      area_bottom_m2 = m.areas.bottom;
      area_side_m2 = m.areas.side;
      area_inclined_m2 = m.areas.inclined;
      largest_surface_m2 = m.largest;
      smallest_surface_m2 = m.smallest;
      surface_count = m.count;
      mesh_quality = q;
      volume_reliable = b.reliable;
      volume_method = b.method;
      volume_best_m3 = b.volume;
      volume_prism_bound_m3 = b.prism;
      profile_invalid = None;
      triangles_used = m.triangles.used;
      triangles_out_of_range = m.triangles.out_of_range;
      triangles_sliver = m.triangles.sliver;
    }

unfoldable pub record_by : List Float → List ℕ → Float → Measures → Quality → MeshQto
record_by vs ids u m q = record_from m (box_volume (box vs) (cube u)) q (best vs ids u m q)

unfoldable pub record_of : List Float → List ℕ → Float → Thresholds → MeshQto
record_of vs ids u p = record_by vs ids u (measures vs ids u p) (verdict vs ids u (measures vs ids u p).volume)

-- ---- and beside it, by its verdict, the pairs

unfoldable pub takeoff_of : List Float → List ℕ → Float → Thresholds → Takeoff
takeoff_of vs ids u p =
    record { qto = record_of vs ids u p; pairs = pairs_of (record_of vs ids u p).mesh_quality (prism_pairs vs ids (box vs)) }
