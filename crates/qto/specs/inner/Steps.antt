-- What the steps of `compute` suppose and leave, in the words of the definitions.
use Rattle.std.specs.Prelude.{◌≡◌, ℕ, ◌*◌, ◌≤◌, T, List, length, replicate, Float}
use Rattle.ids.specs.Lent.{most_entries, cleared}
use Rattle.ids.specs.Triangles.{triangle_count}
use Rattle.vertices.specs.Areas.{work_words, surface_floats, raster_bytes}
use Rattle.sums.specs.declared.bounds.Bounds.{Bounds}
use Rattle.sums.specs.Box.{box}
use Rattle.sums.specs.Editions.{thresholds_of}
use Rattle.rows.specs.Rows.{flatten, rows_of, Whole, scaled, sorted, largest, smallest}
use Rattle.rows.specs.Plain.{all_plain}
use Rattle.volume.specs.Pairs.{prism_pairs, pairs_of}
use Rattle.refusals.specs.Refusals.{Passes}
use Rattle.qto.specs.declared.Extremes.{Extremes}
use Rattle.qto.specs.declared.Measures.{Measures}
use Rattle.qto.specs.declared.Takeoff.{Takeoff}
use Rattle.qto.specs.Full.{surfaces_after, measures, verdict, record_by, takeoff_of}

-- ---- `arrange`: rows, and their areas times `by`

pub record Arrangeable (rows : List Float) (by : Float) : Type 0 where
  pub whole : Whole rows
  pub plain : T (all_plain (scaled by (rows_of rows)))

pub record Arranged (rows : List Float) (by : Float) (r : Extremes) (rows' : List Float) : Type 0 where
  pub largest_is : r.largest ≡ largest (sorted (scaled by (rows_of rows)))
  pub smallest_is : r.smallest ≡ smallest (sorted (scaled by (rows_of rows)))
  pub later : rows' ≡ flatten (sorted (scaled by (rows_of rows)))

-- ---- `measure`: a mesh that passes, its box, the words of the rows' index and the surface area

pub record Measurable (vs : List Float) (ids : List ℕ) (b : Bounds) (u : Float) (e : ℕ) (index : List ℕ) (s : List Float) : Type 0 where
  pub mesh : Passes vs ids u e
  pub is_box : b ≡ box vs
  pub index_words : length index ≡ 5 * triangle_count ids
  pub room : surface_floats (length ids) ≤ length s

pub record Measured (vs : List Float) (ids : List ℕ) (u : Float) (e : ℕ) (s : List Float) (r : Measures) (s' : List Float) : Type 0 where
  pub is : r ≡ measures vs ids u (thresholds_of e)
  pub few : r.count ≤ 32768
  pub later : s' ≡ surfaces_after vs ids u s

-- ---- `record_by`: in areas of just the words and bytes needed, by measures m

pub record Recordable (vs : List Float) (ids : List ℕ) (b : Bounds) (m : Measures) (w r : List ℕ) : Type 0 where
  pub floats_most : length vs ≤ most_entries
  pub ids_most : length ids ≤ most_entries
  pub is_box : b ≡ box vs
  pub few : m.count ≤ 32768
  pub words : length w ≡ work_words (length vs) (length ids)
  pub bytes : length r ≡ raster_bytes

pub record RecordedBy (vs : List Float) (ids : List ℕ) (u : Float) (m : Measures) (t : Takeoff) (w' r' : List ℕ) : Type 0 where
  pub is : t.qto ≡ record_by vs ids u m (verdict vs ids u m.volume)
  pub pairs_are : t.pairs ≡ pairs_of (verdict vs ids u m.volume) (prism_pairs vs ids (box vs))
  pub work : w' ≡ replicate (work_words (length vs) (length ids)) 0
  pub raster : r' ≡ replicate raster_bytes 0

-- ---- `full`: in areas that may be longer, as the table admits them

pub record Recorded (vs : List Float) (ids : List ℕ) (u : Float) (e : ℕ) (w r : List ℕ) (s : List Float) (t : Takeoff) (w' r' : List ℕ)
    (s' : List Float) : Type 0 where
  pub is : t ≡ takeoff_of vs ids u (thresholds_of e)
  pub work : w' ≡ cleared (work_words (length vs) (length ids)) w
  pub raster : r' ≡ cleared raster_bytes r
  pub surfaces : s' ≡ surfaces_after vs ids u s
