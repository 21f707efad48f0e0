-- No number of a record of the domain overflows (01): the sums are within 2^87, the volume's sum within 2^118, and a unit's square and cube
-- up to 2^8 and 2^12. A sixth of
-- 2^118 is under 3 * 2^114, and 3 * 2^126 is a value of f32. Assumes nothing.
use Rattle.std.specs.Prelude.{Some}
use Rattle.std.proofs.Common.{◌≡◌, ℕ, ◌*◌, ◌^◌, ◌≤◌, Bool, true, false, cond, T, ◌⊎◌, List, [], ◌∷◌, refl, inl, inr, le_trans, mul-le-mul_right, arith, lit<, lit≤, rules}
use lib.Ieee.{Float, nan, inf, fin, binary32, binary64, lt, le, of_bits}
use lib.Ieee.Exact.{HasValue}
use lib.Ieee.Scale.{finite}
use Rattle.ieee.specs.Magnitude.{magnitude}
use Rattle.ieee.specs.Order.{least}
use Rattle.ieee.specs.Single.{◌⊗◌, nought}
use Rattle.ieee.specs.Double.{◌⊠◌, ◌⧄◌}
use Rattle.ieee.proofs.Order.Extremes.{least_from}
use Rattle.ids.specs.Triangles.{triangle_count}
use Rattle.sums.specs.declared.totals.Thresholds.{Thresholds}
use Rattle.sums.specs.declared.totals.Totals.{Totals}
use Rattle.sums.specs.Box.{box, box_volume}
use Rattle.sums.specs.Editions.{thresholds_of}
use Rattle.sums.proofs.FineBoxes.{box_fine, box_volume_within}
use Rattle.sums.proofs.Units.{least_unit, most_unit, cube_within, square_within}
use Rattle.sums.proofs.Within.{Within, multiple_value, power_value, within_div, within_most, within_mul, within_product, within_rounded}
use Rattle.rows.specs.declared.PlanarSurface.{PlanarSurface}
use Rattle.rows.specs.Rows.{precedes, inserted, sorted, scaled, largest, smallest, noise, less_above, least_above}
use Rattle.surfaces.specs.Surfaces.{Bucket, rows}
use Rattle.surfaces.specs.Keys.{AllAreas}
use Rattle.walk.proofs.Finite.{TotalsWithin, Times, each_still, totals_within, buckets_within}
use Rattle.verdict.specs.declared.Quality.{Quality}
use Rattle.volume.specs.declared.Best.{Best}
use Rattle.volume.specs.declared.Method.{Method}
use Rattle.volume.specs.Best.{prism, upper, trusted, open_best, best_of}
use Rattle.record.specs.Record.{zero_record}
use Rattle.refusals.specs.Refusals.{Passes}
use Rattle.qto.specs.declared.Takeoff.{Takeoff}
use Rattle.qto.specs.Domain.{FiniteBound, FiniteRecord, FiniteRows, ComputesFinite, RowsFinite}
use Rattle.qto.specs.Full.{square, cube, totals, volume_of, surface_of, buckets, surface_rows, measures_from, measures, verdict, best}
use Rattle.qto.specs.Full.{record_from, record_by, record_of, takeoff_of}
use Rattle.qto.proofs.FinitePrism.{prism_finite}
use Rattle.qto.proofs.Measured.{unit_ends}
use Rattle.qto.proofs.Outcomes.{of_record}

-- ---- an area of n triangles with the unit's square
area_finite : (n : ℕ) → n ≤ 32768 → (by : Float) → Within (2 ^ 8) by → (a : Float) → Times n a → T (finite (a ⊗ by))
area_finite n N by S a v =
    (within_mul binary32 87 8 a by (lit≤ tt) (within_most (n * 2 ^ 72) (2 ^ 87) a (mul-le-mul_right (2 ^ 72) N) v) S).finite_is

-- ---- the two sums in f64 with the unit
module _ (n : ℕ) (N : n ≤ 32768) (t : Totals) (w : TotalsWithin n t) (u : Float) (S : Within (2 ^ 8) (square u))
    (C : Within (2 ^ 12) (cube u)) where
  surface_finite : T (finite (surface_of t u))
  unfolding surface_of
  surface_finite =
      (within_rounded binary32 (2 ^ 95) (power_value binary32 95 (lit≤ tt)) (t.surface ⊠ square u)
      (within_mul binary64 87 8 t.surface (square u) (lit≤ tt)
      (within_most (n * 2 ^ 72) (2 ^ 87) t.surface (mul-le-mul_right (2 ^ 72) N) w.surface) S)
      ).finite_is

  six : HasValue (of_bits binary64 0x4018_0000_0000_0000) false 6 1
  unfolding of_bits
  six = (refl, refl)

  sixth_within : Within (3 * 2 ^ 114) (t.volume6 ⧄ of_bits binary64 0x4018_0000_0000_0000)
  sixth_within =
      within_div binary64 (3 * 2 ^ 114) 6 (multiple_value binary64 3 114 (lit< tt) (lit< tt)) (lit< tt) t.volume6
      (of_bits binary64 0x4018_0000_0000_0000) six
      (within_most (n * 2 ^ 103) (3 * 2 ^ 114 * 6) t.volume6 (le_trans (mul-le-mul_right (2 ^ 103) N) (lit≤ tt)) w.volume6)

  volume_finite : T (finite (volume_of t u))
  unfolding volume_of
  volume_finite =
      let x = t.volume6 ⧄ of_bits binary64 0x4018_0000_0000_0000 in
      (within_rounded binary32 (3 * 2 ^ 126) (multiple_value binary32 3 126 (lit< tt) (lit< tt)) (x ⊠ cube u)
      (within_product binary64 (3 * 2 ^ 114) (2 ^ 12) (multiple_value binary64 3 126 (lit< tt) (lit< tt)) x (cube u) sixth_within C)
      ).finite_is

-- ---- the rows
scaled_finite : (n : ℕ) → n ≤ 32768 → (by : Float) → Within (2 ^ 8) by → (bs : List Bucket) → AllAreas (Times n) bs
    → FiniteRows (scaled by (rows bs))
unfolding FiniteRows scaled rows AllAreas
scaled_finite n N by S [] w = tt
scaled_finite n N by S (b ∷ bs) w = (area_finite n N by S b.area w.0, scaled_finite n N by S bs w.1)

inserted_finite : (r : PlanarSurface) (rs : List PlanarSurface) → T (finite r.area) → FiniteRows rs → FiniteRows (inserted r rs)
unfolding FiniteRows inserted
inserted_finite r [] h w = (h, w)
inserted_finite r (s ∷ rs) h w = go (precedes r s) (inserted_finite r rs h w.1)
  where
    go : (b : Bool) → FiniteRows (inserted r rs) → FiniteRows (cond b (r ∷ s ∷ rs) (s ∷ inserted r rs))
    go true v = (h, w)
    go false v = (w.0, v)

sorted_finite : (rs : List PlanarSurface) → FiniteRows rs → FiniteRows (sorted rs)
unfolding FiniteRows sorted
sorted_finite [] w = tt
sorted_finite (r ∷ rs) w = inserted_finite r (sorted rs) w.0 (sorted_finite rs w.1)

largest_finite : (rs : List PlanarSurface) → FiniteRows rs → T (finite (largest rs))
unfolding FiniteRows largest of_bits
largest_finite [] w = tt
largest_finite (r ∷ rs) w = w.0

-- until an area is above 1e-6 the least is ∞
abbrev Least : Float → Type 0
Least x = T (finite x) ⊎ (x ≡ inf false)

less_above_lem : (m a : Float) → Least m → T (finite a) → Least (less_above m a)
less_above_lem m a h p = go (lt noise a)
  where
    go : (b : Bool) → Least (cond b (least m a) m)
    go true = least_from Least m a h (inl p)
    go false = h

least_above_lem : (m : Float) (rs : List PlanarSurface) → Least m → FiniteRows rs → Least (least_above m rs)
unfolding FiniteRows least_above
least_above_lem m [] h w = h
least_above_lem m (r ∷ rs) h w = least_above_lem (less_above m r.area) rs (less_above_lem m r.area h w.0) w.1

smallest_finite : (rs : List PlanarSurface) → FiniteRows rs → T (finite (smallest rs))
unfolding smallest
smallest_finite rs w = go (least_above (inf false) rs) (least_above_lem (inf false) rs (inr refl) w)
  where
    none : T (finite nought)
    none = unfold of_bits in tt

    either : (b : Bool) (m : Float) → T (finite m) → T (finite (cond b m nought))
    either true m h = h
    either false m h = none

    go : (m : Float) → Least m → T (finite (cond (lt m (inf false)) m nought))
    go m (inl h) = either (lt m (inf false)) m h
    go m (inr e) = rw e (unfold lt in none)

-- ---- the best volume: |volume|, the prism or 0
record FiniteBest (b : Best) : Type 0 where
  volume : T (finite b.volume)
  prism : FiniteBound b.prism

magnitude_finite : (x : Float) → T (finite x) → T (finite (magnitude x))
unfolding magnitude
magnitude_finite nan h = h
magnitude_finite (inf s) h = h
magnitude_finite (fin s m e) h = tt

best_finite : (q : Quality) (v s aabb p : Float) → T (finite v) → T (finite p) → FiniteBest (best_of q v s aabb p)
unfolding best_of open_best of_bits
best_finite Quality.Closed v s aabb p h g = record { volume = h; prism = tt }
best_finite Quality.Degenerate v s aabb p h g = record { volume = tt; prism = tt }
best_finite Quality.OpenShell v s aabb p h g = go (trusted p (upper p aabb) v s)
  where
    go : (b : Bool)
        → FiniteBest
        (cond b (record { volume = v; method = Method.MeshOpen; reliable = true; prism = Some p })
        (record { volume = p; method = Method.PrismFallback; reliable = false; prism = Some p }))
    go true = record { volume = h; prism = g }
    go false = record { volume = g; prism = g }

-- ---- the record, whatever the pair of thresholds
module _ (vs : List Float) (ids : List ℕ) (u : Float) (e : ℕ) (h : Passes vs ids u e) where
  ends : T (le least_unit u) × T (le u most_unit)
  ends = unit_ends u h.unit

  few : triangle_count ids ≤ 32768
  few = omega (arith, h.ids_most)

  rows_all_finite : FiniteRows (surface_rows vs ids u)
  unfolding surface_rows buckets
  rows_all_finite =
      sorted_finite (scaled (square u) (rows (buckets vs ids)))
      (scaled_finite (triangle_count ids) few (square u) (square_within u ends.0 ends.1) (buckets vs ids)
      (buckets_within vs ids (triangle_count ids) h.fine few))

  pub record_finite : (p : Thresholds) → FiniteRecord (record_of vs ids u p)
  unfolding record_of record_by record_from measures measures_from totals best
  record_finite p =
      let n = triangle_count ids in
      let t = totals vs ids p in
      let w = totals_within vs p ids n h.fine few in
      let S = square_within u ends.0 ends.1 in
      let C = cube_within u ends.0 ends.1 in
      let b = box_fine vs h.fine (omega (arith, h.floats_least)) in
      let v = volume_of t u in
      let areas = each_still t.areas (area_finite n few (square u) S) w.areas in
      let v_finite = volume_finite n few t w u S C in
      let most =
      best_finite (verdict vs ids u v) (magnitude v) (surface_of t u) (box_volume (box vs) (cube u)) (prism vs ids (box vs) (cube u))
      (magnitude_finite v v_finite)
      (prism_finite vs ids (box vs) (cube u) b C) in
      record {
        volume = v_finite;
        aabb = (box_volume_within (box vs) (cube u) b C).finite_is;
        surface = surface_finite n few t w u S C;
        top = areas.top;
        bottom = areas.bottom;
        side = areas.side;
        inclined = areas.inclined;
        largest = largest_finite (surface_rows vs ids u) rows_all_finite;
        smallest = smallest_finite (surface_rows vs ids u) rows_all_finite;
        best = most.volume;
        prism = most.prism;
      }

-- ---- what comes back
pub rows_finite : RowsFinite
rows_finite vs ids u e h = rows_all_finite vs ids u e h

zero_finite : FiniteRecord zero_record
unfolding of_bits
zero_finite = search rules

pub computes_finite : ComputesFinite
unfolding takeoff_of
computes_finite vs ids u e w r s a w' r' s' t c is =
    of_record (λ (t : Takeoff). FiniteRecord t.qto) vs ids u e w r s zero_finite
    (λ h. record_finite vs ids u e h (thresholds_of e)) c is
