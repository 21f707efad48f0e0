-- The measures and the surface rows, from what the walk over the triangles left.
use Rattle.std.proofs.Common.{◌≡◌, ℕ, ◌*◌, ◌≤◌, T, List, ◌++◌, length, take, drop, sym, ap, ◌∙◌, subst, arith, take_at, drop_at}
use lib.Ieee.{Float, binary32, binary64, le, of_bits}
use lib.Ieee.Positive.{positive}
use Rattle.ieee.specs.Rounded.{rounded}
use Rattle.ieee.specs.Double.{◌⊠◌, ◌⧄◌}
use Rattle.ids.specs.Lent.{most_entries}
use Rattle.ids.specs.Triangles.{triangle_count}
use Rattle.sums.specs.declared.bounds.Bounds.{Bounds}
use Rattle.sums.specs.declared.totals.Areas.{Areas}
use Rattle.sums.specs.declared.totals.Thresholds.{Thresholds}
use Rattle.sums.specs.Box.{box, origin}
use Rattle.sums.specs.Fine.{all_fine}
use Rattle.sums.specs.Totals.{scaled_areas}
use Rattle.sums.proofs.Units.{least_unit, most_unit, square_positive}
use lib.Ieee.Fits.{and_l, and_r}
use Rattle.rows.specs.declared.PlanarSurface.{PlanarSurface}
use Rattle.rows.specs.Rows.{flatten, rows_of, scaled, sorted}
use Rattle.rows.specs.Plain.{all_plain}
use Rattle.rows.proofs.Flat.{rows_flat, length_flatten}
use Rattle.rows.proofs.Fours.{whole_of}
use Rattle.rows.proofs.Areas.{length_scaled}
use Rattle.rows.proofs.Order.{length_sorted}
use Rattle.surfaces.specs.Surfaces.{rows}
use Rattle.surfaces.proofs.Keys.{length_rows}
use Rattle.walk.specs.declared.Walked.{Walked}
use Rattle.walk.specs.Counts.{counts_of}
use Rattle.walk.specs.inner.Walks.{Walks}
use Rattle.walk.proofs.Counts.{counts_are}
use Rattle.walk.proofs.Worth.{buckets_plain}
use Rattle.refusals.specs.Refusals.{unit_fits, Passes}
use Rattle.qto.specs.declared.Extremes.{Extremes}
use Rattle.qto.specs.declared.Measures.{Measures}
use Rattle.qto.specs.inner.Steps.{Arrangeable, Arranged}
use Rattle.qto.specs.Full.{square, cube, totals, volume_of, surface_of, buckets, surface_rows, surfaces_after, measures_from, measures}

pub unit_ends : (u : Float) → T (unit_fits u) → T (le least_unit u) × T (le u most_unit)
unfolding unit_fits
unit_ends u h = (and_l (le least_unit u) (le u most_unit) h, and_r (le least_unit u) (le u most_unit) h)

pub unit_square : (u : Float) → T (unit_fits u) → T (positive (square u))
unit_square u h = let e = unit_ends u h in square_positive u e.0 e.1

-- the walk from the box minimum o by the pair p', which is p, found r and made the surface area w of s
pub record Found (vs : List Float) (ids : List ℕ) (b : Bounds) (o : List Float) (p p' : Thresholds) (s : List Float) (r : Walked)
    (w : List Float) : Type 0 where
  pub is_box : b ≡ box vs
  pub is_origin : o ≡ origin b
  pub is_pair : p' ≡ p
  pub walked : Walks vs o p' ids s r w

module _
    {vs : List Float}
    {ids : List ℕ}
    {b : Bounds}
    {o : List Float}
    {p p' : Thresholds}
    {s : List Float}
    {r : Walked}
    {w : List Float}
    (u : Float)
    (found : Found vs ids b o p p' s r w)
  where
    walks : Walks vs (origin (box vs)) p ids s r w
    walks =
        subst (λ (q : Thresholds). Walks vs (origin (box vs)) q ids s r w) found.is_pair
        (subst (λ (q : List Float). Walks vs q p' ids s r w) (found.is_origin ∙ ap origin found.is_box) found.walked)

    totalled : r.totals ≡ totals vs ids p
    unfolding totals
    totalled = walks.totals

    counted : r.rows ≡ length (buckets vs ids)
    unfolding buckets
    counted = walks.count

    whole : w ≡ flatten (rows (buckets vs ids)) ++ drop (4 * length (buckets vs ids)) s
    unfolding buckets
    whole = walks.surfaces

    -- how many triangles were used and left out, by the questions and not by the parts
    asked : T (all_fine vs) → r.counts ≡ counts_of vs (origin (box vs)) ids
    asked fine = walks.counts ∙ counts_are vs ids fine

    long : length (flatten (rows (buckets vs ids))) ≡ 4 * r.rows
    long = length_flatten (rows (buckets vs ids)) ∙ ap (λ (k : ℕ). 4 * k) (length_rows (buckets vs ids) ∙ sym counted)

    pub few : length ids ≤ most_entries → r.rows ≤ 32768
    few h = omega (arith, h, walks.few)

    count_rows : r.rows ≡ length (surface_rows vs ids u)
    unfolding surface_rows
    count_rows =
        sym
        (length_sorted (scaled (square u) (rows (buckets vs ids))) ∙ length_scaled (square u) (rows (buckets vs ids))
        ∙ length_rows (buckets vs ids) ∙ sym counted)

    -- the first k floats, four a row, are the rows
    module _ (k : ℕ) (is_front : k ≡ 4 * r.rows) where
      front : take k w ≡ flatten (rows (buckets vs ids))
      front = ap (take k) whole ∙ take_at (flatten (rows (buckets vs ids))) (drop (4 * length (buckets vs ids)) s) k (long ∙ sym is_front)

      back : drop k w ≡ drop (4 * length (surface_rows vs ids u)) s
      back =
          ap (drop k) whole ∙ drop_at (flatten (rows (buckets vs ids))) (drop (4 * length (buckets vs ids)) s) k (long ∙ sym is_front)
          ∙ ap (λ (n : ℕ). drop (4 * n) s) (sym counted ∙ count_rows)

      front_rows : rows_of (take k w) ≡ rows (buckets vs ids)
      front_rows = ap rows_of front ∙ rows_flat (rows (buckets vs ids))

      arranged_rows : sorted (scaled (square u) (rows_of (take k w))) ≡ surface_rows vs ids u
      unfolding surface_rows
      arranged_rows = ap (λ (l : List PlanarSurface). sorted (scaled (square u) l)) front_rows

      front_length : length (take k w) ≡ 4 * r.rows
      front_length = ap length front ∙ long

      front_plain : T (unit_fits u) → T (all_fine vs) → T (all_plain (scaled (square u) (rows_of (take k w))))
      unfolding buckets
      front_plain h fine =
          subst (λ (l : List PlanarSurface). T (all_plain (scaled (square u) l))) (sym front_rows)
          (buckets_plain vs ids (square u) (triangle_count ids) fine (unit_square u h))

      pub arrangeable : (e : ℕ) → Passes vs ids u e → Arrangeable (take k w) (square u)
      arrangeable e h = record { whole = whole_of (take k w) r.rows front_length; plain = front_plain h.unit h.fine }

      -- what the code makes of the sums and of the rows when these are in order: x before y, which stands behind the rows
      module _ (e : Extremes) (x : List Float) (arranged : Arranged (take k w) (square u) e x) where
        pub measured : (volume surface c q : Float) (areas : Areas) → T (all_fine vs) → volume
            ≡ rounded binary32 (r.totals.volume6 ⧄ of_bits binary64 0x4018_0000_0000_0000 ⊠ c) → c ≡ cube u
            → surface ≡ rounded binary32 (r.totals.surface ⊠ q) → q ≡ square u → areas ≡ scaled_areas (square u) r.totals.areas
            → ◌≡◌ {A = Measures}
            (record {
              volume = volume;
              surface = surface;
              areas = areas;
              largest = e.largest;
              smallest = e.smallest;
              count = r.rows;
              triangles = r.counts;
            })
            (measures vs ids u p)
        unfolding measures measures_from volume_of surface_of
        measured volume surface c q areas fine hv hc hs hq ha =
            rw (arranged.largest_is, arranged.smallest_is, hv, hc, hs, hq, ha, arranged_rows, count_rows, totalled, asked fine)

        pub rows_after : (y : List Float) → y ≡ drop (4 * r.rows) w → x ++ y ≡ surfaces_after vs ids u s
        unfolding surfaces_after
        rows_after y hy = rw (arranged.later, hy ∙ ap (λ (n : ℕ). drop n w) (sym is_front), back, arranged_rows)
