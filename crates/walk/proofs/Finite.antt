-- No sum of a mesh of the domain overflows (01): what one triangle adds is within 2^72, or 2^103 for the volume term, so n of them are
-- within n times that, which is a value of the format up to 32,768. Assumes nothing.
use mathlib.Core.Path.{◌≡◌, refl}
use Prim.Native.Nat.{ℕ, zero, suc, ◌+◌, ◌*◌, ◌^◌, ◌≤◌, ◌<◌}
use native.Mathlib.Nat.{lt_of_le_of_lt, mul-le-mul_right}
use native.Mathlib.Omega.{arith}
use mathlib.Core.List.{List}
use lib.Dec.{T, lit<, lit≤}
use lib.Pow.{pow-add, pow-lt}
use lib.Ieee.{Float, Format, binary32, binary64, prec, emax, add, of_bits}
use lib.Ieee.Scale.{finite}
use Rattle.ieee.specs.Single.{◌⊕◌, nought}
use Rattle.ieee.proofs.Order.Differences.{zero_bits}
use Rattle.ids.specs.Triangles.{triangle}
use Rattle.sums.specs.declared.triangle.Facet.{Facet}
use Rattle.sums.specs.declared.totals.Areas.{Areas}
use Rattle.sums.specs.declared.totals.Slope.{Slope}
use Rattle.sums.specs.declared.totals.Thresholds.{Thresholds}
use Rattle.sums.specs.declared.totals.Totals.{Totals}
use Rattle.sums.specs.Box.{box, origin}
use Rattle.sums.specs.Facet.{Part, out_of_range, sliver, used, part}
use Rattle.sums.specs.Fine.{all_fine}
use Rattle.sums.specs.Totals.{no_totals, on_slope, slope_of, with_facet, with_part, totals_to}
use Rattle.sums.proofs.AreaLaws.{Adds, part_within}
use Rattle.sums.proofs.Within.{Within, within_add, within_most}
use Rattle.surfaces.specs.Surfaces.{Bucket, normal_key}
use Rattle.surfaces.specs.Keys.{AllAreas}
use Rattle.surfaces.proofs.Keys.{areas_still, put_all}
use Rattle.walk.specs.Domain.{EachArea, FiniteTotals, FiniteAreas}
use Rattle.walk.specs.Walk.{with_surface, buckets_to}

-- ---- one more
few : (f : Format) (n : ℕ) → n ≤ 32768 → n < 2 ^ prec f
few binary32 n h = lt_of_le_of_lt h (lit< tt)
few binary64 n h = lt_of_le_of_lt h (lit< tt)

module _ (f : Format) (k n : ℕ) (K : 15 + k ≤ emax f) (N : suc n ≤ 32768) where
  room : suc n * 2 ^ k < 2 ^ suc (emax f)
  room = lt_of_le_of_lt (mul-le-mul_right (2 ^ k) N) (rw (← pow-add 2 15 k) (pow-lt (omega arith)))

  within_next : (x y : Float) → Within (n * 2 ^ k) x → Within (2 ^ k) y → Within (suc n * 2 ^ k) (add f x y)
  within_next x y = within_add f k n x y (few f (suc n) N) room

within_still : (k n : ℕ) (x : Float) → Within (n * 2 ^ k) x → Within (suc n * 2 ^ k) x
within_still k n x = within_most (n * 2 ^ k) (suc n * 2 ^ k) x (omega arith)

within_none : (k : ℕ) (f : Format) → Within (0 * 2 ^ k) (of_bits f 0)
within_none k f = rw (zero_bits f) (record { finite_is = tt; small = omega arith })

abbrev pub Times : ℕ → Float → Type 0
Times n x = Within (n * 2 ^ 72) x

-- ---- the totals
pub record TotalsWithin (n : ℕ) (t : Totals) : Type 0 where
  pub surface : Times n t.surface
  pub volume6 : Within (n * 2 ^ 103) t.volume6
  pub areas : EachArea (Times n) t.areas

totals_none : TotalsWithin 0 no_totals
totals_none =
    let none = within_none 72 binary32 in
    record {
      surface = within_none 72 binary64;
      volume6 = within_none 103 binary64;
      areas = record { top = none; bottom = none; side = none; inclined = none };
    }

pub each_still : {P Q : Float → Type 0} (a : Areas) → ((y : Float) → P y → Q y) → EachArea P a → EachArea Q a
each_still a f w =
    record { top = f _ w.top; bottom = f _ w.bottom; side = f _ w.side; inclined = f _ w.inclined }

-- one of the four goes on, the others stay
pub each_next : {P Q : Float → Type 0} (s : Slope) (x : Float) (a : Areas) → ((y : Float) → P y → Q y) → ((y : Float) → P y → Q (y ⊕ x))
    → EachArea P a → EachArea Q (on_slope s x a)
unfolding on_slope
each_next Slope.Top x a f g w = record { top = g _ w.top; bottom = f _ w.bottom; side = f _ w.side; inclined = f _ w.inclined }
each_next Slope.Bottom x a f g w =
    record { top = f _ w.top; bottom = g _ w.bottom; side = f _ w.side; inclined = f _ w.inclined }
each_next Slope.Side x a f g w =
    record { top = f _ w.top; bottom = f _ w.bottom; side = g _ w.side; inclined = f _ w.inclined }
each_next Slope.Inclined x a f g w =
    record { top = f _ w.top; bottom = f _ w.bottom; side = f _ w.side; inclined = g _ w.inclined }

totals_still : (n : ℕ) (t : Totals) → TotalsWithin n t → TotalsWithin (suc n) t
totals_still n t w =
    record {
      surface = within_still 72 n t.surface w.surface;
      volume6 = within_still 103 n t.volume6 w.volume6;
      areas = each_still t.areas (within_still 72 n) w.areas;
    }

module _ (n : ℕ) (N : suc n ≤ 32768) where
  area_next : (x : Float) → Within (2 ^ 72) x → (y : Float) → Times n y → Times (suc n) (y ⊕ x)
  area_next x X y v = within_next binary32 72 n (lit≤ tt) N y x v X

  facet_next : (p : Thresholds) (t : Totals) (f : Facet) → Adds f → TotalsWithin n t → TotalsWithin (suc n) (with_facet p t f)
  unfolding with_facet
  facet_next p t f a w =
      record {
        surface = within_next binary64 72 n (lit≤ tt) N t.surface f.area w.surface a.area;
        volume6 = within_next binary64 103 n (lit≤ tt) N t.volume6 f.volume w.volume6 a.volume;
        areas =
            each_next (slope_of p f.nz) f.area32 t.areas (within_still 72 n) (area_next f.area32 a.area32) w.areas;
      }

  part_next : (p : Thresholds) (t : Totals) (q : Part) → ((f : Facet) → q ≡ used f → Adds f) → TotalsWithin n t
      → TotalsWithin (suc n) (with_part p t q)
  unfolding with_part
  part_next p t out_of_range a w = totals_still n t w
  part_next p t sliver a w = totals_still n t w
  part_next p t (used f) a w = facet_next p t f (a f refl) w

pub totals_within : (vs : List Float) (p : Thresholds) (ids : List ℕ) (n : ℕ) → T (all_fine vs) → n ≤ 32768
    → TotalsWithin n (totals_to vs (origin (box vs)) p ids n)
unfolding totals_to
totals_within vs p ids zero fine N = totals_none
totals_within vs p ids (suc n) fine N =
    part_next n N p (totals_to vs (origin (box vs)) p ids n) (part vs (origin (box vs)) (triangle ids n))
    (λ f e. part_within vs (triangle ids n) f fine e)
    (totals_within vs p ids n fine (omega arith))

pub totals_finite : (vs : List Float) (p : Thresholds) (ids : List ℕ) (n : ℕ) → T (all_fine vs) → n ≤ 32768
    → FiniteTotals (totals_to vs (origin (box vs)) p ids n)
totals_finite vs p ids n fine N =
    let w = totals_within vs p ids n fine N in
    record {
      surface = w.surface.finite_is;
      volume6 = w.volume6.finite_is;
      areas = each_still _ (λ x v. v.finite_is) w.areas;
    }

-- ---- the areas of the keys

surface_next : (n : ℕ) → suc n ≤ 32768 → (bs : List Bucket) (q : Part) → ((f : Facet) → q ≡ used f → Adds f) → AllAreas (Times n) bs
    → AllAreas (Times (suc n)) (with_surface bs q)
unfolding with_surface
surface_next n N bs out_of_range a w = areas_still (Times n) (Times (suc n)) (within_still 72 n) bs w
surface_next n N bs sliver a w = areas_still (Times n) (Times (suc n)) (within_still 72 n) bs w
surface_next n N bs (used f) a w =
    let more = area_next n N f.area32 (a f refl).area32 in
    put_all (Times n) (Times (suc n)) (within_still 72 n) (normal_key f.nx f.ny f.nz) f.area32 more
    (more nought (within_most (0 * 2 ^ 72) (n * 2 ^ 72) nought (omega arith) (within_none 72 binary32))) bs w

pub buckets_within : (vs : List Float) (ids : List ℕ) (n : ℕ) → T (all_fine vs) → n ≤ 32768
    → AllAreas (Times n) (buckets_to vs (origin (box vs)) ids n)
unfolding buckets_to AllAreas
buckets_within vs ids zero fine N = tt
buckets_within vs ids (suc n) fine N =
    surface_next n N (buckets_to vs (origin (box vs)) ids n) (part vs (origin (box vs)) (triangle ids n))
    (λ f e. part_within vs (triangle ids n) f fine e)
    (buckets_within vs ids n fine (omega arith))

pub buckets_finite : (vs : List Float) (ids : List ℕ) (n : ℕ) → T (all_fine vs) → n ≤ 32768
    → FiniteAreas (buckets_to vs (origin (box vs)) ids n)
buckets_finite vs ids n fine N =
    areas_still (Times n) (λ x. T (finite x)) (λ x w. w.finite_is) (buckets_to vs (origin (box vs)) ids n) (buckets_within vs ids n fine N)
