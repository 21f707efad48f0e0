-- A mesh that passes refusal 4 has a box of such numbers, once it has a vertex: each is one of its coordinates, and the least are below
-- none. Its volume is up to 2^114. Assumes nothing.
use Rattle.std.proofs.Common.{◌≡◌, ℕ, zero, suc, ◌+◌, ◌-◌, ◌*◌, ◌^◌, ◌<◌, ◌≤◌, true, false, not, T, List, [], ◌∷◌, length, get_or, refl, arith, lit≤}
use native.Mathlib.Decide.{dec_lt}
use lib.Ieee.{Float, nan, inf, fin, binary32, lt, le, of_bits, is_nan}
use lib.Ieee.Exact.{HasValue}
use lib.Ieee.Fits.{and_l, and_r}
use lib.Ieee.Scale.{finite}
use Rattle.ieee.specs.Magnitude.{magnitude}
use Rattle.ieee.specs.Order.{least, greatest}
use Rattle.ieee.specs.Single.{◌⊖◌, ◌⊗◌, nought, extent}
use Rattle.ieee.proofs.Order.Comparison.{le_trans}
use Rattle.ieee.proofs.Order.Extremes.{least_from, least_left, least_right, greatest_from}
use Rattle.vertices.specs.Vertices.{vertex_count, coordinate}
use Rattle.sums.specs.declared.bounds.Bounds.{Bounds}
use Rattle.sums.specs.Box.{lowest, highest, box, box_volume}
use Rattle.sums.specs.Fine.{fine, all_fine}
use Rattle.sums.proofs.Boxes.{lowest_number, Each, each_to}
use Rattle.sums.proofs.Within.{Within, within_le, within_magnitude, within_mul, within_number, within_sub}

-- ---- one coordinate
bound_value : HasValue (of_bits binary32 0x5000_0000) false (2 ^ 33) 1
unfolding of_bits
bound_value = (refl, refl)

pub fine_within : (x : Float) → T (fine x) → Within (2 ^ 33) x
unfolding magnitude le
fine_within nan h = absurd h
fine_within (inf s) h = within_magnitude (2 ^ 33) (inf s) (within_le (2 ^ 33) (inf false) (of_bits binary32 0x5000_0000) tt bound_value h)
fine_within (fin s m e) h =
    within_magnitude (2 ^ 33) (fin s m e) (within_le (2 ^ 33) (fin false m e) (of_bits binary32 0x5000_0000) tt bound_value h)

pub fine_finite : (x : Float) → T (fine x) → T (finite x)
fine_finite x h = (fine_within x h).finite_is

fine_at : (vs : List Float) (i : ℕ) → T (all_fine vs) → i < length vs → T (fine (get_or vs i nan))
unfolding all_fine
fine_at [] i h l = absurd (omega arith)
fine_at (x ∷ vs) zero h l = and_l (fine x) (all_fine vs) h
fine_at (x ∷ vs) (suc i) h l = fine_at vs i (and_r (fine x) (all_fine vs) h) (omega arith)

-- a float of such a list is no NaN
pub number_at : (vs : List Float) (i : ℕ) → T (all_fine vs) → i < length vs → T (not (is_nan (get_or vs i nan)))
number_at vs i h l = within_number (2 ^ 33) (get_or vs i nan) (fine_within (get_or vs i nan) (fine_at vs i h l))

pub coordinate_fine : (vs : List Float) (axis v : ℕ) → T (all_fine vs) → axis < 3 → v < vertex_count vs → T (fine (coordinate vs axis v))
coordinate_fine vs axis v h a l = fine_at vs (3 * v + axis) h (omega arith)

-- ---- the bounds
-- of ∞ and a finite number the least is the number, of -∞ the greatest
pub least_first : (x : Float) → T (finite x) → least (inf false) x ≡ x
unfolding least is_nan lt
least_first nan p = absurd p
least_first (inf s) p = absurd p
least_first (fin s m e) p = refl

pub greatest_first : (x : Float) → T (finite x) → greatest (inf true) x ≡ x
unfolding greatest is_nan lt
greatest_first nan p = absurd p
greatest_first (inf s) p = absurd p
greatest_first (fin s m e) p = refl

module _ (vs : List Float) (h : T (all_fine vs)) (axis : ℕ) (a : axis < 3) where
  -- e n is what `pick` takes of the first n coordinates
  picked_fine : (pick : Float → Float → Float) (e : ℕ → Float) → ((P : Float → Type 0) (x y : Float) → P x → P y → P (pick x y))
      → ((x : Float) → T (finite x) → pick (e 0) x ≡ x) → ((n : ℕ) → e (suc n) ≡ pick (e n) (coordinate vs axis n))
      → (n : ℕ) → n < vertex_count vs → T (fine (e (suc n)))
  picked_fine pick e from first next zero l =
      let c = coordinate_fine vs axis 0 h a l in rw (next 0, first (coordinate vs axis 0) (fine_finite (coordinate vs axis 0) c)) c
  picked_fine pick e from first next (suc n) l =
      rw (next (suc n)) (from (λ z. T (fine z)) (e (suc n)) (coordinate vs axis (suc n))
      (picked_fine pick e from first next n (omega arith)) (coordinate_fine vs axis (suc n) h a l))

  bounds_fine : (n : ℕ) → n < vertex_count vs → T (fine (lowest vs axis (suc n))) × T (fine (highest vs axis (suc n)))
  unfolding lowest highest
  bounds_fine n l = (
    picked_fine least (lowest vs axis) least_from least_first (λ k. refl) n l,
    picked_fine greatest (highest vs axis) greatest_from greatest_first (λ k. refl) n l,
  )

  -- no coordinate is below the least
  pub lowest_le : (n v : ℕ) → n ≤ vertex_count vs → v < n → T (le (lowest vs axis n) (coordinate vs axis v))
  unfolding lowest
  lowest_le zero v l k = absurd (omega arith)
  lowest_le (suc n) v l k =
      let x = lowest vs axis n in
      let y = coordinate vs axis n in
      let x_number : T (not (is_nan x)) = rw (lowest_number vs axis n) tt in
      let y-number = number_at vs (3 * n + axis) h (omega arith) in
      elim (dec_lt v n) [
        | yes g ↦ le_trans (least x y) x (coordinate vs axis v) (least_left x y x_number y-number) (lowest_le n v (omega arith) g)
        | no g ↦ let e : v ≡ n = omega arith in rw e (least_right x y x_number y-number)
      ]

-- the six numbers of a box are fine
abbrev pub FineBox : Bounds → Type 0
FineBox = Each (λ x. T (fine x))

pub box_fine : (vs : List Float) → T (all_fine vs) → 0 < vertex_count vs → FineBox (box vs)
box_fine vs h l =
    let e : vertex_count vs ≡ suc (vertex_count vs - 1) = omega arith in
    rw e (each_to (λ x. T (fine x)) vs (suc (vertex_count vs - 1)) (λ axis a. bounds_fine vs h axis a (vertex_count vs - 1) (omega arith)))

-- ---- its volume
pub extent_within : (lo hi : Float) → T (fine lo) → T (fine hi) → Within (2 ^ 34) (extent lo hi)
unfolding extent of_bits
extent_within lo hi p q =
    greatest_from (Within (2 ^ 34)) (hi ⊖ lo) nought (within_sub binary32 33 hi lo (lit≤ tt) (fine_within hi q) (fine_within lo p))
    (record { finite_is = tt; small = omega arith })

pub box_volume_within : (b : Bounds) (cube : Float) → FineBox b → Within (2 ^ 12) cube → Within (2 ^ 114) (box_volume b cube)
unfolding box_volume
box_volume_within b cube p w =
    let x = extent b.xmin b.xmax in
    let y = extent b.ymin b.ymax in
    let z = extent b.zmin b.zmax in
    within_mul binary32 102 12 (x ⊗ y ⊗ z) cube (lit≤ tt)
    (within_mul binary32 68 34 (x ⊗ y) z (lit≤ tt)
    (within_mul binary32 34 34 x y (lit≤ tt) (extent_within b.xmin b.xmax p.xmin p.xmax)
    (extent_within b.ymin b.ymax p.ymin p.ymax))
    (extent_within b.zmin b.zmax p.zmin p.zmax)) w
