-- The prism bound of a mesh of the domain is finite: of n cells a side, 2^j to 2^(j + 1), each is up to 2^(34 - j) long, so a footprint is
-- within 2^70, a prism
-- within 2^104, and with the unit's cube within 2^116. Assumes nothing.
use Rattle.std.proofs.Common.{◌≡◌, ℕ, suc, ◌+◌, ◌-◌, ◌*◌, ◌/◌, ◌%◌, ◌^◌, ◌<◌, ◌≤◌, Bool, true, false, cond, ◌||◌, T, ◌⊎◌, List, sym, refl, subst, inl, inr, le_trans, lt_of_le_of_lt, le_of_lt, mul-le-mul, mul-le-mul_left, arith, lit<, lit≤, pow-add}
use lib.Ieee.{Float, inf, binary32, size, lt, le, of_bits, of_int}
use lib.Ieee.Digits.{size-le, size-lt, size_reaches}
use lib.Ieee.Exact.{HasValue}
use lib.Ieee.Scale.{finite}
use Rattle.ieee.specs.Order.{least}
use Rattle.ieee.specs.Single.{◌⊗◌, ◌⊘◌, nought, number, extent}
use Rattle.ieee.proofs.Numbers.Basic.{size_gt}
use Rattle.ieee.proofs.Order.Extremes.{least_from}
use Rattle.vertices.specs.Vertices.{axis_number}
use Rattle.grid.specs.Grid.{cells_in, along_of, grid_of}
use Rattle.grid.proofs.Sizes.{cells_some, cells_few}
use Rattle.paint.specs.Covered.{covered}
use Rattle.raster.specs.declared.Window.{Window}
use Rattle.raster.specs.Footprint.{covered_cells, area_on, footprint_on, no_footprint, footprint_over, cell_size, footprint}
use Rattle.raster.proofs.Counting.{count_most}
use Rattle.sums.specs.declared.bounds.Bounds.{Bounds}
use Rattle.sums.specs.Fine.{fine}
use Rattle.sums.proofs.FineBoxes.{FineBox, extent_within}
use Rattle.sums.proofs.Within.{Within, Value, multiple_value, power_value, within_div, within_most, within_mul, within_value}
use Rattle.volume.specs.Best.{across_x, across_y, across_z, has_footprint, prism_on, or_less, or_none, prism, prism_x, prism_y, prism_z}

none_within : (k : ℕ) → Within (2 ^ k) nought
unfolding of_bits
none_within k = record { finite_is = tt; small = omega arith }

-- ---- a number of cells

-- n has the power 2 ^ j
record Digits (n j : ℕ) : Type 0 where
  few : j ≤ 8
  from : 2 ^ j ≤ n
  to : n ≤ 2 ^ suc j

digits : (n : ℕ) → 0 < n → n ≤ 256 → Digits n (size n - 1)
digits n some most =
    let least-one = size_gt n 0 (omega arith) in
    let most-nine = size-le n 9 (lt_of_le_of_lt most (lit< tt)) in
    let e : suc (size n - 1) ≡ size n = omega arith in
    record {
      few = omega arith;
      from = size_reaches n (size n - 1) (omega arith);
      to = subst (λ (k : ℕ). n ≤ 2 ^ k) (sym e) (le_of_lt (size-lt n));
    }

number_value : (n : ℕ) → n ≤ 256 → HasValue (number n) false n 1
unfolding of_int
number_value n most =
    let e : n * 2 ^ 0 ≡ n = omega arith in
    subst (Value binary32) e (multiple_value binary32 n 0 (lt_of_le_of_lt most (lit< tt))
    (subst (λ (k : ℕ). k < 2 ^ 128) (sym e) (lt_of_le_of_lt most (lit< tt))))

-- a length up to 2^34 over n
cell_within : (l : Float) (n j : ℕ) → 0 < n → n ≤ 256 → Digits n j → Within (2 ^ 34) l → Within (2 ^ (34 - j)) (l ⊘ number n)
cell_within l n j some most d w =
    let e : 34 - j + j ≡ 34 = omega (arith, d.few) in
    let all : 2 ^ 34 ≤ 2 ^ (34 - j) * n =
    subst (λ (k : ℕ). 2 ^ k ≤ 2 ^ (34 - j) * n) e (rw (pow-add 2 (34 - j) j) (mul-le-mul_left (2 ^ (34 - j)) d.from)) in
    within_div binary32 (2 ^ (34 - j)) n (power_value binary32 (34 - j) (omega arith)) some l (number n) (number_value n most)
    (within_most (2 ^ 34) (2 ^ (34 - j) * n) l all w)

cells_within : (c n m i j : ℕ) → c ≤ n * m → Digits n j → Digits m i → Within (2 ^ (suc j + suc i)) (number c)
unfolding of_int
cells_within c n m i j h d g =
    within_value binary32 (2 ^ (suc j + suc i)) (power_value binary32 (suc j + suc i) (omega (arith, d.few, g.few))) false c 1 (lit< tt)
    (rw (pow-add 2 (suc j) (suc i)) (omega (arith, le_trans h (mul-le-mul d.to g.to))))

-- ---- the footprint
area_within : (c n m : ℕ) (w h : Float) → c ≤ n * m → 0 < n → n ≤ 256 → 0 < m → m ≤ 256 → Within (2 ^ 34) w → Within (2 ^ 34) h
    → Within (2 ^ 70) (number c ⊗ (w ⊘ number n) ⊗ (h ⊘ number m))
area_within c n m w h l N N' M M' W H =
    let j = size n - 1 in
    let i = size m - 1 in
    let d = digits n N N' in
    let g = digits m M M' in
    let a : suc j + suc i + (34 - j) ≡ i + 36 = omega (arith, d.few) in
    let b : i + 36 + (34 - i) ≡ 70 = omega (arith, g.few) in
    let across = within_mul binary32 (suc j + suc i) (34 - j) (number c) (w ⊘ number n) (omega (arith, d.few, g.few))
    (cells_within c n m i j l d g) (cell_within w n j N N' d W) in
    let both = within_mul binary32 (i + 36) (34 - i) (number c ⊗ (w ⊘ number n)) (h ⊘ number m) (omega (arith, g.few))
    (subst (λ (k : ℕ). Within (2 ^ k) (number c ⊗ (w ⊘ number n))) a across) (cell_within h m i M M' g H) in
    subst (λ (k : ℕ). Within (2 ^ k) (number c ⊗ (w ⊘ number n) ⊗ (h ⊘ number m))) b both

module _ (vs : List Float) (ids : List ℕ) (u v : ℕ) where
  grid_within : (x y w h size : Float) → Within (2 ^ 34) w → Within (2 ^ 34) h → Within (2 ^ 70) (area_on vs u v ids (grid_of x y w h size))
  unfolding area_on grid_of along_of covered_cells
  grid_within x y w h size W H =
      let g = grid_of x y w h size in
      let n = cells_in w size in
      let m = cells_in h size in
      area_within (covered_cells vs u v g ids) n m w h (count_most (λ k. covered vs u v g ids (k % n) (k / n)) (n * m))
      (cells_some w size) (cells_few w size) (cells_some h size) (cells_few h size) W H

  over_within : (x y w h size : Float) → Within (2 ^ 34) w → Within (2 ^ 34) h
      → Within (2 ^ 70) (footprint_over vs u v ids x y w h size).area
  unfolding footprint_over footprint_on
  over_within x y w h size W H = go (le w nought || (le h nought || le size nought))
    where
      go : (b : Bool) → Within (2 ^ 70) (cond b no_footprint (footprint_on vs u v ids (grid_of x y w h size))).area
      go true = none_within 70
      go false = grid_within x y w h size W H

-- ---- a prism: the footprint times the extent e on the third axis
on_within : (vs : List Float) (ids : List ℕ) (s : Window) (e : Float) → T (fine s.xmin) → T (fine s.xmax) → T (fine s.ymin)
    → T (fine s.ymax) → Within (2 ^ 34) e → Within (2 ^ 104) (prism_on vs ids s e)
unfolding prism_on footprint
on_within vs ids s e p q r t w = go (has_footprint s e)
  where
    go : (b : Bool) → Within (2 ^ 104) (cond b ((footprint vs ids s).area ⊗ e) nought)
    go true =
        let l = extent s.xmin s.xmax in
        let h = extent s.ymin s.ymax in
        within_mul binary32 70 34 (footprint vs ids s).area e (lit≤ tt)
        (over_within vs ids (axis_number s.u) (axis_number s.v) s.xmin s.ymin l h (cell_size l h)
        (extent_within s.xmin s.xmax p q) (extent_within s.ymin s.ymax r t))
        w
    go false = none_within 104

-- ---- the least of the three
abbrev Least : Float → Type 0
Least x = Within (2 ^ 104) x ⊎ (x ≡ inf false)

less_within : (m p : Float) → Least m → Within (2 ^ 104) p → Least (or_less m p)
unfolding or_less
less_within m p h w = go (lt nought p)
  where
    go : (b : Bool) → Least (cond b (least m p) m)
    go true = least_from Least m p h (inl w)
    go false = h

none_finite : (m cube : Float) → Least m → Within (2 ^ 12) cube → T (finite (or_none m cube))
unfolding or_none
none_finite m cube (inl h) w = go (lt m (inf false))
  where
    go : (b : Bool) → T (finite (cond b (m ⊗ cube) nought))
    go true = (within_mul binary32 104 12 m cube (lit≤ tt) h w).finite_is
    go false = (none_within 0).finite_is
none_finite m cube (inr e) w = rw e (unfold lt in (none_within 0).finite_is)

pub prism_finite : (vs : List Float) (ids : List ℕ) (b : Bounds) (cube : Float) → FineBox b → Within (2 ^ 12) cube
    → T (finite (prism vs ids b cube))
unfolding prism
prism_finite vs ids b cube p w =
    let e = extent_within b.xmin b.xmax p.xmin p.xmax in
    let f = extent_within b.ymin b.ymax p.ymin p.ymax in
    let g = extent_within b.zmin b.zmax p.zmin p.zmax in
    let x = on_within vs ids (across_x b) (extent b.xmin b.xmax) p.ymin p.ymax p.zmin p.zmax e in
    let y = on_within vs ids (across_y b) (extent b.ymin b.ymax) p.xmin p.xmax p.zmin p.zmax f in
    let z = on_within vs ids (across_z b) (extent b.zmin b.zmax) p.xmin p.xmax p.ymin p.ymax g in
    let one = or_less (inf false) (prism_x vs ids b) in
    let two = or_less one (prism_y vs ids b) in
    none_finite (or_less two (prism_z vs ids b)) cube
    (less_within two (prism_z vs ids b) (less_within one (prism_y vs ids b) (less_within (inf false) (prism_x vs ids b) (inr refl) x) y) z) w
