-- From the bytes of a raster to the numbers of covered cells and of rim cells, and from these to the footprint. Assumes nothing.
use Rattle.std.proofs.Common.{◌≡◌, ℕ, zero, suc, ◌+◌, ◌/◌, ◌%◌, ◌<◌, ◌≤◌, Bool, true, false, cond, ◌&&◌, ◌||◌, eqb, ltb, List, length, get_or, replicate, sym, refl, ◌∙◌, le_trans, mul-le-mul, add-one, arith, lit≤}
use mir.Val.{bool_byte}
use lib.Ieee.{Float, binary32, le, of_bits}
use lib.ListN.{length-replicate, get_or-replicate}
use Rattle.ieee.specs.Order.{greatest}
use Rattle.ieee.specs.Single.{◌⊖◌, ◌⊗◌, ◌⊘◌, nought, number, extent}
use Rattle.ids.proofs.Bits.{byte_bit, bit_most, bit_and}
use Rattle.vertices.specs.Vertices.{axis_number}
use Rattle.grid.specs.inner.Sized.{GridSized}
use Rattle.grid.specs.declared.Grid.{Grid}
use Rattle.grid.specs.Grid.{grid_of, cells}
use Rattle.paint.specs.inner.Painted.{cell_number, Adds}
use Rattle.paint.proofs.Numbers.{number_covered, number_rim}
use Rattle.raster.specs.declared.Footprint.{Footprint}
use Rattle.raster.specs.declared.Pair.{Pair}
use Rattle.raster.specs.declared.Window.{Window}
use Rattle.raster.specs.Footprint.{count, covered_cells, rim_cells, cells_on, area_on, footprint_on, no_footprint}
use Rattle.raster.specs.Footprint.{footprint_over, footprint}
use Rattle.raster.specs.inner.Counts.{Counts}

-- ---- counting

-- one number more, c being the count so far
pub count_next : (f : ℕ → Bool) (n c : ℕ) → c ≡ count f n → c + bool_byte (f n) ≡ count f (n + 1)
unfolding count
count_next f n c e = rw (add-one n, byte_bit (f n), e)

pub count_most : (f : ℕ → Bool) (n : ℕ) → count f n ≤ n
unfolding count
count_most f zero = omega arith
count_most f (suc n) = omega (arith, count_most f n, bit_most (f n))

count_same : (f h : ℕ → Bool) (n : ℕ) → ((k : ℕ) → k < n → f k ≡ h k) → count f n ≡ count h n
unfolding count
count_same f h zero e = refl
count_same f h (suc n) e = rw (count_same f h n (λ k l. e k (omega arith)), e n (omega arith))

-- of what f and something else hold, no more than of what f holds
pub count_and : (f h : ℕ → Bool) (n : ℕ) → count (λ k. f k && h k) n ≤ count f n
unfolding count
count_and f h zero = omega arith
count_and f h (suc n) = omega (arith, count_and f h n, bit_and (f n) (h n))

-- a grid has 65,536 cells at most
pub few_cells : (g : Grid) → GridSized g → cells g ≤ 65536
few_cells g sized = le_trans (mul-le-mul sized.columns.few sized.rows.few) (lit≤ tt)

-- ---- on a grid

module _ (vs : List Float) (u v : ℕ) (ids : List ℕ) (g : Grid) where
  -- the byte of a cell, if the raster was zero before the triangles were painted
  byte_is : (s t : List ℕ) → s ≡ replicate (cells g) 0 → Adds s t (λ k. cell_number vs u v g ids (k % g.columns.n) (k / g.columns.n)) → (k : ℕ) → k < cells g
      → get_or t k 0 ≡ cell_number vs u v g ids (k % g.columns.n) (k / g.columns.n)
  byte_is s t e a k l =
      let long : length s ≡ cells g = rw e (length-replicate (cells g) 0) in
      let zero_there : get_or s k 0 ≡ 0 = rw e (get_or-replicate (cells g) k 0 0 l) in
      omega (arith, a.says k (omega (arith, l, long)), zero_there)

  -- so counting the bytes counts covered cells and rim cells
  pub counted : (s t : List ℕ) (r : Pair) → s ≡ replicate (cells g) 0 → length t ≡ cells g
      → Adds s t (λ k. cell_number vs u v g ids (k % g.columns.n) (k / g.columns.n)) → Counts t r → r ≡ cells_on vs u v ids g
  unfolding cells_on covered_cells rim_cells
  counted s t r e l a c =
      let covered_so : count (λ k. ltb 0 (get_or t k 0)) (cells g) ≡ covered_cells vs u v g ids =
      count_same _ _ (cells g) (λ k m. rw (byte_is s t e a k m) (number_covered vs u v g ids (k % g.columns.n) (k / g.columns.n))) in
      let rim_so : count (λ k. eqb (get_or t k 0) 1) (cells g) ≡ rim_cells vs u v g ids =
      count_same _ _ (cells g) (λ k m. rw (byte_is s t e a k m) (number_rim vs u v g ids (k % g.columns.n) (k / g.columns.n))) in
      let covered_is : r.covered ≡ covered_cells vs u v g ids = rw (← covered_so, ← l) c.covered_is in
      let rim_is : r.rim ≡ rim_cells vs u v g ids = rw (← rim_so, ← l) c.rim_is in
      λ i. record { covered = covered_is i; rim = rim_is i }

  -- the footprint of so many cells
  pub footprint_of : (r : Pair) (n : Float) → r ≡ cells_on vs u v ids g → n ≡ number r.covered
      → ◌≡◌ {A = Footprint} (record { area = n ⊗ g.columns.w ⊗ g.rows.w; cells = r }) (footprint_on vs u v ids g)
  unfolding footprint_on area_on cells_on
  footprint_of r n e q = rw (q, e)

-- ---- over a box

module _ (vs : List Float) (ids : List ℕ) (s : Window) (w h m : Float)
    (ew : w ≡ greatest (s.xmax ⊖ s.xmin) nought) (eh : h ≡ greatest (s.ymax ⊖ s.ymin) nought) (em : m ≡ greatest w h) where
  abbrev size : Float
  size = m ⊘ of_bits binary32 0x4380_0000

  -- the box has no length, or no cells
  abbrev none : Bool
  none = le w nought || (le h nought || le size nought)

  abbrev on : ℕ → ℕ → Grid → Footprint
  on u v g = footprint_on vs u v ids g

  by_size : footprint vs ids s ≡ cond none no_footprint (on (axis_number s.u) (axis_number s.v) (grid_of s.xmin s.ymin w h size))
  unfolding footprint footprint_over extent
  by_size = rw (em, ew, eh)

  pub foot_none : (r : Footprint) → none ≡ true → r ≡ no_footprint → r ≡ footprint vs ids s
  foot_none r e a = a ∙ (rw e at (sym by_size))

  pub foot_some : (g : Grid) (r : Footprint) → none ≡ false → g ≡ grid_of s.xmin s.ymin w h size
      → r ≡ on (axis_number s.u) (axis_number s.v) g → r ≡ footprint vs ids s
  foot_some g r e q a = a ∙ rw q (rw e at (sym by_size))
