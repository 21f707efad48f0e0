-- The box of a mesh is moved with it, so its extents and its volume are the same. Assumes nothing.
use mathlib.Core.Path.{◌≡◌, refl}
use mathlib.Core.List.{List}
use Prim.Native.Nat.{ℕ, zero, suc, ◌+◌, ◌*◌, ◌≤◌, ◌<◌}
use native.Mathlib.Omega.{arith}
use mathlib.Core.Bool.{true, false}
use lib.Dec.{T, lit<}
use lib.IntN.{ℤ, ◌+ℤ◌}
use lib.ListN.{length}
use lib.Ieee.{Float, inf, binary32}
use lib.Ieee.Scale.{finite}
use Rattle.ieee.specs.Order.{least, greatest}
use Rattle.ieee.specs.Single.{extent}
use Rattle.vertices.specs.Vertices.{vertex_count, coordinate}
use Rattle.sums.specs.declared.bounds.Bounds.{Bounds}
use Rattle.sums.proofs.FineBoxes.{least_first, greatest_first}
use Rattle.sums.specs.Box.{lowest, highest, box, box_to, box_volume}
use Rattle.place.specs.Moved.{Moved}
use Rattle.place.proofs.Shifted.{Shifted, same_sub, least_shifted, greatest_shifted, whole_finite}
use Rattle.place.proofs.Vertices.{along, coordinate_shifted}

-- ---- the least and the greatest coordinate on an axis

module _ (dx dy dz : ℤ) (vs vs' : List Float) (m : Moved dx dy dz vs vs') (axis : ℕ) (h : axis < 3) where
  abbrev d : ℤ
  d = along dx dy dz axis

  at : (v : ℕ) → 3 * v + 2 < length vs → Shifted d (coordinate vs axis v) (coordinate vs' axis v)
  at v l = coordinate_shifted dx dy dz vs vs' m v axis h l

  -- `bound` is what `pick` takes of the first n coordinates, from `start` on
  picked_shifted : (pick : Float → Float → Float) (start : Float) (bound : List Float → ℕ → Float)
      → ((x y x' y' : Float) → Shifted d x x' → Shifted d y y' → Shifted d (pick x y) (pick x' y'))
      → ((x : Float) → T (finite x) → pick start x ≡ x) → ((ws : List Float) → bound ws 0 ≡ start)
      → ((ws : List Float) (n : ℕ) → bound ws (suc n) ≡ pick (bound ws n) (coordinate ws axis n))
      → (n : ℕ) → 3 * suc n ≤ length vs → Shifted d (bound vs (suc n)) (bound vs' (suc n))
  picked_shifted pick start bound keeps first none next zero l =
      let s = at 0 (omega arith) in
      let one = first (coordinate vs axis 0) (whole_finite (coordinate vs axis 0) s.at s.first) in
      let one' = first (coordinate vs' axis 0) (whole_finite (coordinate vs' axis 0) (s.at +ℤ d) s.second) in
      rw (next vs 0, next vs' 0, none vs, none vs', one, one') s
  picked_shifted pick start bound keeps first none next (suc n) l =
      rw (next vs (suc n), next vs' (suc n))
      (keeps (bound vs (suc n)) (coordinate vs axis (suc n)) (bound vs' (suc n)) (coordinate vs' axis (suc n))
      (picked_shifted pick start bound keeps first none next n (omega arith)) (at (suc n) (omega arith)))

  bounds_shifted : (n : ℕ) → 3 * suc n ≤ length vs
      → Shifted d (lowest vs axis (suc n)) (lowest vs' axis (suc n)) × Shifted d (highest vs axis (suc n)) (highest vs' axis (suc n))
  unfolding lowest highest
  bounds_shifted n l = (
    picked_shifted least (inf false) (λ ws. lowest ws axis) (least_shifted d) least_first (λ ws. refl) (λ ws k. refl) n l,
    picked_shifted greatest (inf true) (λ ws. highest ws axis) (greatest_shifted d) greatest_first (λ ws. refl) (λ ws k. refl) n l,
  )

-- ---- the box

pub record BoxShifted (dx dy dz : ℤ) (b b' : Bounds) : Type 0 where
  pub xmin : Shifted dx b.xmin b'.xmin
  pub ymin : Shifted dy b.ymin b'.ymin
  pub zmin : Shifted dz b.zmin b'.zmin
  pub xmax : Shifted dx b.xmax b'.xmax
  pub ymax : Shifted dy b.ymax b'.ymax
  pub zmax : Shifted dz b.zmax b'.zmax

module _ (dx dy dz : ℤ) (vs vs' : List Float) (m : Moved dx dy dz vs vs') where
  to_shifted : (n : ℕ) → 3 * suc n ≤ length vs → BoxShifted dx dy dz (box_to vs (suc n)) (box_to vs' (suc n))
  unfolding box_to
  to_shifted n l =
      let x = bounds_shifted dx dy dz vs vs' m 0 (lit< tt) n l in
      let y = bounds_shifted dx dy dz vs vs' m 1 (lit< tt) n l in
      let z = bounds_shifted dx dy dz vs vs' m 2 (lit< tt) n l in
      record { xmin = x.0; ymin = y.0; zmin = z.0; xmax = x.1; ymax = y.1; zmax = z.1 }

  -- of one vertex at least
  pub box_shifted : 3 ≤ length vs → BoxShifted dx dy dz (box vs) (box vs')
  box_shifted h = rw m.lengths (go (vertex_count vs) (omega arith) (omega arith))
    where
      go : (n : ℕ) → 0 < n → 3 * n ≤ length vs → BoxShifted dx dy dz (box_to vs n) (box_to vs' n)
      go zero p l = absurd (omega arith)
      go (suc n) p l = to_shifted n l

-- ---- what is made of its extents

same_extent : (d : ℤ) (lo hi lo' hi' : Float) → Shifted d lo lo' → Shifted d hi hi' → extent lo' hi' ≡ extent lo hi
unfolding extent
same_extent d lo hi lo' hi' p q = rw (same_sub d hi lo hi' lo' q p binary32)

pub same_box_volume : (dx dy dz : ℤ) (b b' : Bounds) (cube : Float) → BoxShifted dx dy dz b b' → box_volume b' cube ≡ box_volume b cube
unfolding box_volume
same_box_volume dx dy dz b b' cube k =
    rw (
      same_extent dx b.xmin b.xmax b'.xmin b'.xmax k.xmin k.xmax,
      same_extent dy b.ymin b.ymax b'.ymin b'.ymax k.ymin k.ymax,
      same_extent dz b.zmin b.zmax b'.zmin b'.zmax k.zmin k.zmax,
    )
