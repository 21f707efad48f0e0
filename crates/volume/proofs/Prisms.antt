-- The prism and its pairs, from the values that the code has on the way, each a variable here.
use mathlib.Core.Path.{◌≡◌}
use mathlib.Core.List.{List}
use Prim.Native.Nat.{ℕ}
use lib.Ieee.{Float, binary32, of_bits}
use Rattle.ieee.specs.Single.{extent}
use Rattle.raster.specs.declared.Window.{Window}
use Rattle.sums.specs.declared.bounds.Bounds.{Bounds}
use Rattle.volume.specs.declared.Across.{Across}
use Rattle.volume.specs.declared.Pairs.{Pairs}
use Rattle.volume.specs.Best.{across_x, across_y, across_z, prism_on, or_less, or_none, prism}
use Rattle.volume.specs.Pairs.{pair_on, prism_pairs}

-- on one axis: the window s across it, the extent e along it, and what the code has of their prism
pub record IsAcross (vs : List Float) (ids : List ℕ) (s t : Window) (lo hi e : Float) (a : Across) : Type 0 where
  pub is_window : s ≡ t
  pub is_extent : e ≡ extent lo hi
  pub is_prism : a.prism ≡ prism_on vs ids s e
  pub is_pair : a.cells ≡ pair_on vs ids s e

module _ (vs : List Float) (ids : List ℕ) (b : Bounds) {sz sy sx : Window} {ez ey ex : Float} {az ay ax : Across}
    (z : IsAcross vs ids sz (across_z b) b.zmin b.zmax ez az) (y : IsAcross vs ids sy (across_y b) b.ymin b.ymax ey ay)
    (x : IsAcross vs ids sx (across_x b) b.xmin b.xmax ex ax) where
  pub prism_is : (cube m n o r : Float) → m ≡ or_less (of_bits binary32 0x7f80_0000) ax.prism → n ≡ or_less m ay.prism
      → o ≡ or_less n az.prism → r ≡ or_none o cube → r ≡ prism vs ids b cube
  unfolding prism of_bits
  prism_is cube m n o r hm hn ho hr =
      rw (
        hr,
        ho,
        hn,
        hm,
        x.is_prism,
        x.is_window,
        x.is_extent,
        y.is_prism,
        y.is_window,
        y.is_extent,
        z.is_prism,
        z.is_window,
        z.is_extent,
      )

  pub pairs_are : ◌≡◌ {A = Pairs} (record { z = az.cells; y = ay.cells; x = ax.cells }) (prism_pairs vs ids b)
  unfolding prism_pairs
  pairs_are =
      rw (
        x.is_pair,
        x.is_window,
        x.is_extent,
        y.is_pair,
        y.is_window,
        y.is_extent,
        z.is_pair,
        z.is_window,
        z.is_extent,
      )
