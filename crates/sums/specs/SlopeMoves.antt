-- What can move where from one pair of thresholds to another, and so from edition 1 to 2 (02, A6).
use Rattle.std.specs.Prelude.{◌≡◌, T, from_bits, Float}
use Rattle.std.specs.Float.{binary32}
use Rattle.std.specs.Float.Ieee.{le, neg}
use Rattle.sums.specs.declared.totals.Slope.{Slope}
use Rattle.sums.specs.declared.totals.Thresholds.{Thresholds}
use Rattle.sums.specs.Editions.{thresholds1, thresholds2}
use Rattle.sums.specs.Totals.{slope_of}

-- the pair p' leaves no more inclined than p: its first threshold is no higher, its second no lower, and its first is above what is a side
-- or a bottom by p
pub record NoMoreInclined (p p' : Thresholds) : Type 0 where
  pub top : T (le p'.top p.top)
  pub side : T (le p.side p'.side)
  pub above_sides : T (le p.side p'.top)
  pub above_bottoms : T (le (neg p.top) p'.top)

-- from one slope to another: only what is inclined moves
unfoldable pub MayBecome : Slope → Slope → Type 0
MayBecome Slope.Top s = s ≡ Slope.Top
MayBecome Slope.Bottom s = s ≡ Slope.Bottom
MayBecome Slope.Side s = s ≡ Slope.Side
MayBecome Slope.Inclined s = Unit {0}

-- so of every float (`slopes_move`)
abbrev pub SlopesMove : Type 0
SlopesMove = (p p' : Thresholds) → NoMoreInclined p p' → (z : Float) → MayBecome (slope_of p z) (slope_of p' z)

-- under edition 1 and under edition 2
pub record Becomes (z : Float) (from to : Slope) : Type 0 where
  pub first : slope_of thresholds1 z ≡ from
  pub second : slope_of thresholds2 z ≡ to

-- the editions are such pairs, and each move does occur: a z of 0.9 becomes top, -0.9 bottom, 0.4 side, and 0.6 stays (`edition_moves`)
pub record EditionMoves : Type 0 where
  pub less : NoMoreInclined thresholds1 thresholds2
  pub to_top : Becomes (from_bits binary32 0x3f66_6666) Slope.Inclined Slope.Top
  pub to_bottom : Becomes (from_bits binary32 0xbf66_6666) Slope.Inclined Slope.Bottom
  pub to_side : Becomes (from_bits binary32 0x3ecc_cccd) Slope.Inclined Slope.Side
  pub stays : Becomes (from_bits binary32 0x3f19_999a) Slope.Inclined Slope.Inclined
