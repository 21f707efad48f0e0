-- `cells::cell` meets its contract: below 2 ^ 52 by the pattern's size and sign, from there on by the integer. Assumes nothing.
use mathlib.Core.Path.{◌≡◌, sym, ap, ◌∙◌}
use mathlib.Core.Bool.{true}
use Prim.Native.Nat.{ℕ, ◌+◌, ◌-◌, ◌*◌, ◌/◌, ◌^◌, ◌<◌, min}
use native.Mathlib.Omega.{arith}
use mir.Syntax.{w64}
use lib.Ieee.{Float, binary64, low, is_nan, mul, of_bits, to_bits, to_signed}
use lib.Ieee.Bits.{of_bits-to_bits, to_bits-lt}
use lib.Ieee.Fits.{mul-fits}
use Rattle.ieee.specs.Integral.{half, half_away, integral, to_whole}
use Rattle.ieee.proofs.Order.Ranges.{signed_kept}
use Rattle.ieee.proofs.Patterns.Integral.{field, size_of}
use Rattle.ieee.proofs.Patterns.Nan.{is_nan_lem}
use Rattle.ieee.proofs.Patterns.Rounding.{already}
use Rattle.cells.specs.inner.Table.{coded}
use Rattle.cells.specs.Cells.{cell_of}
use Rattle.cells.proofs.Signs.{by_pattern}
use Rattle.cells.proofs.cell.Goals as goal

nan-cell : (inv x : Float) → is_nan x ≡ true → 0 ≡ coded (cell_of inv x)
unfolding coded cell_of mul integral to_signed
nan-cell inv x h = let e = is_nan_lem x h in rw e

-- the coordinate times 1/ε, and its pattern
module _ (x inv : Float) (b : ℕ) (pattern : b ≡ to_bits binary64 (mul binary64 x inv)) where
  abbrev y : Float
  y = mul binary64 x inv

  is : of_bits binary64 b ≡ y
  is = ap (of_bits binary64) pattern ∙ of_bits-to_bits binary64 y (mul-fits binary64 x inv)

  below : b < 2 ^ 64
  below = rw pattern (to_bits-lt binary64 y (mul-fits binary64 x inv))

  -- below 2 ^ 52
  small : (n : ℕ) → field binary64 b < low binary64 + 1 → n ≡ to_whole half (size_of binary64 b) (2 ^ low binary64)
      → (2 * n - min (b / 2 ^ 63) n ≡ coded (to_signed 63 (half_away binary64 y))) × (n < 2 ^ 63)
  small n few whole = by_pattern binary64 63 (omega arith) y b n is below few whole

pub returns-then-is_nan : goal.returns-then-is_nan
returns-then-is_nan c = nan-cell c.args.inv c.args.x (sym c.is_nan.ensures.value ∙ c.if-is_nan.true)

pub coded_size-requires : goal.coded_size-requires
coded_size-requires c = (small c.args.x c.args.inv _ c.bits-b.ensures _ c.if-e-lt1075.true c.half_size.ensures).1

pub returns-then-e-lt1075 : goal.returns-then-e-lt1075
unfolding cell_of
returns-then-e-lt1075 c =
    c.coded_size.ensures ∙ (small c.args.x c.args.inv _ c.bits-b.ensures _ c.if-e-lt1075.true c.half_size.ensures).0

pub returns-else-e-lt1075 : goal.returns-else-e-lt1075
unfolding cell_of
returns-else-e-lt1075 c =
    let a = c.args in
    rw (c.coded.ensures, c.to_integer.ensures) (ap coded (signed_kept w64 _
    ∙ already (mul binary64 a.x a.inv) c.bits-b.result (is a.x a.inv _ c.bits-b.ensures) (mul-fits binary64 a.x a.inv) c.if-e-lt1075.false))
