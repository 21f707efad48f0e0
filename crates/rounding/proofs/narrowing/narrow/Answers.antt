-- `rounding::narrowing::narrow` meets its contract: the short ways by what they make of the pattern, the other by the pattern form.
-- Assumes nothing.
use Rattle.std.proofs.Common.{◌≡◌, ℕ, ◌+◌, ◌*◌, ◌/◌, ◌%◌, ◌^◌, ◌<◌, ◌≤◌, true, ◌&&◌, T, ltb, leb, sym, ap, ◌∙◌, subst, add-zero, arith, ltb→lt, leb→le}
use lib.Ieee.{Float, nan, binary32, binary64, ne, of_bits, to_bits}
use lib.Ieee.Bits.{of_bits-to_bits, to_bits-lt}
use lib.Ieee.Fits.{and_l, and_r}
use denote.Floats.{passes}
use Rattle.ieee.specs.Rounded.{rounded}
use Rattle.ieee.proofs.Patterns.Back.{read_back}
use Rattle.ieee.proofs.Patterns.Nan.{is_nan_lem, ne_self, same_no_nan, up_to_inf}
use Rattle.ieee.proofs.Patterns.Narrowed.{narrow_finite, narrow_tiny, rounded_fits}
use Rattle.rounding.specs.inner.Sizes.{narrow_size}
use Rattle.rounding.proofs.narrowing.narrow.Goals as goal
use Rattle.rounding.proofs.narrowing.narrow.Goals.{Start}

nan-stays : (x : Float) → ne x x ≡ true → nan ≡ rounded binary32 x
unfolding rounded
nan-stays x h = rw (is_nan_lem x (sym (ne_self x) ∙ h))

-- the one test for a normal answer
inside : (m : ℕ) → (leb (897 * 2 ^ 52) m && ltb m (1151 * 2 ^ 52)) ≡ true → (897 * 2 ^ 52 ≤ m) × (m < 1151 * 2 ^ 52)
inside m h =
    let from = leb (897 * 2 ^ 52) m in
    let below = ltb m (1151 * 2 ^ 52) in
    let both = subst T (sym h) tt in
    (leb→le (897 * 2 ^ 52) m (and_l from below both), ltb→lt m (1151 * 2 ^ 52) (and_r from below both))

-- the pattern of what is narrowed
module _ (start : Start) where
  abbrev x : Float
  x = start.args.x

  abbrev b : ℕ
  b = to_bits binary64 x

  fits : b < 2 ^ 64
  fits = to_bits-lt binary64 x (passes _ start.well_formed.0.1)

  -- from the pattern of the answer to the answer
  answer : (r : ℕ) → r ≡ to_bits binary32 (rounded binary32 (of_bits binary64 b)) → of_bits binary32 r ≡ rounded binary32 x
  answer r h = rw (h, read_back binary64 x start.well_formed.0.1) (of_bits-to_bits binary32 (rounded binary32 x) (rounded_fits binary32 x))

  -- the same from the size of the answer
  by_size : (r : ℕ) → b % 2 ^ 63 < 1151 * 2 ^ 52 → r ≡ narrow_size (b % 2 ^ 63)
      → of_bits binary32 (b / 2 ^ 63 * 2 ^ 31 + r) ≡ rounded binary32 x
  by_size r l h = answer (b / 2 ^ 63 * 2 ^ 31 + r) (narrow_finite b r fits (omega arith) h)

pub returns-then-x : goal.returns-then-x
returns-then-x c = c.nan.ensures ∙ nan-stays c.args.x c.if-x.true

pub float_to_bits-b : goal.float_to_bits-b
float_to_bits-b c = same_no_nan c.args.x c.if-x.false

pub overflow_mul-s : goal.overflow_mul-s
overflow_mul-s c = omega (arith, fits c.before)

pub narrow_normal-requires : goal.narrow_normal-requires
narrow_normal-requires c = inside (b c.before.before % 2 ^ 63) c.if-m.true

pub overflow_add-result : goal.overflow_add-result
overflow_add-result c = omega (arith, fits c.before.before.before, c.narrow_normal.ensures.1)

pub overflow_cast-result : goal.overflow_cast-result
overflow_cast-result c = omega (arith, fits c.before.before.before, c.narrow_normal.ensures.1)

pub float_from_bits-result : goal.float_from_bits-result
float_from_bits-result c =
    up_to_inf binary32 (b c.before.before.before / 2 ^ 63 * 2 ^ 31 + c.narrow_normal.result)
    (omega (arith, c.narrow_normal.ensures.1))

pub overflow_cast-result-then-m-eq0 : goal.overflow_cast-result-then-m-eq0
overflow_cast-result-then-m-eq0 c = omega (arith, fits c.before.before.before)

pub float_from_bits-result-then-m-eq0 : goal.float_from_bits-result-then-m-eq0
float_from_bits-result-then-m-eq0 c = up_to_inf binary32 (b c.before.before.before / 2 ^ 63 * 2 ^ 31) (omega arith)

pub returns-then-m : goal.returns-then-m
returns-then-m c =
    by_size c.before.before.before _ (inside (b c.before.before.before % 2 ^ 63) c.if-m.true).1 c.narrow_normal.ensures.0

pub returns-then-m-eq0 : goal.returns-then-m-eq0
returns-then-m-eq0 c =
    let m = b c.before.before.before % 2 ^ 63 in
    ap (of_bits binary32) (sym (add-zero (b c.before.before.before / 2 ^ 63 * 2 ^ 31)))
    ∙ by_size c.before.before.before 0 (omega (arith, c.if-m-eq0.true)) (narrow_tiny (m / 2 ^ 52) (m % 2 ^ 52) (omega (arith, c.if-m-eq0.true)) (omega arith))

pub returns-else-m-eq0 : goal.returns-else-m-eq0
returns-else-m-eq0 c = c.float_of.ensures ∙ answer c.before.before.before.before.before _ c.narrow_bits.ensures
