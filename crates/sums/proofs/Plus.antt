-- What is not below zero, nor -0, stays so: sums, products by a value above zero, squares, roots and roundings hand no minus on and make no
-- NaN. Assumes nothing.
use Rattle.std.proofs.Common.{ℕ, zero, suc, ◌+◌, ◌*◌, ◌^◌, Bool, true, false, cond, not, T, ltb}
use lib.Dec.{eqb-suc-zero}
use lib.Ieee.{Float, nan, inf, fin, Format, prec, emax, low, up, down, odd, units, round, sum, add, mul, is_nan, of_bits}
use lib.Ieee.Positive.{positive}
use Rattle.ieee.specs.Root.{root, root_round}
use Rattle.ieee.specs.Rounded.{rounded}
use Rattle.ieee.proofs.Order.Differences.{zero_bits}
use Rattle.sums.specs.inner.Plus.{plus}

-- what a sum starts from
pub plus_zero : (f : Format) → T (plus (of_bits f 0))
plus_zero f = rw (zero_bits f) tt

-- ---- roundings of a fraction
plus_odd : (d q k l : ℕ) → T (plus (odd d false q k l))
unfolding odd
plus_odd d zero k l = tt
plus_odd d (suc q) k l = tt

plus_units : (f : Format) (q k : ℕ) → T (plus (units f false q k))
unfolding units
plus_units f q k = go (ltb (q * 2 ^ k) (2 ^ (low f + suc (emax f))))
  where
    go : (b : Bool) → T (plus (cond b (odd (suc (prec f)) false q k (low f)) (inf false)))
    go true = plus_odd (suc (prec f)) q k (low f)
    go false = tt

pub plus_round : (f : Format) (a c : ℕ) → T (plus (round f false a c))
unfolding round
plus_round f a c = plus_units f _ _

-- ---- the operations
pub plus_rounded : (f : Format) (x : Float) → T (plus x) → T (plus (rounded f x))
unfolding rounded
plus_rounded f nan p = p
plus_rounded f (inf s) p = p
plus_rounded f (fin true m e) p = absurd p
plus_rounded f (fin false m e) p = plus_round f (m * up e) (down e)

pub plus_add : (f : Format) (x y : Float) → T (plus x) → T (plus y) → T (plus (add f x y))
unfolding add
plus_add f nan y p q = p
plus_add f (inf true) y p q = absurd p
plus_add f (fin true m e) y p q = absurd p
plus_add f (inf false) nan p q = q
plus_add f (inf false) (inf true) p q = absurd q
plus_add f (inf false) (inf false) p q = tt
plus_add f (inf false) (fin t n d) p q = tt
plus_add f (fin false m e) nan p q = q
plus_add f (fin false m e) (inf t) p q = q
plus_add f (fin false m e) (fin true n d) p q = absurd q
plus_add f (fin false m e) (fin false n d) p q = unfold sum in plus_round f _ _

-- by a factor above zero, on either side: no 0 · ∞
plus_muls : (f : Format) (x y : Float) → T (plus x) → T (positive y) → T (plus (mul f x y)) × T (plus (mul f y x))
unfolding mul
plus_muls f x nan p q = absurd q
plus_muls f x (inf t) p q = absurd q
plus_muls f x (fin true n d) p q = absurd q
plus_muls f x (fin false zero d) p q = absurd q
plus_muls f nan (fin false (suc n) d) p q = absurd p
plus_muls f (inf true) (fin false (suc n) d) p q = absurd p
plus_muls f (inf false) (fin false (suc n) d) p q = rw (eqb-suc-zero n) (tt, tt)
plus_muls f (fin true m e) (fin false (suc n) d) p q = absurd p
plus_muls f (fin false m e) (fin false (suc n) d) p q = (plus_round f _ _, plus_round f _ _)

pub plus_mul : (f : Format) (x y : Float) → T (plus x) → T (positive y) → T (plus (mul f x y))
plus_mul f x y p q = (plus_muls f x y p q).0

pub plus_mul_left : (f : Format) (y x : Float) → T (positive y) → T (plus x) → T (plus (mul f y x))
plus_mul_left f y x q p = (plus_muls f x y p q).1

-- a square is not below zero
pub plus_square : (f : Format) (x : Float) → T (not (is_nan x)) → T (plus (mul f x x))
unfolding mul is_nan
plus_square f nan p = p
plus_square f (inf true) p = tt
plus_square f (inf false) p = tt
plus_square f (fin true m e) p = plus_round f _ _
plus_square f (fin false m e) p = plus_round f _ _

pub plus_root : (f : Format) (x : Float) → T (plus x) → T (plus (root f x))
unfolding root root_round
plus_root f nan p = p
plus_root f (inf true) p = absurd p
plus_root f (inf false) p = tt
plus_root f (fin true m e) p = absurd p
plus_root f (fin false zero e) p = tt
plus_root f (fin false (suc m) e) p = plus_units f _ _
