-- A number of tenths as a float can be put in order: it is no NaN and no -0. For 0 over 10 is +0, and another whole number over 10 is
-- 1/10 at least in size, which no rounding takes below 1/16. Assumes nothing.
use Rattle.std.proofs.Common.{ℕ, zero, suc, ◌*◌, ◌<◌, ◌≤◌, true, false, T, ℤ, pos, negsuc, arith}
use lib.Ieee.{Float, nan, inf, fin, binary32, up, down, neg, div, round, le, of_int, of_bits}
use lib.Ieee.Fits.{down_pos}
use lib.Ieee.Order.{round_mono}
use lib.Ieee.Positive.{positive, above, above_of_le, le→cross}
use Rattle.ieee.proofs.Values.Negation.{div_neg_left, of_int_neg}
use Rattle.rows.specs.Plain.{plain_float}
use Rattle.surfaces.specs.Surfaces.{ten, tenth}

-- ---- what is above 0 is plain, and so is its negative

plain_above : (x : Float) → T (above x) → T (plain_float x) × T (plain_float (neg x))
unfolding plain_float neg
plain_above nan a = absurd a
plain_above (inf s) a = (tt, tt)
plain_above (fin true m e) a = absurd a
plain_above (fin false zero e) a = absurd a
plain_above (fin false (suc m) e) a = (tt, tt)

-- ---- a fraction of 1/16 at least

sixteenth : T (positive (round binary32 false 1 16))
unfolding round
sixteenth = tt

round_above : (a c : ℕ) → 0 < c → c ≤ 16 * a → T (above (round binary32 false a c))
round_above a c some l =
    above_of_le (round binary32 false 1 16) (round binary32 false a c) sixteenth
    (round_mono binary32 1 16 a c (omega arith) some (omega arith))

-- ---- a float of 1 at least, over 10

abbrev one : Float
one = fin false 1 (pos 0)

over_ten : (x : Float) → T (le one x) → T (above x) → T (above (div binary32 x ten))
unfolding div of_bits
over_ten nan l a = absurd a
over_ten (inf true) l a = absurd a
over_ten (inf false) l a = tt
over_ten (fin true m e) l a = absurd a
over_ten (fin false m e) l a =
    round_above (m * up e * 1) (5 * 2 * down e) (omega (arith, down_pos e)) (omega (arith, le→cross one (fin false m e) tt a l))

-- a whole number that is not 0
tenth_above : (n : ℕ) → T (above (tenth (pos (suc n))))
unfolding of_int round
tenth_above n =
    let l : T (le one (round binary32 false (suc n) 1)) = round_mono binary32 1 1 (suc n) 1 (omega arith) (omega arith) (omega arith) in
    over_ten (round binary32 false (suc n) 1) l (above_of_le one (round binary32 false (suc n) 1) tt l)

pub tenth_plain : (z : ℤ) → T (plain_float (tenth z))
unfolding plain_float of_int round div of_bits
tenth_plain (pos zero) = tt
tenth_plain (pos (suc n)) = (plain_above (tenth (pos (suc n))) (tenth_above n)).0
tenth_plain (negsuc n) =
    rw (of_int_neg binary32 (pos (suc n)) (omega arith), div_neg_left binary32 (of_int binary32 (pos (suc n))) ten)
    (plain_above (tenth (pos (suc n))) (tenth_above n)).1
