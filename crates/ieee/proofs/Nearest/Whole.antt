-- `integral` is exact: so floor, ceiling and half-away rounding are the whole numbers that they are meant to be. Assumes nothing.
-- The whole number next to a value of a format is a value of the format too.
use mathlib.Core.Path.{◌≡◌, refl, sym, ap, ◌∙◌, subst}
use mathlib.Core.Bool.{Bool, true, false, not, cond}
use Prim.Native.Nat.{ℕ, suc, ◌-◌, ◌*◌, ◌/◌, ◌%◌, ◌^◌, ◌≤◌, ◌<◌, zero-le}
use native.Mathlib.Nat.{div-lt_iff_lt-mul, mul-le-mul_left, mul-mod_left, mul-one}
use native.Mathlib.Omega.{arith}
use lib.IntN.{ℤ, pos, negsuc}
use lib.Dec.{T}
use lib.Pow.{pow_mono, pow_pos}
use lib.Ieee.{Float, nan, inf, fin, Format, prec, up, down, hid, neg, fits}
use lib.Ieee.Back.{round_whole}
use lib.Ieee.Exact.{HasValue, round_exact}
use lib.Ieee.Fits.{down_pos, neg-fits, two}
use lib.Ieee.Scale.{finite}
use Rattle.ieee.specs.Integral.{Way, cut, away, half, to_whole, integral, floor}
use Rattle.ieee.specs.Whole.{GreatestBelow, HalfAway, NoFraction, LeastAbove}
use Rattle.ieee.specs.Integral.{ceiling, half_away}
use Rattle.ieee.proofs.Numbers.Basic.{pow_half}
use Rattle.ieee.proofs.Order.Signed.{AtMost, at_most_of_le, at_most_self, le_of_at_most}
use Rattle.ieee.proofs.Patterns.Signs.{round_neg}
use Rattle.ieee.proofs.Values.Negation.{le_neg, neg_neg}
use Rattle.ieee.proofs.Values.OneFloat.{in_units, short}
use Rattle.ieee.proofs.Integers.Floats.{no_rest}
use Rattle.ieee.proofs.Numbers.Wholes.{away_iff, cut_iff, half_away_lem, none_iff, whole_le, whole_one}

-- ---- nothing is rounded
-- m / n for m of p digits and n from 2 on is less than half of 2 ^ p
half_less : (m h n : ℕ) → m < 2 * h → 2 ≤ n → m < h * n
half_less m h n l g = omega (arith, mul-le-mul_left h g)

pub integral_exact : (f : Format) (above below : Way) (s : Bool) (m : ℕ) (e : ℤ) → T (fits f (fin s m e))
    → HasValue (integral f above below (fin s m e)) s (to_whole (cond s below above) (m * up e) (down e)) 1
unfolding integral
integral_exact f above below s m (pos k) t =
    let u = in_units f (fin s m (pos k)) t tt in
    rw (whole_one (cond s below above) (m * 2 ^ k)) (round_exact f s (m * 2 ^ k) 1 u.m u.j (pow_pos 0) u.few u.room u.is)
integral_exact f above below s m (negsuc k) t =
    let c = 2 ^ suc k in
    let twice : 2 ^ prec f ≡ 2 * hid f = pow_half (prec f) (omega (arith, two f)) in
    let l : m * 1 / c < hid f =
    (div-lt_iff_lt-mul (pow_pos (suc k))).1 (half_less (m * 1) (hid f) c (omega (arith, short f s m (negsuc k) t)) (pow_mono {i =
    1} (omega arith))) in
    round_whole f s (to_whole (cond s below above) (m * 1) c)
    (omega (arith, whole_le (cond s below above) (m * 1) c (pow_pos (suc k)), pow_pos (prec f - 1)))

-- ---- whole numbers
whole_value : (z : Float) → NoFraction z → (t : Bool) × (p : ℕ) × HasValue z t p 1
whole_value nan w = absurd w.0
whole_value (inf s) w = absurd w.0
whole_value (fin s m e) w = (s, m * up e / down e, no_rest s m e w.1)

no_fraction : (r : Float) (s : Bool) (w : ℕ) → HasValue r s w 1 → NoFraction r
no_fraction nan s w h = absurd h
no_fraction (inf t) s w h = absurd h
no_fraction (fin t m e) s w h = (tt, ap (λ (z : ℕ). z % down e) (sym (mul-one (m * up e)) ∙ h.1) ∙ mul-mod_left w (down e))

-- ---- ±p against ±a / b is ±p against the whole number that a / b becomes
floor_iff : (t s : Bool) (p a b : ℕ) → 0 < b
    → (AtMost t (p * b) s a → AtMost t p s (to_whole (cond s away cut) a b))
    × (AtMost t p s (to_whole (cond s away cut) a b) → AtMost t (p * b) s a)
unfolding AtMost
floor_iff false false p a b B = cut_iff a b p B
floor_iff false true p a b B = none_iff a b p B
floor_iff true false p a b B = (λ h. zero-le, λ h. zero-le)
floor_iff true true p a b B = away_iff a b p B

-- ---- floor
pub floor_is : (f : Format) (x : Float) → T (fits f x) → T (finite x) → GreatestBelow x (floor f x)
floor_is f nan t g = absurd g
floor_is f (inf s) t g = absurd g
floor_is f (fin s m e) t g =
    let x = fin s m e in
    let a = m * up e in
    let b = down e in
    let w = to_whole (cond s away cut) a b in
    let is = integral_exact f cut away s m e t in
    let B = down_pos e in
    record {
      whole = no_fraction (floor f x) s w is;
      at_most =
          le_of_at_most s s w 1 a b (pow_pos 0) B (floor f x) x is (refl, refl)
          (rw (mul-one a) ((floor_iff s s w a b B).1 (at_most_self s w)));
      greatest = λ z i h.
          let v = whole_value z i in
          let o = at_most_of_le v.0 s v.1 1 a b (pow_pos 0) B z x v.2 (refl, refl) h in
          le_of_at_most v.0 s v.1 1 w 1 (pow_pos 0) (pow_pos 0) z (floor f x) v.2 is
          (rw (mul-one v.1, mul-one w) ((floor_iff v.0 s v.1 a b B).0 (rw (mul-one a) at o)));
    }

-- ---- ceiling, by the other sign's floor
neg_whole : (z : Float) → NoFraction z → NoFraction (neg z)
unfolding neg
neg_whole nan w = w
neg_whole (inf s) w = w
neg_whole (fin s m e) w = w

turned : (x r : Float) → GreatestBelow (neg x) r → LeastAbove x (neg r)
turned x r g =
    record {
      whole = neg_whole r g.whole;
      at_least = rw (← le_neg (neg r) x, neg_neg r) g.at_most;
      least = λ z i h. rw (← le_neg z (neg r), neg_neg r) (g.greatest (neg z) (neg_whole z i) (rw (le_neg z x) h));
    }

turns : (f : Format) (s : Bool) (m : ℕ) (e : ℤ) → neg (floor f (fin (not s) m e)) ≡ ceiling f (fin s m e)
unfolding integral
turns f true m e = round_neg f false _ 1
turns f false m e = round_neg f true _ 1

pub ceiling_is : (f : Format) (x : Float) → T (fits f x) → T (finite x) → LeastAbove x (ceiling f x)
unfolding neg
ceiling_is f nan t g = absurd g
ceiling_is f (inf s) t g = absurd g
ceiling_is f (fin s m e) t g =
    let x : Float = fin s m e in
    subst (LeastAbove x) (turns f s m e) (turned x _ (floor_is f (fin (not s) m e) (neg-fits f x t) tt))

-- ---- half away from zero
pub half_away_is : (f : Format) (s : Bool) (m : ℕ) (e : ℤ) → T (fits f (fin s m e))
    → (w : ℕ) × HasValue (half_away f (fin s m e)) s w 1 × HalfAway (m * up e) (down e) w
half_away_is f s m e t = (to_whole (cond s half half) (m * up e) (down e), integral_exact f half half s m e t, either s)
  where
    either : (s : Bool) → HalfAway (m * up e) (down e) (to_whole (cond s half half) (m * up e) (down e))
    either true = half_away_lem (m * up e) (down e) (down_pos e)
    either false = half_away_lem (m * up e) (down e) (down_pos e)
