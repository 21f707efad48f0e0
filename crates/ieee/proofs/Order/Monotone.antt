-- Rounding to a format or to a whole number keeps the order, whatever the signs. Assumes nothing.
use mathlib.Core.Path.{◌≡◌, refl, sym, ◌∙◌}
use mathlib.Core.Bool.{Bool, true, false, not, cond}
use Prim.Native.Nat.{ℕ, zero, suc, ◌+◌, ◌-◌, ◌*◌, ◌≤◌, ◌<◌, zero-le}
use native.Mathlib.Nat.{mul_comm, mul-le-mul_right, mul-pos, zero-lt-suc, zero-mul}
use native.Mathlib.Omega.{arith}
use lib.Dec.{T, lit<}
use lib.IntN.{ℤ, pos}
use lib.Ieee.{Float, nan, inf, fin, Format, up, down, round, neg, le, is_nan}
use lib.Ieee.Fits.{down_pos}
use lib.Ieee.Nearest.{div_mono}
use lib.Ieee.Order.{round_mono}
use Rattle.ieee.specs.Integral.{Way, cut, away, half, to_whole, integral}
use Rattle.ieee.proofs.Order.Comparison.{le_left, le_right, le_trans}
use Rattle.ieee.proofs.Values.Negation.{le_neg}
use Rattle.ieee.proofs.Order.Signed.{AtMost, at_most}
use Rattle.ieee.proofs.Patterns.Signs.{round_neg}
use Rattle.ieee.proofs.Values.OneFloat.{round_zero}
use Rattle.ieee.proofs.Numbers.Wholes.{scaled, whole_one, whole_same}

-- ---- the sign of what is rounded
pub plus : (f : Format) (a c : ℕ) → 0 < c → T (le (fin false 0 (pos 0)) (round f false a c))
plus f a c C = rw (← round_zero f false 1 (lit< tt)) (round_mono f 0 1 a c (lit< tt) C (omega arith))

pub minus : (f : Format) (a c : ℕ) → 0 < c → T (le (round f true a c) (fin true 0 (pos 0)))
unfolding neg
minus f a c C = rw (← round_neg f false a c) (rw (le_neg (round f false a c) (fin false 0 (pos 0))) (plus f a c C))

across : (f : Format) (a c b d : ℕ) → 0 < c → 0 < d → T (le (round f true a c) (round f false b d))
unfolding le
across f a c b d C D =
    let m : Float = fin true 0 (pos 0) in
    let p : Float = fin false 0 (pos 0) in
    le_trans (round f true a c) m (round f false b d) (minus f a c C) (le_trans m p (round f false b d) tt (plus f b d D))

pub round_number : (f : Format) (s : Bool) (a c : ℕ) → 0 < c → T (not (is_nan (round f s a c)))
round_number f false a c C = le_right (fin false 0 (pos 0)) (round f false a c) (plus f a c C)
round_number f true a c C = le_left (round f true a c) (fin true 0 (pos 0)) (minus f a c C)

-- ---- ±a / c and ±b / d
pub no_factor : (a d : ℕ) → 0 < d → a * d ≡ 0 → a ≡ 0
no_factor zero d D h = refl
no_factor (suc a) d D h = absurd (omega (arith, mul-pos (zero-lt-suc a) D))

pub rises : (f : Format) (s : Bool) (a c : ℕ) (t : Bool) (b d : ℕ) → 0 < c → 0 < d → AtMost s (a * d) t (b * c)
    → T (le (round f s a c) (round f t b d))
unfolding AtMost
rises f false a c false b d C D h = round_mono f a c b d C D h
rises f false a c true b d C D h =
    rw (no_factor a d D h.0, no_factor b c C h.1, round_zero f false c C, round_zero f true d D) (unfold le in tt)
rises f true a c false b d C D h = across f a c b d C D
rises f true a c true b d C D h =
    rw (← round_neg f false a c, ← round_neg f false b d, le_neg (round f false a c) (round f false b d)) (round_mono f b d a c D C h)

-- ---- what rounds each finite float, and leaves an infinity, which lies past all
past : (z : Float) → T (not (is_nan z)) → T (le (inf true) z) × T (le z (inf false))
unfolding le is_nan
past nan p = absurd p
past (inf true) p = (tt, tt)
past (inf false) p = (tt, tt)
past (fin s m e) p = (tt, tt)

module _ (g : Float → Float) (fixed : (s : Bool) → g (inf s) ≡ inf s)
    (number : (s : Bool) (m : ℕ) (e : ℤ) → T (not (is_nan (g (fin s m e)))))
    (grows : (s : Bool) (m : ℕ) (e : ℤ) (t : Bool) (n : ℕ) (d : ℤ) → T (le (fin s m e) (fin t n d))
    → T (le (g (fin s m e)) (g (fin t n d)))) where
  pub mono_finite : (x y : Float) → T (le x y) → T (le (g x) (g y))
  unfolding le
  mono_finite nan y l = absurd l
  mono_finite (inf s) nan l = absurd l
  mono_finite (inf s) (inf t) l = rw (fixed s, fixed t) l
  mono_finite (inf true) (fin t n d) l = rw (fixed true) (past (g (fin t n d)) (number t n d)).0
  mono_finite (inf false) (fin t n d) l = absurd l
  mono_finite (fin s m e) nan l = absurd l
  mono_finite (fin s m e) (inf true) l = absurd l
  mono_finite (fin s m e) (inf false) l = rw (fixed false) (past (g (fin s m e)) (number s m e)).1
  mono_finite (fin s m e) (fin t n d) l = grows s m e t n d l

-- ±a / c becomes ±h a c / k c, which keeps the order
module _ (f : Format) (g : Float → Float) (h : Bool → ℕ → ℕ → ℕ) (k : ℕ → ℕ) (K : (c : ℕ) → 0 < c → 0 < k c)
    (fixed : (s : Bool) → g (inf s) ≡ inf s)
    (is : (s : Bool) (m : ℕ) (e : ℤ) → g (fin s m e) ≡ round f s (h s (m * up e) (down e)) (k (down e)))
    (kept : (s t : Bool) (a c b d : ℕ) → 0 < c → 0 < d → AtMost s (a * d) t (b * c) → AtMost s (h s a c * k d) t (h t b d * k c)) where
  number : (s : Bool) (m : ℕ) (e : ℤ) → T (not (is_nan (g (fin s m e))))
  number s m e = rw (is s m e) (round_number f s (h s (m * up e) (down e)) (k (down e)) (K (down e) (down_pos e)))

  grows : (s : Bool) (m : ℕ) (e : ℤ) (t : Bool) (n : ℕ) (d : ℤ) → T (le (fin s m e) (fin t n d)) → T (le (g (fin s m e)) (g (fin t n d)))
  unfolding le
  grows s m e t n d l =
      rw (is s m e, is t n d)
      (rises f s (h s (m * up e) (down e)) (k (down e)) t (h t (n * up d) (down d)) (k (down d)) (K (down e) (down_pos e))
      (K (down d) (down_pos d))
      (kept s t (m * up e) (down e) (n * up d) (down d) (down_pos e) (down_pos d) (at_most s (m * up e * down d) t (n * up d * down e) l)))

  pub mono_round : (x y : Float) → T (le x y) → T (le (g x) (g y))
  mono_round = mono_finite g fixed number grows

-- ---- to a whole number
-- over one denominator
whole_rises : (w : Way) (a c k : ℕ) → 0 < k → a ≤ c → to_whole w a k ≤ to_whole w c k
whole_rises cut a c k K h = div_mono a k c k K K (mul-le-mul_right k h)
whole_rises away a c k K h = div_mono (a + (k - 1)) k (c + (k - 1)) k K K (mul-le-mul_right k (omega arith))
whole_rises half a c k K h =
    div_mono (2 * a + k) (2 * k) (2 * c + k) (2 * k) (omega arith) (omega arith) (mul-le-mul_right (2 * k) (omega arith))

pub to_whole_mono : (w : Way) (a c b d : ℕ) → 0 < c → 0 < d → a * d ≤ b * c → to_whole w a c ≤ to_whole w b d
to_whole_mono w a c b d C D h =
    rw (← scaled w a c d C D, ← scaled w b d c D C, mul_comm d c) (whole_rises w (a * d) (b * c) (c * d) (mul-pos C D) h)

whole_zero : (w : Way) (a c d : ℕ) → 0 < c → 0 < d → a * d ≡ 0 → to_whole w a c ≡ 0
whole_zero w a c d C D h = rw (no_factor a d D h) (whole_same w 0 c 0 1 C (lit< tt) (zero-mul 1 ∙ sym (zero-mul c)) ∙ whole_one w 0)

pub integral_mono : (f : Format) (v w : Way) (x y : Float) → T (le x y) → T (le (integral f v w x) (integral f v w y))
unfolding integral AtMost
integral_mono f v w =
    mono_round f (integral f v w) (λ s a c. to_whole (cond s w v) a c) (λ c. 1) (λ c C. lit< tt) (λ s. refl) (λ s m e. refl) kept
  where
    kept : (s t : Bool) (a c b d : ℕ) → 0 < c → 0 < d → AtMost s (a * d) t (b * c)
        → AtMost s (to_whole (cond s w v) a c * 1) t (to_whole (cond t w v) b d * 1)
    kept false false a c b d C D l = mul-le-mul_right 1 (to_whole_mono v a c b d C D l)
    kept false true a c b d C D l = (rw (whole_zero v a c d C D l.0), rw (whole_zero w b d c D C l.1))
    kept true false a c b d C D l = zero-le
    kept true true a c b d C D l = mul-le-mul_right 1 (to_whole_mono w b d a c D C l)
