-- `integral` of a float by its pattern: below hid f its size becomes a whole number, and from there on it is whole already.
-- Assumes nothing.
use mathlib.Core.Path.{◌≡◌, refl, sym, ◌∙◌, subst}
use mathlib.Core.Logic.{inl, inr}
use mathlib.Core.Bool.{Bool, true, false, cond}
use Prim.Native.Nat.{ℕ, zero, suc, ◌+◌, ◌-◌, ◌*◌, ◌/◌, ◌%◌, ◌^◌, ◌≤◌, ◌<◌}
use native.Mathlib.Nat.{div-lt_iff_lt-mul, eq-zero-or-pos, le-add_right, le_of_eq, le_trans, lt_of_lt_of_le, mod-lt, mul-le-mul_left, mul-pos, mul_comm, zero-lt-suc}
use native.Mathlib.Nat.{mul-le-mul_right, mul-lt-mul_of_pos_right}
use native.Mathlib.Decide.{dec_lt}
use native.Mathlib.Omega.{arith}
use borrow.Author.Tests.{le-leb, lt-leb}
use lib.IntN.{pos, negsuc}
use lib.Dec.{T, leb, le→leb, lit≤}
use lib.Pow.{pow-add, pow_mono, pow_pos, shl_lt}
use lib.Ieee.{Float, nan, inf, fin, Format, binary32, binary64, prec, emax, low, up, down, hid, ones, top, round, neg, of_int, in_float, fits}
use lib.Ieee.{of_bits}
use lib.Ieee.Exact.{HasValue}
use lib.Ieee.Fits.{down_pos, reach, two}
use Rattle.ieee.specs.inner.Fields.{exp, sized}
use Rattle.ieee.specs.Integral.{Way, to_whole, integral}
use Rattle.ieee.proofs.Patterns.Fields.{sig_lt, twice_hid, read_inf, read_nan, read_value}
use Rattle.ieee.proofs.Patterns.Signs.{round_neg}
use Rattle.ieee.proofs.Values.OneFloat.{round_own, short}
use Rattle.ieee.proofs.Numbers.Wholes.{whole_le, whole_one, whole_same}

-- m / n for m below 2 * h and n from 2 on is below h
no_fraction : (m a c h n : ℕ) → 0 < c → m * 1 * c ≡ a * n → h * c ≤ a → 2 ≤ n → m < 2 * h → ⊥
no_fraction m a c h n C e l p q = omega (arith, mul-le-mul_right n l, mul-le-mul_left (h * c) p, mul-lt-mul_of_pos_right q C)

module _ (f : Format) (above below : Way) where
  pub integral_at : (x : Float) (s : Bool) (a c : ℕ) → 0 < c → HasValue x s a c
      → integral f above below x ≡ round f s (to_whole (cond s below above) a c) 1
  unfolding integral
  integral_at nan s a c C h = absurd h
  integral_at (inf t) s a c C h = absurd h
  integral_at (fin t m e) s a c C h = rw (h.0, whole_same (cond s below above) (m * up e) (down e) a c (down_pos e) C h.1) refl

  integral_inf : (s : Bool) → inf s ≡ integral f above below (inf s)
  unfolding integral
  integral_inf s = refl

  integral_nan : nan ≡ integral f above below nan
  unfolding integral
  integral_nan = refl

  integral_large : (x : Float) (s : Bool) (a c : ℕ) → T (fits f x) → 0 < c → HasValue x s a c → hid f * c ≤ a → integral f above below x ≡ x
  unfolding integral
  integral_large nan s a c t C h l = absurd h
  integral_large (inf u) s a c t C h l = absurd h
  integral_large (fin u m (pos k)) s a c t C h l = rw (whole_one (cond u below above) (m * 2 ^ k)) (round_own f u m (pos k) t)
  integral_large (fin u m (negsuc k)) s a c t C h l =
      absurd (no_fraction m a c (hid f) (2 ^ suc k) C h.1 l (pow_mono {i =
      1} (omega arith)) (subst (λ (z : ℕ). m < z) (twice_hid f) (short f u m (negsuc k) t)))

-- ---- the size by the fields e and t: the field emax f stands for 1
some_field : (f : Format) → 2 ≤ emax f
some_field binary32 = lit≤ tt
some_field binary64 = lit≤ tt

module _ (f : Format) (k : ℕ) where
  pub at_most : (e t : ℕ) → t < hid f → e < emax f + k → sized f e t < 2 ^ k * 2 ^ low f
  at_most e t h l =
      lt_of_lt_of_le (shl_lt (prec f) (exp e) (sig_lt f e t h)) (le_trans (pow_mono (places e l)) (le_of_eq (pow-add 2 k (low f))))
    where
      places : (e : ℕ) → e < emax f + k → prec f + exp e ≤ k + low f
      places zero l = omega (arith, some_field f)
      places (suc y) l = omega arith

  pub at_least : (e t : ℕ) → emax f + k ≤ e → 2 ^ k * 2 ^ low f ≤ sized f e t
  at_least zero t h = absurd (omega (arith, some_field f))
  at_least (suc y) t h =
      let places : k + low f ≤ prec f - 1 + y = omega (arith, two f) in
      le_trans (le_of_eq (sym (pow-add 2 k (low f))))
      (le_trans (pow_mono places) (le_trans (le_of_eq (pow-add 2 (prec f - 1) y)) (mul-le-mul_right (2 ^ y) (le-add_right (hid f) t))))

-- ---- by the pattern b that x has in the format g
abbrev pub field : Format → ℕ → ℕ
field g b = b % top g / hid g

abbrev pub size_of : Format → ℕ → ℕ
size_of g b = sized g (field g b) (b % hid g)

pub value : (g : Format) (x : Float) (b : ℕ) → of_bits g b ≡ x → (s : Bool) → leb (top g) b ≡ s → field g b < ones g
    → HasValue x s (size_of g b) (2 ^ low g)
value g x b is s h l = rw (← is, ← h) (read_value g b l)

pub small : (g f : Format) (above below : Way) (x : Float) (b : ℕ) → of_bits g b ≡ x → (s : Bool) (n : ℕ) → leb (top g) b ≡ s
    → field g b < ones g
    → n ≡ to_whole (cond s below above) (size_of g b) (2 ^ low g) → round f s n 1 ≡ integral f above below x
small g f above below x b is s n h l r =
    rw r (sym (integral_at f above below x s (size_of g b) (2 ^ low g) (pow_pos (low g)) (value g x b is s h l)))

pub in_format : (g f : Format) (w : Way) (b n : ℕ) → field g b < emax g + (prec f - 1) → n ≡ to_whole w (size_of g b) (2 ^ low g)
    → T (in_float f (pos n))
unfolding in_float
in_format g f w b n h r =
    let l : size_of g b / 2 ^ low g < hid f =
    (div-lt_iff_lt-mul (pow_pos (low g))).1 (at_most g (prec f - 1) (field g b) (b % hid g) (mod-lt b (pow_pos (prec g - 1))) h) in
    let m : n ≤ size_of g b / 2 ^ low g + 1 = rw r (whole_le w (size_of g b) (2 ^ low g) (pow_pos (low g))) in
    le→leb n (2 ^ prec f) (omega (arith, twice_hid f))

-- ---- by the pattern in the format itself
module _ (f : Format) (above below : Way) (x : Float) (b : ℕ) (is : of_bits f b ≡ x) where
  -- the way is the sign's
  abbrev way : Way
  way = cond (leb (top f) b) below above

  pub holds : (n : ℕ) → field f b < low f + 1 → n ≡ to_whole way (size_of f b) (2 ^ low f) → T (in_float f (pos n))
  holds n h r = in_format f f way b n (omega (arith, two f)) r

  finite : field f b < low f + 1 → field f b < ones f
  finite h = omega (arith, two f, reach f)

  pub from_zero_up : {n : ℕ} → b < top f → field f b < low f + 1 → n ≡ to_whole way (size_of f b) (2 ^ low f)
      → of_int f (pos n) ≡ integral f above below x
  unfolding of_int
  from_zero_up {n} g h r = let e = lt-leb (top f) b g in small f f above below x b is false n e (finite h) (rw e at r)

  pub below_zero : {n : ℕ} → top f ≤ b → field f b < low f + 1 → n ≡ to_whole way (size_of f b) (2 ^ low f)
      → neg (of_int f (pos n)) ≡ integral f above below x
  unfolding of_int
  below_zero {n} g h r =
      let e = le-leb (top f) b g in round_neg f false n 1 ∙ small f f above below x b is true n e (finite h) (rw e at r)

  pub whole_already : T (fits f x) → low f + 1 ≤ field f b → x ≡ integral f above below x
  whole_already t h =
      elim (dec_lt (field f b) (ones f)) [
        | yes l ↦
            sym (integral_large f above below x (leb (top f) b) (size_of f b) (2 ^ low f) t (pow_pos (low f))
            (value f x b is (leb (top f) b) refl l)
            (at_least f (prec f - 1) (field f b) (b % hid f) (omega (arith, two f))))
        | no l ↦ subst (λ (v : Float). v ≡ integral f above below v) is (no_number (let most = field_le in omega arith))
      ]
    where
      field_le : field f b ≤ ones f
      field_le =
          let h = pow_pos (prec f - 1) in
          let l : field f b < suc (ones f) =
          (div-lt_iff_lt-mul h).1 (subst (λ (z : ℕ). b % top f < z) (mul_comm (hid f) (suc (ones f))) (mod-lt b (mul-pos h (zero-lt-suc (ones f))))) in
          omega arith

      no_number : field f b ≡ ones f → of_bits f b ≡ integral f above below (of_bits f b)
      no_number k =
          elim (eq-zero-or-pos (b % hid f)) [
            | inl z ↦ rw (read_inf f b k z) (integral_inf f above below (leb (top f) b))
            | inr p ↦ rw (read_nan f b k p) (integral_nan f above below)
          ]
