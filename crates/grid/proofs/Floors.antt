-- The cell along an axis without a floor: brought into 0 .. m, the floor is what is left of a float without its fraction. Assumes nothing.
use mathlib.Core.Path.{◌≡◌, refl, sym, ap, ◌∙◌}
use mathlib.Core.Bool.{true, false, not}
use Prim.Native.Nat.{ℕ, zero, suc, ◌-◌, ◌*◌, ◌/◌, ◌^◌, ◌≤◌, ◌<◌, min}
use native.Mathlib.Omega.{arith}
use borrow.Author.Tests.{lt-ltb}
use denote.Floats.{passes}
use lib.Dec.{T, le→leb, lit<}
use lib.IntN.{pos, neg_ℤ}
use lib.Ieee.{Float, nan, inf, fin, binary32, up, down, fits, in_float, is_nan, le, lt, ne, of_int, to_signed, to_unsigned}
use lib.Ieee.Back.{round_whole, unsigned_back}
use lib.Ieee.Bits.{is_true}
use lib.Ieee.Exact.{HasValue}
use Rattle.ieee.specs.Integral.{floor, integral}
use Rattle.ieee.specs.Single.{number}
use Rattle.ieee.proofs.Integers.Floors.{floor_down, floor_up, unsigned_below_one}
use Rattle.ieee.proofs.Order.Casts.{to_unsigned_mono}
use Rattle.ieee.proofs.Order.Comparison.{le_of_not_lt, lt_le, lt_left, lt_of_not_le, lt_trans}
use Rattle.ieee.proofs.Patterns.Nan.{is_nan_lem, ne_self, same_no_nan}
use Rattle.ieee.proofs.Values.ByValue.{lt_values, value_number}
use Rattle.grid.specs.Grid.{clamped}

-- ---- the ends 2 ^ 63 and 2 ^ 64 do not matter to m below both
module _ (m a h w : ℕ) (H : m < h) (W : m < w) where
  ends : min (h - 1) m ≡ min (w - 1) m
  ends = omega arith

  both_ends : min (min a (h - 1)) m ≡ min (min a (w - 1)) m
  both_ends = omega arith

least_zero : (m : ℕ) → 0 ≡ min 0 m
least_zero m = omega arith

clamped_low : (m k : ℕ) → clamped m (neg_ℤ (pos k)) ≡ min 0 m
unfolding clamped
clamped_low m zero = refl
clamped_low m (suc k) = least_zero m

pub clamped_floor : (m : ℕ) (q : Float) → m < 2 ^ 63 → T (fits binary32 q)
    → clamped m (to_signed 63 (floor binary32 q)) ≡ min (to_unsigned 64 q) m
unfolding integral to_unsigned
clamped_floor m nan l t = unfold clamped to_signed in refl
clamped_floor m (inf true) l t = unfold to_signed in clamped_low m (2 ^ 63)
clamped_floor m (inf false) l t = unfold clamped to_signed in ends m 0 (2 ^ 63) (2 ^ 64) l (omega arith)
clamped_floor m (fin true n e) l t = let k = floor_down binary32 63 n e t in rw k.1 (clamped_low m k.0)
clamped_floor m (fin false n e) l t =
    rw (floor_up binary32 63 n e t) (unfold clamped in both_ends m (n * up e / down e) (2 ^ 63) (2 ^ 64) l (omega arith))

-- ---- by comparing with m, which the format has, and with 1
smaller : (a m : ℕ) → a ≤ m → a ≡ min a m
smaller a m h = omega arith

larger : (a m : ℕ) → m ≤ a → m ≡ min a m
larger a m h = omega arith

abbrev one : Float
one = fin false 1 (pos 0)

module _ (m : ℕ) (q : Float) (l : m ≤ 255) where
  m_is : HasValue (number m) false m 1
  unfolding of_int
  m_is = round_whole binary32 false m (omega arith)

  m_number : T (not (is_nan (number m)))
  m_number = value_number (number m) false m 1 m_is

  exact : to_unsigned 64 (number m) ≡ m
  unfolding in_float
  exact = (unsigned_back binary32 64 m (le→leb m (2 ^ 24) (omega arith)) (omega arith)).1

  -- what the cut asks for
  pub in_range : le one q ≡ true → lt q (number m) ≡ true → T (le one q) × T (lt q (fin false 1 (pos 23)))
  in_range h k =
      let high : Float = fin false 1 (pos 23) in
      let under : T (lt (number m) high) =
      rw (lt_values (number m) high false m false (2 ^ 23) 1 (lit< tt) m_is (refl, refl), lt-ltb m (2 ^ 23) (omega arith)) tt in
      (passes _ h, lt_trans q (number m) high (passes _ k) under)

  module _ (t : T (fits binary32 q)) where
    abbrev is : ℕ
    is = clamped m (to_signed 63 (floor binary32 q))

    as_least : min (to_unsigned 64 q) m ≡ is
    as_least = sym (clamped_floor m q (omega arith) t)

    at_most : lt q (number m) ≡ true → to_unsigned 64 q ≤ m
    at_most h = rw exact at (to_unsigned_mono 64 q (number m) (lt_le q (number m) (passes _ h)))

    pub between : lt q (number m) ≡ true → (to_unsigned 64 q ≡ is) × (to_unsigned 64 q ≤ m)
    between h = (smaller (to_unsigned 64 q) m (at_most h) ∙ as_least, at_most h)

    pub before_second : lt q (number m) ≡ true → le one q ≡ false → 0 ≡ is
    unfolding is_nan
    before_second h k =
        let low = unsigned_below_one 64 q (is_true (lt q one) (lt_of_not_le one q tt (lt_left q (number m) h) k)) in
        least_zero m ∙ rw (← low) as_least

    pub of_nan : ne q q ≡ true → 0 ≡ is
    unfolding to_unsigned
    of_nan h = least_zero m ∙ ap (λ (z : Float). min (to_unsigned 64 z) m) (sym (is_nan_lem q (sym (ne_self q) ∙ h))) ∙ as_least

    pub from_last : lt q (number m) ≡ false → ne q q ≡ false → m ≡ is
    from_last h k =
        let u = rw exact at (to_unsigned_mono 64 (number m) q (le_of_not_lt (number m) q m_number (same_no_nan q k) h)) in
        larger (to_unsigned 64 q) m u ∙ as_least
