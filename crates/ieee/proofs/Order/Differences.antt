-- The sign of a difference is the comparison of its two operands: a difference of unequal floats is not rounded to zero. Assumes nothing.
use mathlib.Core.Path.{◌≡◌, refl, sym, ◌∙◌}
use mathlib.Core.Bool.{Bool, true, false, not}
use Prim.Native.Nat.{ℕ, zero, suc, ◌+◌, ◌*◌, ◌^◌, ◌≤◌, ◌<◌}
use native.Mathlib.Omega.{arith}
use borrow.Author.Tests.{le-ltb, lt-ltb}
use lib.Dec.{T}
use lib.IntN.{ℤ, pos}
use lib.Pow.{pow-lt, pow_pos}
use lib.Ieee.{Float, nan, inf, fin, Format, binary32, binary64, low, round, sub, below, lt, le, fits, of_bits, is_nan}
use lib.Ieee.Bits.{is_true}
use lib.Ieee.Exact.{HasValue, round_exact}
use lib.Ieee.Fits.{two}
use Rattle.ieee.proofs.Order.Comparison.{le_lt_trans, lt_le_trans, le_trans, lt_not_le}
use Rattle.ieee.proofs.Order.Monotone.{minus, plus, rises, round_number}
use Rattle.ieee.proofs.Order.Ranks.{below_rank, both_lt, rank}
use Rattle.ieee.proofs.Order.Signed.{AtMost}
use Rattle.ieee.proofs.Values.ByValue.{lt_values, sub_values}
use Rattle.ieee.proofs.Values.OneFloat.{in_units, round_zero}
use Rattle.ieee.proofs.Values.Totals.{Total, total_of}

abbrev pub none : Float
none = fin false 0 (pos 0)

pub zero_bits : (f : Format) → of_bits f 0 ≡ fin false 0 (pos 0)
unfolding of_bits
zero_bits binary32 = refl
zero_bits binary64 = refl

-- ---- a whole number of the format's smallest values, rounded, has the sign that it had
module _ (f : Format) where
  abbrev unit : ℕ
  unit = 2 ^ low f

  abbrev U : 0 < unit
  U = pow_pos (low f)

  -- one of them is a value of the format
  one : (s : Bool) → HasValue (round f s 1 unit) s 1 unit
  one s = round_exact f s 1 unit 1 0 U (pow-lt {i = 0} (omega (arith, two f))) (pow-lt {i = 0} (omega arith)) (omega arith)

  zero_value : HasValue none false 0 unit
  zero_value = (refl, omega arith)

  below_zero : (s : Bool) (n : ℕ) → lt (round f s n unit) none ≡ below s n false 0
  unfolding is_nan
  below_zero false n =
      let r = round f false n unit in
      lt_not_le none r tt (round_number f false n unit U) ∙ rw (is_true (le none r) (plus f n unit U), le-ltb n 0 (omega arith))
  below_zero true zero = rw (round_zero f true unit U) (unfold lt in refl)
  below_zero true (suc n) =
      let r = round f true (suc n) unit in
      let o = round f true 1 unit in
      let l : T (lt o none) = rw (lt_values o none true 1 false 0 unit U (one true) zero_value) tt in
      let m : T (le r o) = rises f true (suc n) unit true 1 unit U U (unfold AtMost in omega arith) in
      is_true (lt r none) (le_lt_trans r o none m l) ∙ sym (lt-ltb 0 (suc n + 0) (omega arith))

  above_zero : (s : Bool) (n : ℕ) → lt none (round f s n unit) ≡ below false 0 s n
  unfolding is_nan
  above_zero true n =
      let r = round f true n unit in
      let m : Float = fin true 0 (pos 0) in
      let l : T (le r none) = le_trans r m none (minus f n unit U) (unfold le in tt) in
      lt_not_le r none (round_number f true n unit U) tt ∙ rw (is_true (le r none) l)
  above_zero false zero = rw (round_zero f false unit U) (unfold lt in refl)
  above_zero false (suc n) =
      let r = round f false (suc n) unit in
      let o = round f false 1 unit in
      let l : T (lt none o) = rw (lt_values none o false 0 false 1 unit U zero_value (one false)) tt in
      let m : T (le o r) = rises f false 1 unit false (suc n) unit U U (unfold AtMost in omega arith) in
      is_true (lt none r) (lt_le_trans none o r l m) ∙ sym (lt-ltb 0 (suc n) (omega arith))

-- ---- the sign of an exact difference, in ranks
turned : (n b : ℕ) (t : Bool) → b ≤ n → rank n (not t) b + rank n t b ≡ n + n
turned n b true h = omega arith
turned n b false h = omega arith

less : (n d a b c : ℕ) → d + n ≡ a + c → c + b ≡ n + n → (d < n + 0 → a < b) × (a < b → d < n + 0)
less n d a b c p q = (λ h. omega arith, λ h. omega arith)

more : (n d a b c : ℕ) → d + n ≡ a + c → c + b ≡ n + n → (n + 0 < d → b < a) × (b < a → n + 0 < d)
more n d a b c p q = (λ h. omega arith, λ h. omega arith)

module _ (f : Format) (s : Bool) (a : ℕ) (t : Bool) (b : ℕ) where
  abbrev most : ℕ
  most = a + b

  abbrev r : Total f s a (not t) b
  r = total_of f s a (not t) b

  difference_below : below r.sign r.size false 0 ≡ below s a t b
  difference_below =
      let p = r.placed most (omega arith) in
      let l = less most _ (rank most s a) (rank most t b) (rank most (not t) b) p.1 (turned most b t (omega arith)) in
      below_rank most r.size 0 p.0 (omega arith) r.sign false
      ∙ both_lt (rank most r.sign r.size) (most + 0) (rank most s a) (rank most t b) l.0 l.1
      ∙ sym (below_rank most a b (omega arith) (omega arith) s t)

  difference_above : below false 0 r.sign r.size ≡ below t b s a
  difference_above =
      let p = r.placed most (omega arith) in
      let l = more most _ (rank most s a) (rank most t b) (rank most (not t) b) p.1 (turned most b t (omega arith)) in
      below_rank most 0 r.size (omega arith) p.0 false r.sign
      ∙ both_lt (most + 0) (rank most r.sign r.size) (rank most t b) (rank most s a) l.0 l.1
      ∙ sym (below_rank most b a (omega arith) (omega arith) t s)

-- ---- floats
module _ (f : Format) (s : Bool) (m : ℕ) (e : ℤ) (t : Bool) (k : ℕ) (d : ℤ) (p : T (fits f (fin s m e))) (q : T (fits f (fin t k d))) where
  abbrev x : Float
  x = fin s m e

  abbrev y : Float
  y = fin t k d

  abbrev i : ℕ
  i = (in_units f x p tt).m * 2 ^ (in_units f x p tt).j

  abbrev j : ℕ
  j = (in_units f y q tt).m * 2 ^ (in_units f y q tt).j

  x_is : HasValue x s i (2 ^ low f)
  x_is = (refl, (in_units f x p tt).is)

  y_is : HasValue y t j (2 ^ low f)
  y_is = (refl, (in_units f y q tt).is)

  difference : sub f x y ≡ round f (total_of f s i (not t) j).sign (total_of f s i (not t) j).size (2 ^ low f)
  difference = sub_values f x y s i t j (2 ^ low f) (pow_pos (low f)) x_is y_is ∙ (total_of f s i (not t) j).is (2 ^ low f)

  finite_negative : lt (sub f x y) none ≡ lt x y
  finite_negative =
      let r = total_of f s i (not t) j in
      rw difference
      (below_zero f r.sign r.size ∙ difference_below f s i t j ∙ sym (lt_values x y s i t j (2 ^ low f) (pow_pos (low f)) x_is y_is))

  finite_positive : lt none (sub f x y) ≡ lt y x
  finite_positive =
      let r = total_of f s i (not t) j in
      rw difference
      (above_zero f r.sign r.size ∙ difference_above f s i t j ∙ sym (lt_values y x t j s i (2 ^ low f) (pow_pos (low f)) y_is x_is))

pub sub_sign : (f : Format) (x y : Float) → T (fits f x) → T (fits f y) → (lt (sub f x y) none ≡ lt x y) × (lt none (sub f x y) ≡ lt y x)
unfolding lt sub
sub_sign f nan nan p q = (refl, refl)
sub_sign f nan (inf t) p q = (refl, refl)
sub_sign f nan (fin t n d) p q = (refl, refl)
sub_sign f (inf s) nan p q = (refl, refl)
sub_sign f (inf true) (inf true) p q = (refl, refl)
sub_sign f (inf true) (inf false) p q = (refl, refl)
sub_sign f (inf false) (inf true) p q = (refl, refl)
sub_sign f (inf false) (inf false) p q = (refl, refl)
sub_sign f (inf true) (fin t n d) p q = (refl, refl)
sub_sign f (inf false) (fin t n d) p q = (refl, refl)
sub_sign f (fin s m e) nan p q = (refl, refl)
sub_sign f (fin s m e) (inf true) p q = (refl, refl)
sub_sign f (fin s m e) (inf false) p q = (refl, refl)
sub_sign f (fin s m e) (fin t n d) p q = (finite_negative f s m e t n d p q, finite_positive f s m e t n d p q)
