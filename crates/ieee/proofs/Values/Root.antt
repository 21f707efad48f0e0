-- `root` and its pattern. Assumes nothing.
use mathlib.Core.Path.{◌≡◌, refl, sym, ap, ◌∙◌, subst}
use mathlib.Core.Logic.{inr}
use mathlib.Core.Bool.{Bool, true, false, cond, true≢false, false≢true}
use Prim.Native.Nat.{ℕ, zero, suc, ◌+◌, ◌-◌, ◌*◌, ◌/◌, ◌%◌, ◌^◌, ◌≤◌, ◌<◌}
use native.Mathlib.Nat.{div-div-eq-div-mul, div-lt_iff_lt-mul, div-one, le_refl, lt_irrefl, lt_of_le_of_lt, lt_of_lt_of_le, mul_assoc}
use native.Mathlib.Nat.{mul_comm, mul-div_cancel, mul-le-mul, mul-le-mul_right, mul-lt-mul_of_pos_right, mul-mul-mul_comm, mul-one, mul-pos}
use native.Mathlib.Nat.{mul_right_comm, one-mul, pow-succ', zero-lt-suc, zero-mul}
use native.Mathlib.Omega.{arith}
use lib.Dec.{T, ltb, ltb→lt, lit<}
use lib.Pow.{pow-add, pow-lt, pow_mono, pow_pos}
use lib.Ieee.{Float, nan, inf, fin, Format, prec, emax, low, up, down, hid, size, units, odd, fits, to_bits}
use lib.Ieee.Digits.{size-le, size-lt}
use lib.Ieee.Exact.{HasValue}
use lib.Ieee.Fits.{down_pos, inf-fits, nan-fits, odd-fits, two, up_pos}
use lib.Ieee.Nearest.{div_same}
use lib.Ieee.Scale.{overflow}
use Rattle.ieee.specs.Root.{closest_root, floor_root, root, root_round}
use Rattle.ieee.proofs.Numbers.Basic.{size_gt}
use Rattle.ieee.proofs.Patterns.Packing.{pack}
use Rattle.ieee.proofs.Numbers.Squares.{IsRoot, closest_root_ge, closest_root_le, closest_root_same, floor_root_is, square_lt}

-- ---- `root_round`: the value alone counts
abbrev pub squared : Format → ℕ → ℕ
squared f num = num * (2 ^ low f * 2 ^ low f)

-- the digits that are dropped, and the number that is kept
abbrev pub dropped : Format → ℕ → ℕ → ℕ
dropped f num den = size (floor_root (squared f num / den)) - prec f

abbrev pub keeps : Format → ℕ → ℕ → ℕ
keeps f num den = let k = dropped f num den in closest_root (squared f num) (den * (2 ^ k * 2 ^ k))

pub root_round_is : (f : Format) (num den : ℕ) → root_round f num den ≡ units f false (keeps f num den) (dropped f num den)
unfolding root_round
root_round_is f num den = refl

root_round_same : (f : Format) (a b c d : ℕ) → 0 < b → 0 < d → a * d ≡ c * b → root_round f a b ≡ root_round f c d
root_round_same f a b c d B D e =
    let L = 2 ^ low f * 2 ^ low f in
    let even : squared f a * d ≡ squared f c * b = mul_right_comm a L d ∙ rw e (mul_right_comm c b L) in
    let k = dropped f c d in
    let K = 2 ^ k * 2 ^ k in
    let P : 0 < K = mul-pos (pow_pos k) (pow_pos k) in
    let finer : squared f a * (d * K) ≡ squared f c * (b * K) = sym (mul_assoc (squared f a) d K) ∙ rw even (mul_assoc (squared f c) b K) in
    let same = closest_root_same (squared f a) (b * K) (squared f c) (d * K) (mul-pos B P) (mul-pos D P) finer in
    root_round_is f a b ∙ rw (div_same (squared f a) b (squared f c) d B D even, same) (sym (root_round_is f c d))

pub square : (d k : ℕ) → 2 ^ d * 2 ^ d * (2 ^ k * 2 ^ k) ≡ 2 ^ (d + k) * 2 ^ (d + k)
square d k = mul-mul-mul_comm (2 ^ d) (2 ^ d) (2 ^ k) (2 ^ k) ∙ rw (pow-add 2 d k)

-- ---- the pattern, where the square of the root, in units, is N * 4 ^ k, and N's root has all the digits that the format keeps
module _ (f : Format) (a N k : ℕ) (value : a * 2 ^ low f ≡ N * (2 ^ k * 2 ^ k)) (least : 2 ^ (prec f - 1) * 2 ^ (prec f - 1) ≤ N)
    (most : N < 2 ^ prec f * 2 ^ prec f) where
  whole_is : squared f a / 2 ^ low f ≡ N * (2 ^ k * 2 ^ k)
  whole_is = rw (← mul_assoc a (2 ^ low f) (2 ^ low f), mul-div_cancel (a * 2 ^ low f) (pow_pos (low f))) value

  drop_is : dropped f a (2 ^ low f) ≡ k
  drop_is =
      let r = floor_root (squared f a / 2 ^ low f) in
      let K = 2 ^ k * 2 ^ k in
      let is : IsRoot (N * K) r = subst (λ (z : ℕ). IsRoot z r) whole_is (floor_root_is (squared f a / 2 ^ low f)) in
      let from : 2 ^ (prec f - 1 + k) * 2 ^ (prec f - 1 + k) ≤ N * K =
      subst (λ (z : ℕ). z ≤ N * K) (square (prec f - 1) k) (mul-le-mul_right K least) in
      let to : N * K < 2 ^ (prec f + k) * 2 ^ (prec f + k) =
      subst (λ (z : ℕ). N * K < z) (square (prec f) k) (mul-lt-mul_of_pos_right most (mul-pos (pow_pos k) (pow_pos k))) in
      let lo = square_lt (2 ^ (prec f - 1 + k)) (r + 1) (lt_of_le_of_lt from is.1) in
      let hi = square_lt r (2 ^ (prec f + k)) (lt_of_le_of_lt is.0 to) in
      let x = size-le r (prec f + k) hi in
      let y = size_gt r (prec f - 1 + k) (omega arith) in
      let p = two f in
      omega arith

  pub root_bits : k < 2 * emax f → to_bits f (root_round f a (2 ^ low f)) ≡ k * hid f + closest_root N 1
  root_bits h =
      let L = 2 ^ low f in
      let K = 2 ^ k * 2 ^ k in
      let even : squared f a * 1 ≡ N * (L * K) = mul-one (squared f a) ∙ sym (mul_assoc a L L)
      ∙ rw value (mul_assoc N K L ∙ rw (mul_comm K L)) in
      let some : 0 < L * K = mul-pos (pow_pos (low f)) (mul-pos (pow_pos k) (pow_pos k)) in
      rw (root_round_is f a L, drop_is, closest_root_same (squared f a) (L * K) N 1 some (lit< tt) even)
      (pack f (closest_root N 1) k (closest_root_le N 1 (2 ^ prec f) (lit< tt) (rw (div-one N) most))
      (inr (closest_root_ge N (2 ^ (prec f - 1)) least)) h)

-- 2 ^ w, as a square and what is left of it
pub pow_halves : (w : ℕ) → (1 + w % 2) * (2 ^ (w / 2) * 2 ^ (w / 2)) ≡ 2 ^ w
pow_halves w = go (w % 2) refl
  where
    go : (r : ℕ) → w % 2 ≡ r → (1 + r) * (2 ^ (w / 2) * 2 ^ (w / 2)) ≡ 2 ^ w
    go zero e = one-mul (2 ^ (w / 2) * 2 ^ (w / 2)) ∙ sym (pow-add 2 (w / 2) (w / 2)) ∙ ap (λ (z : ℕ). 2 ^ z) (omega arith)
    go (suc zero) e =
        ap (λ (z : ℕ). 2 * z) (sym (pow-add 2 (w / 2) (w / 2))) ∙ sym (pow-succ' 2 (w / 2 + w / 2)) ∙ ap (λ (z : ℕ). 2 ^ z) (omega arith)
    go (suc (suc r)) e = absurd (omega arith)

-- ---- `root` of a number
-- a product that is 0 where one that is above 0 is asked
not_zero : (n u c a d : ℕ) → n ≡ 0 → n * u * c ≡ a * d → 0 < a → 0 < d → ⊥
not_zero n u c a d z e A D = lt_irrefl 0 (subst (λ (x : ℕ). 0 < x) (sym e ∙ rw (z, zero-mul u, zero-mul c)) (mul-pos A D))

pub root_above : (f : Format) (x : Float) (a c : ℕ) → 0 < c → 0 < a → HasValue x false a c → root f x ≡ root_round f a c
unfolding root
root_above f nan a c C A h = absurd h
root_above f (inf s) a c C A h = absurd h
root_above f (fin true zero e) a c C A h = absurd (true≢false h.0)
root_above f (fin true (suc m) e) a c C A h = absurd (true≢false h.0)
root_above f (fin false zero e) a c C A h = absurd (not_zero 0 (up e) c a (down e) refl h.1 A (down_pos e))
root_above f (fin false (suc m) e) a c C A h = root_round_same f (suc m * up e) (down e) a c (down_pos e) C h.1

pub root_below : (f : Format) (x : Float) (a c : ℕ) → 0 < a → HasValue x true a c → root f x ≡ nan
unfolding root
root_below f nan a c A h = absurd h
root_below f (inf t) a c A h = absurd h
root_below f (fin false zero e) a c A h = absurd (false≢true h.0)
root_below f (fin false (suc m) e) a c A h = absurd (false≢true h.0)
root_below f (fin true zero e) a c A h = absurd (not_zero 0 (up e) c a (down e) refl h.1 A (down_pos e))
root_below f (fin true (suc m) e) a c A h = refl

pub root_zero : (f : Format) (x : Float) (s : Bool) (c : ℕ) → 0 < c → HasValue x s 0 c → root f x ≡ x
unfolding root
root_zero f nan s c C h = absurd h
root_zero f (inf t) s c C h = absurd h
root_zero f (fin t zero e) s c C h = refl
root_zero f (fin t (suc m) e) s c C h =
    absurd (not_zero 0 (down e) 1 (suc m * up e) c refl (zero_one (down e) ∙ sym h.1) (mul-pos (zero-lt-suc m) (up_pos e)) C)
  where
    zero_one : (d : ℕ) → 0 * d * 1 ≡ 0 * d
    zero_one d = mul-one (0 * d)

-- ---- the format holds the root
units_fits : (f : Format) (q k : ℕ) → q ≤ 2 ^ prec f → T (fits f (units f false q k))
unfolding units
units_fits f q k a = go (ltb (q * 2 ^ k) (overflow f)) (ltb→lt (q * 2 ^ k) (overflow f))
  where
    go : (b : Bool) → (T b → q * 2 ^ k < overflow f) → T (fits f (cond b (odd (suc (prec f)) false q k (low f)) (inf false)))
    go true h = odd-fits f (suc (prec f)) false q k (lt_of_le_of_lt a (pow-lt (le_refl (suc (prec f))))) a (h tt)
    go false h = inf-fits f false

pub keeps_le : (f : Format) (num den : ℕ) → 0 < den → keeps f num den ≤ 2 ^ prec f
keeps_le f num den D =
    let n = squared f num in
    let r = floor_root (n / den) in
    let k = size r - prec f in
    let K = 2 ^ k * 2 ^ k in
    let P : 0 < K = mul-pos (pow_pos k) (pow_pos k) in
    let places : size r ≤ prec f + k = omega arith in
    let next : r + 1 ≤ 2 ^ (prec f + k) = omega (arith, size-lt r, pow_mono places) in
    let all : n / den < 2 ^ prec f * 2 ^ prec f * K =
    subst (λ (z : ℕ). n / den < z) (sym (square (prec f) k)) (lt_of_lt_of_le (floor_root_is (n / den)).1 (mul-le-mul next next)) in
    let some : n / (den * K) < 2 ^ prec f * 2 ^ prec f =
    subst (λ (z : ℕ). z < 2 ^ prec f * 2 ^ prec f) (div-div-eq-div-mul n den K) ((div-lt_iff_lt-mul P).1 all) in
    closest_root_le n (den * K) (2 ^ prec f) (mul-pos D P) some

root_round_fits : (f : Format) (num den : ℕ) → 0 < den → T (fits f (root_round f num den))
root_round_fits f num den D = rw (root_round_is f num den) (units_fits f (keeps f num den) (dropped f num den) (keeps_le f num den D))

pub root_fits : (f : Format) (x : Float) → T (fits f x) → T (fits f (root f x))
unfolding root
root_fits f nan h = nan-fits f
root_fits f (inf true) h = nan-fits f
root_fits f (inf false) h = inf-fits f false
root_fits f (fin s zero e) h = h
root_fits f (fin true (suc m) e) h = nan-fits f
root_fits f (fin false (suc m) e) h = root_round_fits f (suc m * up e) (down e) (down_pos e)
