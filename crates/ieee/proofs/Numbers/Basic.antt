-- Facts on numbers that the rounding laws lean on: what `compare` answers, how many digits a number has, the nearest quotient.
-- Assumes nothing.
use mathlib.Core.Path.{◌≡◌, refl, sym, ap, ◌∙◌, subst}
use Prim.Native.Nat.{ℕ, zero, suc, ◌+◌, ◌-◌, ◌*◌, ◌/◌, ◌%◌, ◌^◌, ◌≤◌, ◌<◌, compare, Ordering}
use native.Mathlib.Decide.{dec_lt}
use native.Mathlib.Nat.{div-add-mod', div-eq_of_lt-le, eq_of_mul-eq-mul_right, le_antisymm, le_of_lt, le_of_mul-le-mul_right}
use native.Mathlib.Nat.{le_of_suc-le-suc, lt_of_le_of_lt, lt_of_lt_of_le, lt_of_mul-lt-mul_right, lt_of_not-le, mod-lt, mul-le-mul_left}
use native.Mathlib.Nat.{mul-le-mul_right, mul-lt-mul_of_pos_right, not-le_of_lt, one-mul, pow-succ'}
use native.Mathlib.Omega.{arith}
use mathlib.Core.Bool.{not}
use lib.Dec.{T, is_le, compare_is_eq, leb→le, nleb→lt, eqb, eqb→eq, eqb_refl, lit<}
use lib.Pow.{pow-add, pow-lt, pow_mono, pow_pos, shl_exact}
use lib.Ieee.{nearest, size}
use lib.Ieee.Digits.{size-le, size-lt}
use lib.Ieee.Fits.{nearest-le}
use lib.Ieee.Nearest.{closest, nearest-ge}

-- ---- compare
pub cmp_lt : (a b : ℕ) → a < b → compare a b ≡ Ordering.lt
cmp_lt a b h = go (compare a b) (nleb→lt a b) (eqb→eq a b)
  where
    go : (o : Ordering) → (T (not (is_le o)) → b < a) → (T (compare_is_eq o) → a ≡ b) → o ≡ Ordering.lt
    go Ordering.lt k e = refl
    go Ordering.eq k e = let x = e tt in absurd (omega arith)
    go Ordering.gt k e = let x = k tt in absurd (omega arith)

pub cmp_gt : (a b : ℕ) → b < a → compare a b ≡ Ordering.gt
cmp_gt a b h = go (compare a b) (leb→le a b)
  where
    go : (o : Ordering) → (T (is_le o) → a ≤ b) → o ≡ Ordering.gt
    go Ordering.lt k = let x = k tt in absurd (omega arith)
    go Ordering.eq k = let x = k tt in absurd (omega arith)
    go Ordering.gt k = refl

pub cmp_eq : (a b : ℕ) → a ≡ b → compare a b ≡ Ordering.eq
cmp_eq a b h = go (compare a b) (subst (λ (x : ℕ). T (eqb a x)) h (eqb_refl a))
  where
    go : (o : Ordering) → T (compare_is_eq o) → o ≡ Ordering.eq
    go Ordering.lt k = absurd k
    go Ordering.eq k = refl
    go Ordering.gt k = absurd k

-- ---- powers and digits
pub pow_le_back : (a b : ℕ) → 2 ^ a ≤ 2 ^ b → a ≤ b
pow_le_back a b h = le_of_suc-le-suc (lt_of_not-le (λ (g : suc b ≤ a). not-le_of_lt (pow-lt g) h))

pub pow_lt_back : (a b : ℕ) → 2 ^ a < 2 ^ b → a < b
pow_lt_back a b h = lt_of_not-le (λ (g : b ≤ a). not-le_of_lt h (pow_mono g))

pub pow_half : (k : ℕ) → 0 < k → 2 ^ k ≡ 2 * 2 ^ (k - 1)
pow_half k K = let next : suc (k - 1) ≡ k = omega arith in sym (ap (λ (z : ℕ). 2 ^ z) next) ∙ pow-succ' 2 (k - 1)

pub one_shl : (j : ℕ) → j < 64 → (1 * 2 ^ j) % 2 ^ 64 ≡ 2 ^ j
one_shl j h = shl_exact {a = 1} 1 j 64 (lit< tt) (omega arith) ∙ one-mul (2 ^ j)

pub below_pow : (d i j : ℕ) → d < 2 ^ i → i ≤ j → d < 2 ^ j
below_pow d i j h k = lt_of_lt_of_le h (pow_mono k)

pub square_below : (n k : ℕ) → n < 2 ^ k → n * n < 2 ^ (k + k)
square_below n k h = rw (pow-add 2 k k) (lt_of_le_of_lt (mul-le-mul_left n (le_of_lt h)) (mul-lt-mul_of_pos_right h (pow_pos k)))

pub size_gt : (n j : ℕ) → 2 ^ j ≤ n → j < size n
size_gt n j h = lt_of_not-le (λ (g : size n ≤ j). not-le_of_lt (lt_of_lt_of_le (size-lt n) (pow_mono g)) h)

pub size_is : (n j : ℕ) → 2 ^ j ≤ n → n < 2 ^ suc j → size n ≡ suc j
size_is n j h k = le_antisymm (size-le n (suc j) k) (size_gt n j h)

-- ---- two numbers that are in one proportion, d to l, to two others
module _ (l d x X y Y : ℕ) (at_x : x * l ≡ X * d) (at_y : y * l ≡ Y * d) where
  pub as_le : 0 < l → X ≤ Y → x ≤ y
  as_le L h = le_of_mul-le-mul_right (rw (at_x, at_y) (mul-le-mul_right d h)) L

  pub as_lt : 0 < d → X < Y → x < y
  as_lt D h = lt_of_mul-lt-mul_right l (rw (at_x, at_y) (mul-lt-mul_of_pos_right h D))

  pub as_eq : 0 < l → X ≡ Y → x ≡ y
  as_eq L h = eq_of_mul-eq-mul_right l L x y (at_x ∙ rw h (sym at_y))

-- ---- quotients
-- a quotient lies below the next whole number
pub lt_next : (a b : ℕ) → 0 < b → a < (a / b + 1) * b
lt_next a b B = omega (arith, div-add-mod' a b, mod-lt a B)

-- the nearest
pub closest_ge : (a b : ℕ) → a / b ≤ closest a b
closest_ge a b = nearest-ge (a / b) (compare (a % b * 2) b)

pub closest_le : (a b : ℕ) → closest a b ≤ suc (a / b)
closest_le a b = nearest-le (a / b) (compare (a % b * 2) b)

-- (q * 2h + r) / 2h; m is 1 where q is odd, and then a tie goes up
quotient : (q r h m : ℕ) → 0 < h → r < 2 * h → q % 2 ≡ m → m < 2
    → (q * (2 * h) + r + (h - 1) + m) / (2 * h) ≡ nearest q (compare (r * 2) (2 * h))
quotient q r h m H R e l =
    elim (dec_lt h r) [
      | yes a ↦ rw (cmp_gt (r * 2) (2 * h) (omega arith)) (div-eq_of_lt-le {k = suc q} (2 * h) (omega arith) (omega arith))
      | no a ↦
          elim (dec_lt r h) [
            | yes b ↦ rw (cmp_lt (r * 2) (2 * h) (omega arith)) (div-eq_of_lt-le {k = q} (2 * h) (omega arith) (omega arith))
            | no b ↦ rw (cmp_eq (r * 2) (2 * h) (omega arith), e) (tied m l (omega arith))
          ]
    ]
  where
    tied : (m : ℕ) → m < 2 → r ≡ h → (q * (2 * h) + r + (h - 1) + m) / (2 * h) ≡ q + m
    tied zero l z = div-eq_of_lt-le {k = q + 0} (2 * h) (omega arith) (omega arith)
    tied (suc zero) l z = div-eq_of_lt-le {k = q + 1} (2 * h) (omega arith) (omega arith)
    tied (suc (suc m)) l z = absurd (omega arith)

-- half of 2 ^ k is added, less one where the quotient is even, and the fraction dropped
pub nearest_shift : (n k : ℕ) → 0 < k → (n + (2 ^ (k - 1) - 1) + n / 2 ^ k % 2) / 2 ^ k ≡ closest n (2 ^ k)
nearest_shift n k K = rw (pow_half k K) (at (2 ^ (k - 1)) (pow_pos (k - 1)))
  where
    at : (h : ℕ) → 0 < h → (n + (h - 1) + n / (2 * h) % 2) / (2 * h) ≡ closest n (2 * h)
    at h H =
        ap (λ (z : ℕ). (z + (h - 1) + n / (2 * h) % 2) / (2 * h)) (sym (div-add-mod' n (2 * h)))
        ∙ quotient (n / (2 * h)) (n % (2 * h)) h (n / (2 * h) % 2) H (mod-lt n (omega arith)) refl (omega arith)
