-- A float that its format holds is known by its sign and its size, whatever fraction the size is written as: so `round` leaves it.
-- Assumes nothing.
use mathlib.Core.Path.{◌≡◌, refl, sym, ap, ◌∙◌, subst}
use mathlib.Core.Bool.{Bool, true, false, ◌&&◌, cond}
use Prim.Native.Nat.{ℕ, zero, suc, ◌+◌, ◌-◌, ◌*◌, ◌/◌, ◌%◌, ◌^◌, ◌≤◌, ◌<◌}
use native.Mathlib.Nat.{add_comm, le_of_eq, le_trans, lt_of_mul-lt-mul_right, mul_assoc, mul-lt-mul_of_pos_right, mul-one, mul-pos}
use native.Mathlib.Nat.{mul_right_comm, one-mul, zero-mul}
use lib.IntN.{ℤ, pos, negsuc}
use lib.Dec.{T, leb, ltb, eqb, leb→le, ltb→lt, eqb→eq}
use lib.Pow.{pow-add, pow_pos}
use lib.Ieee.{Float, nan, inf, fin, Format, binary64, binary32, prec, emax, low, up, down, hid, top, size, odd, units, round, fits, to_bits}
use lib.Ieee.Bits.{of_bits-to_bits}
use lib.Ieee.Digits.{back}
use lib.Ieee.Exact.{HasValue, round_exact}
use lib.Ieee.Fits.{and_l, and_r, down_pos, round-fits, round_is}
use lib.Ieee.Nearest.{div_same}
use lib.Ieee.Order.{drop, kept}
use lib.Ieee.Positive.{num, den}
use lib.Ieee.Scale.{finite, grid, overflow, round_same}
use Rattle.ieee.proofs.Numbers.Basic.{pow_le_back}

-- ---- the pattern by the value
abbrev pattern : Format → Bool → ℕ → ℕ
pattern f s n = cond s (top f) 0 + (size n - prec f) * hid f + n / 2 ^ (size n - prec f)

pub bits_at : (f : Format) (x : Float) (s : Bool) (a c : ℕ) → 0 < c → HasValue x s a c → to_bits f x ≡ pattern f s (a * 2 ^ low f / c)
unfolding to_bits
bits_at f nan s a c C h = absurd h
bits_at f (inf t) s a c C h = absurd h
bits_at f (fin t m e) s a c C h = rw (h.0, units) refl
  where
    units : m * up e * 2 ^ low f / down e ≡ a * 2 ^ low f / c
    units =
        div_same (m * up e * 2 ^ low f) (down e) (a * 2 ^ low f) c (down_pos e) C
        (mul_right_comm (m * up e) (2 ^ low f) c ∙ rw h.1 (mul_right_comm a (down e) (2 ^ low f)))

pub value_unique : (f : Format) (x y : Float) (s : Bool) (a c : ℕ) → 0 < c → T (fits f x) → T (fits f y) → HasValue x s a c
    → HasValue y s a c → x ≡ y
value_unique f x y s a c C p q h k = sym (of_bits-to_bits f x p) ∙ rw (bits_at f x s a c C h, ← bits_at f y s a c C k) (of_bits-to_bits f y q)

pub value_cross : (x : Float) (s : Bool) (a c : ℕ) → HasValue x s a c → num x * c ≡ a * den x
value_cross nan s a c h = absurd h
value_cross (inf t) s a c h = absurd h
value_cross (fin t m e) s a c h = h.1

-- ---- what it takes to fit
Shape : Format → ℕ → ℤ → Type 0
Shape f m e = (m < 2 ^ prec f) × (down e ≤ 2 ^ low f) × (m * up e < 2 ^ suc (emax f) * down e)

shape : (f : Format) (s : Bool) (m : ℕ) (e : ℤ) → T (fits f (fin s m e)) → Shape f m e
unfolding Shape fits
shape f s zero e t =
    (pow_pos (prec f), flat e (eqb→eq (up e * down e) 1 t), rw (zero-mul (up e)) (mul-pos (pow_pos (suc (emax f))) (down_pos e)))
  where
    flat : (e : ℤ) → up e * down e ≡ 1 → down e ≤ 2 ^ low f
    flat (pos k) h = pow_pos (low f)
    flat (negsuc k) h = le_trans (le_of_eq (sym (one-mul (2 ^ suc k)) ∙ h)) (pow_pos (low f))
shape f s (suc m) e t =
    let A = eqb (suc m % 2) 1 in
    let B = ltb (suc m) (2 ^ prec f) in
    let C = leb (down e) (2 ^ low f) in
    let D = ltb (suc m * up e) (2 ^ suc (emax f) * down e) in
    let abc = and_l (A && B && C) D t in (
      ltb→lt (suc m) (2 ^ prec f) (and_r A B (and_l (A && B) C abc)),
      leb→le (down e) (2 ^ low f) (and_r (A && B) C abc),
      ltb→lt (suc m * up e)
          (2 ^ suc (emax f) * down e) (and_r (A && B && C) D t),
    )

-- ---- what fits is left as it is
-- the exponent counted from the smallest value's
placed : (l : ℕ) (e : ℤ) → down e ≤ 2 ^ l → (j : ℕ) × ((m : ℕ) → m * up e * 2 ^ l ≡ m * 2 ^ j * down e)
placed l (pos k) h = (k + l, λ m. rw (pow-add 2 k l, mul-one) (mul_assoc m (2 ^ k) (2 ^ l)))
placed l (negsuc k) h =
    let split : 2 ^ l ≡ 2 ^ (l - suc k) * 2 ^ suc k =
    sym (ap (λ (z : ℕ). 2 ^ z) (back l (suc k) (pow_le_back (suc k) l h))) ∙ pow-add 2 (l - suc k) (suc k) in
    (l - suc k, λ m. rw (mul-one, split) (sym (mul_assoc m (2 ^ (l - suc k)) (2 ^ suc k))))

-- n / d in units of the format's smallest value: m * 2 ^ j, with m of no more digits than the format keeps
pub record InUnits (f : Format) (n d : ℕ) : Type 0 where
  pub m : ℕ
  pub j : ℕ
  pub few : m < 2 ^ prec f
  pub room : m * 2 ^ j < overflow f
  pub is : n * 2 ^ low f ≡ m * 2 ^ j * d

pub in_units : (f : Format) (x : Float) → T (fits f x) → T (finite x) → InUnits f (num x) (den x)
unfolding Shape
in_units f nan t g = absurd g
in_units f (inf s) t g = absurd g
in_units f (fin s m e) t g =
    let k = shape f s m e t in
    let p = placed (low f) e k.1 in
    let scaled : 2 ^ suc (emax f) * down e * 2 ^ low f ≡ overflow f * down e =
    mul_right_comm (2 ^ suc (emax f)) (down e) (2 ^ low f) ∙ rw (← pow-add 2 (suc (emax f)) (low f), add_comm (suc (emax f)) (low f)) in
    record {
      m = m;
      j = p.0;
      few = k.0;
      room = lt_of_mul-lt-mul_right (down e) (subst (λ (z : ℕ). z < overflow f * down e) (p.1 m)
          (subst (λ (z : ℕ). m * up e * 2 ^ low f < z) scaled (mul-lt-mul_of_pos_right k.2 (pow_pos (low f)))));
      is = p.1 m;
    }

pub round_own : (f : Format) (s : Bool) (m : ℕ) (e : ℤ) → T (fits f (fin s m e)) → round f s (m * up e) (down e) ≡ fin s m e
round_own f s m e t =
    let u = in_units f (fin s m e) t tt in
    value_unique f (round f s (m * up e) (down e)) (fin s m e) s (m * up e) (down e) (down_pos e) (round-fits f s (m * up e) (down e)) t
    (round_exact f s (m * up e) (down e) u.m u.j (down_pos e) u.few u.room u.is) (refl, refl)

pub short : (f : Format) (s : Bool) (m : ℕ) (e : ℤ) → T (fits f (fin s m e)) → m < 2 ^ prec f
unfolding Shape
short f s m e t = (shape f s m e t).0

-- ---- where it is finite
finite_units : (f : Format) (s : Bool) (q k : ℕ) → finite (units f s q k) ≡ ltb (q * 2 ^ k) (overflow f)
unfolding units
finite_units f s q k = go (ltb (q * 2 ^ k) (overflow f))
  where
    odd_finite : (d q k l : ℕ) → finite (odd d s q k l) ≡ true
    odd_finite d zero k l = unfold odd in refl
    odd_finite d (suc q) k l = unfold odd in refl

    go : (b : Bool) → finite (cond b (odd (suc (prec f)) s q k (low f)) (inf s)) ≡ b
    go true = odd_finite (suc (prec f)) q k (low f)
    go false = refl

pub finite_is : (f : Format) (s : Bool) (a b : ℕ) → finite (round f s a b) ≡ ltb (grid f a b) (overflow f)
finite_is f s a b =
    let n = a * 2 ^ low f in ap finite (round_is f s a b) ∙ finite_units f s (kept (prec f) n b) (drop (prec f) n b)

-- nothing is a zero of the sign
pub round_zero : (f : Format) (s : Bool) (c : ℕ) → 0 < c → round f s 0 c ≡ fin s 0 (pos 0)
round_zero f s c C = round_same f s 0 c 0 1 C (pow_pos 0) (zero-mul 1 ∙ sym (zero-mul c)) ∙ at f
  where
    at : (f : Format) → round f s 0 1 ≡ fin s 0 (pos 0)
    at binary32 = unfold round in refl
    at binary64 = unfold round in refl
