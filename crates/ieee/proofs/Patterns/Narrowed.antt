-- `rounded`, and its pattern for an `f32` by the fields of an `f64`'s pattern, in each range of the exponent's field. Assumes nothing.
use mathlib.Core.Path.{◌≡◌, refl, sym, ap, ◌∙◌, subst}
use mathlib.Core.Logic.{inl, inr}
use mathlib.Core.Bool.{Bool, false, cond}
use Prim.Native.Nat.{ℕ, zero, suc, ◌+◌, ◌-◌, ◌*◌, ◌/◌, ◌%◌, ◌^◌, ◌≤◌, ◌<◌}
use native.Mathlib.Nat.{add-mul-div_right, div-eq_of_lt, mod-eq_of_lt, zero-add}
use native.Mathlib.Decide.{dec_lt}
use native.Mathlib.Omega.{arith}
use borrow.Author.Tests.{le-leb, lt-leb}
use lib.Dec.{T, leb, lit<}
use lib.Pow.{pow_pos}
use lib.Ieee.{Float, nan, inf, fin, Format, binary32, binary64, up, down, round, fits, of_bits, to_bits}
use lib.Ieee.Exact.{HasValue}
use lib.Ieee.Fits.{down_pos, inf-fits, nan-fits, round-fits}
use lib.Ieee.Nearest.{closest}
use lib.Ieee.Scale.{round_same}
use Rattle.ieee.specs.inner.Fields.{exp, sig, sized}
use Rattle.ieee.specs.Rounded.{rounded}
use Rattle.ieee.proofs.Patterns.Fields.{exp_le, read_inf, read_nan, read_value, sig_lt}
use Rattle.ieee.proofs.Numbers.Basic.{below_pow, cmp_lt, nearest_shift}
use Rattle.ieee.proofs.Patterns.Packing.{bits_inf}
use Rattle.ieee.proofs.Patterns.Shifted.{shift_bits, shift_inf}
use Rattle.ieee.proofs.Patterns.Signs.{bits_signed}

-- ---- `rounded`
pub rounded_fits : (f : Format) (x : Float) → T (fits f (rounded f x))
unfolding rounded
rounded_fits f nan = nan-fits f
rounded_fits f (inf s) = inf-fits f s
rounded_fits f (fin s m e) = round-fits f s (m * up e) (down e)

pub rounded_at : (f : Format) (x : Float) (s : Bool) (a c : ℕ) → 0 < c → HasValue x s a c → rounded f x ≡ round f s a c
unfolding rounded
rounded_at f nan s a c C h = absurd h
rounded_at f (inf t) s a c C h = absurd h
rounded_at f (fin t m e) s a c C h = rw h.0 (round_same f s (m * up e) (down e) a c (down_pos e) C h.1)

-- ---- the pattern of a size
abbrev Narrow : ℕ → ℕ → ℕ
Narrow e t = to_bits binary32 (round binary32 false (sized binary64 e t) (2 ^ 1074))

-- less than a half
closest_small : (d j : ℕ) → d * 2 < 2 ^ j → closest d (2 ^ j) ≡ 0
closest_small d j h =
    let q : d / 2 ^ j ≡ 0 = div-eq_of_lt (omega arith) in
    let r : d % 2 ^ j ≡ d = mod-eq_of_lt (omega arith) in
    rw (q, r, cmp_lt (d * 2) (2 ^ j) h)

-- below the normal values of an `f32`
subnormal : (e t : ℕ) → e < 897 → t < 2 ^ 52 → Narrow e t ≡ 0 * 2 ^ 23 + closest (sig binary64 e t) (2 ^ (925 - exp e))
subnormal e t h l =
    let x = exp_le e in
    shift_bits binary32 (sig binary64 e t) (exp e) 1074 (925 - exp e) 0 (omega arith)
    (below_pow (sig binary64 e t) 53 (24 + (925 - exp e)) (sig_lt binary64 e t l) (omega arith)) (inl refl) (lit< tt)

pub narrow_tiny : (e t : ℕ) → e < 863 → t < 2 ^ 52 → 0 ≡ Narrow e t
narrow_tiny e t h l =
    let x = exp_le e in
    let d = sig_lt binary64 e t l in
    sym (subnormal e t (omega arith) l
    ∙ rw (closest_small (sig binary64 e t) (925 - exp e) (below_pow (sig binary64 e t * 2) 54 (925 - exp e) (omega arith) (omega arith))))

pub narrow_small : (e t : ℕ) → 863 ≤ e → e < 897 → t < 2 ^ 52 → closest (2 ^ 52 + t) (2 ^ (926 - e)) ≡ Narrow e t
narrow_small zero t h g l = absurd (omega arith)
narrow_small (suc y) t h g l =
    let places : 925 - y ≡ 926 - suc y = omega arith in
    sym (subnormal (suc y) t g l ∙ rw places (zero-add (closest (2 ^ 52 + t) (2 ^ (926 - suc y)))))

narrow_normal : (e t : ℕ) → 897 ≤ e → e < 1151 → t < 2 ^ 52 → (e - 897) * 2 ^ 23 + closest (2 ^ 52 + t) (2 ^ 29) ≡ Narrow e t
narrow_normal zero t h g l = absurd (omega arith)
narrow_normal (suc y) t h g l =
    sym (shift_bits binary32 (2 ^ 52 + t) y 1074 29 (suc y - 897) (omega arith) (omega arith) (inr (omega arith)) (omega arith))

pub narrow_large : (e t : ℕ) → 1151 ≤ e → t < 2 ^ 52 → 0x7f800000 ≡ Narrow e t
narrow_large zero t h l = absurd (omega arith)
narrow_large (suc y) t h l =
    rw (shift_inf binary32 (2 ^ 52 + t) y 1074 29 (suc y - 897) (omega arith) (omega arith) (inr (omega arith)) false (omega arith)
    (omega arith))
    (sym (bits_inf binary32))

-- ---- `narrow_normal` on the whole pattern m of a size at once: half of what goes is added, less one where the last digit
-- that stays is even; 29 digits go; and the exponent counts from 896 lower
abbrev shortened : ℕ → ℕ
shortened m = (m + (2 ^ 28 - 1 + m / 2 ^ 29 % 2)) / 2 ^ 29

abbrev NarrowWhole : ℕ → ℕ
NarrowWhole m = Narrow (m / 2 ^ 52) (m % 2 ^ 52)

-- an even number of b more does not change which way a tie goes
evenly_more : (n j b h : ℕ) → 0 < b → (n + 2 * j * b + (h + (n + 2 * j * b) / b % 2)) / b ≡ (n + h + n / b % 2) / b + 2 * j
evenly_more n j b h B =
    let even : (n + 2 * j * b) / b % 2 ≡ n / b % 2 = omega (arith, add-mul-div_right n (2 * j) B) in
    let regroup : n + 2 * j * b + (h + n / b % 2) ≡ n + h + n / b % 2 + 2 * j * b = omega arith in
    rw (even, regroup) (add-mul-div_right (n + h + n / b % 2) (2 * j) B)

-- the leading digit, which is not written, counts as much as one of the exponent
pub shortened_normal : (m : ℕ) → 897 * 2 ^ 52 ≤ m → m < 1151 * 2 ^ 52 → shortened m - 896 * 2 ^ 23 ≡ NarrowWhole m
shortened_normal m h g =
    let e = m / 2 ^ 52 in
    let n : ℕ = 2 ^ 52 + m % 2 ^ 52 in
    let j : ℕ = (e - 1) * 2 ^ 22 in
    let split : m ≡ n + 2 * j * 2 ^ 29 = omega arith in
    let places : shortened m ≡ closest n (2 ^ 29) + 2 * j =
    ap shortened split ∙ evenly_more n j (2 ^ 29) (2 ^ 28 - 1) (omega arith)
    ∙ ap (λ (z : ℕ). z + 2 * j) (nearest_shift n 29 (omega arith)) in
    let from : shortened m - 896 * 2 ^ 23 ≡ (e - 897) * 2 ^ 23 + closest n (2 ^ 29) = omega arith in
    from ∙ narrow_normal e (m % 2 ^ 52) (omega arith) (omega arith) (omega arith)

-- ---- with the sign, the infinities and the NaN
sign : (b : ℕ) → b < 2 ^ 64 → b / 2 ^ 63 * 2 ^ 31 ≡ cond (leb (2 ^ 63) b) (2 ^ 31) 0
sign b h =
    elim (dec_lt b (2 ^ 63)) [
      | yes l ↦ rw (lt-leb (2 ^ 63) b l) (omega arith)
      | no l ↦ rw (le-leb (2 ^ 63) b (omega arith)) (omega arith)
    ]

module _ (b : ℕ) where
  abbrev Answer : ℕ → Type 0
  Answer r = r ≡ to_bits binary32 (rounded binary32 (of_bits binary64 b))

  abbrev m : ℕ
  m = b % 2 ^ 63

  pub narrow_finite : (r : ℕ) → b < 2 ^ 64 → m < 2047 * 2 ^ 52 → r ≡ NarrowWhole m → Answer (b / 2 ^ 63 * 2 ^ 31 + r)
  narrow_finite r h l e =
      let s = leb (2 ^ 63) b in
      let a = sized binary64 (m / 2 ^ 52) (m % 2 ^ 52) in
      let digits : b % 2 ^ 52 ≡ m % 2 ^ 52 = omega arith in
      let value = subst (λ (t : ℕ). HasValue (of_bits binary64 b) s (sized binary64 (m / 2 ^ 52) t) (2 ^ 1074)) digits
      (read_value binary64 b (omega arith)) in
      rw (sign b h, e, rounded_at binary32 (of_bits binary64 b) s a (2 ^ 1074) (pow_pos 1074) value)
      (sym (bits_signed binary32 s a (2 ^ 1074)))

  pub narrow_inf : b < 2 ^ 64 → m ≡ 2047 * 2 ^ 52 → Answer (b / 2 ^ 63 * 2 ^ 31 + 0x7f800000)
  unfolding rounded to_bits
  narrow_inf h e = rw (sign b h, read_inf binary64 b (omega arith) (omega arith))

  pub narrow_nan : 2047 * 2 ^ 52 < m → Answer 0x7fc00000
  unfolding rounded to_bits
  narrow_nan h = rw (read_nan binary64 b (omega arith) (omega arith))
