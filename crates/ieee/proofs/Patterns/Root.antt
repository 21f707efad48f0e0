-- The pattern of an `f64`'s root, by the pattern of the `f64`. Assumes nothing.
use mathlib.Core.Path.{◌≡◌, refl, sym, ap, ◌∙◌, subst}
use mathlib.Core.Logic.{inl, inr}
use mathlib.Core.Bool.{Bool, true, false}
use Prim.Native.Nat.{ℕ, zero, suc, ◌+◌, ◌-◌, ◌*◌, ◌/◌, ◌%◌, ◌^◌, ◌≤◌, ◌<◌}
use native.Mathlib.Decide.{dec_lt}
use native.Mathlib.Nat.{eq-zero-or-pos, le_of_eq, le_trans, lt_of_le_of_lt, lt_of_lt_of_le, mod-eq_of_lt, mul_assoc, mul_comm}
use native.Mathlib.Nat.{mul-le-mul_left, mul-le-mul_right, mul-lt-mul_of_pos_right, mul-one, mul-pos}
use native.Mathlib.Omega.{arith}
use borrow.Author.Tests.{le-leb, lt-leb}
use lib.Count.{leading_top, count_leading_zeros}
use lib.Dec.{leb, lit≤}
use lib.Pow.{pow-add, pow_pos}
use lib.Ieee.{nan, binary64, of_bits, to_bits}
use lib.Ieee.Exact.{HasValue}
use Rattle.ieee.specs.inner.Fields.{sized}
use Rattle.ieee.specs.Root.{closest_root, root, root_round}
use Rattle.ieee.proofs.Patterns.Back.{write_back}
use Rattle.ieee.proofs.Patterns.Fields.{read_inf, read_nan, read_value}
use Rattle.ieee.proofs.Numbers.Basic.{pow_lt_back}
use Rattle.ieee.proofs.Values.Root.{pow_halves, root_above, root_below, root_bits, root_zero}

-- ---- a size above zero, by its fields
abbrev Pattern : ℕ → ℕ
Pattern a = to_bits binary64 (root_round binary64 a (2 ^ 1074))

abbrev Scaled : ℕ → ℕ → ℕ
Scaled d w = w / 2 * 2 ^ 52 + closest_root (d * (1 + w % 2) * 2 ^ 52) 1

-- a / 2 ^ 1074 is d * 2 ^ w / 2 ^ 2096, for a d of 53 digits
scaled : (a d w : ℕ) → 2 ^ 52 ≤ d → d < 2 ^ 53 → w < 4092 → a * 2 ^ 1074 ≡ d * 2 ^ 52 * 2 ^ w → Scaled d w ≡ Pattern a
scaled a d w l m W e =
    sym (root_bits binary64 a (d * (1 + w % 2) * 2 ^ 52) (w / 2)
    (e ∙ rw (← pow_halves w) (regroup d (2 ^ 52) (1 + w % 2) (2 ^ (w / 2) * 2 ^ (w / 2)))) (least (w % 2))
    (most (w % 2) (omega arith)) (omega arith))
  where
    regroup : (d p r s : ℕ) → d * p * (r * s) ≡ d * r * p * s
    regroup d p r s = simp (mul_assoc, mul_comm)

    least : (r : ℕ) → 2 ^ 52 * 2 ^ 52 ≤ d * (1 + r) * 2 ^ 52
    least r = mul-le-mul_right (2 ^ 52) (le_trans l (le_trans (le_of_eq (sym (mul-one d))) (mul-le-mul_left d (omega arith))))

    most : (r : ℕ) → r < 2 → d * (1 + r) * 2 ^ 52 < 2 ^ 53 * 2 ^ 53
    most r g = let x : d * (1 + r) ≤ d * 2 = mul-le-mul_left d (omega arith) in omega arith

pub normal_root : (e t : ℕ) → (e ≡ 0 → ⊥) → e < 2047 → t < 2 ^ 52 → Scaled (2 ^ 52 + t) (e + 1021) ≡ Pattern (sized binary64 e t)
normal_root zero t n l h = absurd (n refl)
normal_root (suc y) t n l h =
    scaled ((2 ^ 52 + t) * 2 ^ y) (2 ^ 52 + t) (suc y + 1021) (omega arith) (omega arith) (omega arith) (places (2 ^ 52 + t))
  where
    places : (d : ℕ) → d * 2 ^ y * 2 ^ 1074 ≡ d * 2 ^ 52 * 2 ^ (suc y + 1021)
    places d =
        let e : y + 1074 ≡ 52 + (suc y + 1021) = omega arith in
        mul_assoc d (2 ^ y) (2 ^ 1074)
        ∙ ap (λ (z : ℕ). d * z) (sym (pow-add 2 y 1074) ∙ ap (λ (z : ℕ). 2 ^ z) e ∙ pow-add 2 52 (suc y + 1021))
        ∙ sym (mul_assoc d (2 ^ 52) (2 ^ (suc y + 1021)))

-- t with its leading zeros shifted out has 53 digits
pub record Shifted (t z : ℕ) : Type 0 where
  pub eleven : 11 ≤ z
  pub most : z ≤ 63
  pub from : 2 ^ 52 ≤ t * 2 ^ (z - 11)
  pub below : t * 2 ^ (z - 11) < 2 ^ 53

pub shifted_out : (t : ℕ) → 0 < t → t < 2 ^ 52 → Shifted t (count_leading_zeros 64 t)
shifted_out t p h =
    let l = leading_top 64 t p (lt_of_lt_of_le h (lit≤ tt)) in
    go (count_leading_zeros 64 t) l.0 l.1 l.2 l.3
  where
    go : (z j : ℕ) → z + suc j ≡ 64 → 2 ^ j ≤ t → t < 2 ^ suc j → Shifted t z
    go z j e a b =
        let j_lt : j < 52 = pow_lt_back j 52 (lt_of_le_of_lt a h) in
        let lo : 52 ≡ j + (z - 11) = omega arith in
        let hi : 53 ≡ suc j + (z - 11) = omega arith in
        record {
          eleven = omega arith;
          most = omega arith;
          from = le_trans (le_of_eq (ap (λ (x : ℕ). 2 ^ x) lo ∙ pow-add 2 j (z - 11))) (mul-le-mul_right (2 ^ (z - 11)) a);
          below =
              lt_of_lt_of_le (mul-lt-mul_of_pos_right b (pow_pos (z - 11)))
              (le_of_eq (sym (ap (λ (x : ℕ). 2 ^ x) hi ∙ pow-add 2 (suc j) (z - 11))));
        }

pub uncut : {t z : ℕ} → Shifted t z → t * 2 ^ (z - 11) % 2 ^ 64 ≡ t * 2 ^ (z - 11)
uncut h = mod-eq_of_lt (let x = h.below in omega arith)

pub subnormal_root : (e t z : ℕ) → e ≡ 0 → Shifted t z → Scaled (t * 2 ^ (z - 11) % 2 ^ 64) (1022 - (z - 11)) ≡ Pattern (sized binary64 e t)
subnormal_root (suc e) t z n h = absurd (omega arith)
subnormal_root zero t z n h =
    rw (uncut h) (scaled (t * 2 ^ 0) (t * 2 ^ (z - 11)) (1022 - (z - 11)) h.from h.below (omega arith) places)
  where
    places : t * 2 ^ 0 * 2 ^ 1074 ≡ t * 2 ^ (z - 11) * 2 ^ 52 * 2 ^ (1022 - (z - 11))
    places =
        let m = h.most in
        let e : 1074 ≡ z - 11 + 52 + (1022 - (z - 11)) = omega arith in
        ap (λ (y : ℕ). y * 2 ^ 1074) (mul-one t)
        ∙ ap (λ (y : ℕ). t * 2 ^ y) e
        ∙ rw (pow-add 2 (z - 11 + 52) (1022 - (z - 11)), pow-add 2 (z - 11) 52) (simp mul_assoc)

-- ---- by the whole pattern
size_zero : (e t : ℕ) → e + t ≡ 0 → sized binary64 e t ≡ 0
size_zero zero t h = omega arith
size_zero (suc e) t h = absurd (omega arith)

size_pos : (e t : ℕ) → (e + t ≡ 0 → ⊥) → 0 < sized binary64 e t
size_pos zero t n = elim (eq-zero-or-pos t) [ inl z ↦ absurd (n (omega arith)) | inr p ↦ mul-pos p (pow_pos 0) ]
size_pos (suc e) t n = mul-pos {m = 2 ^ 52 + t} (omega arith) (pow_pos e)

module _ (b : ℕ) where
  abbrev e : ℕ
  e = b % 2 ^ 63 / 2 ^ 52

  abbrev t : ℕ
  t = b % 2 ^ 52

  abbrev Answer : ℕ → Type 0
  Answer r = r ≡ to_bits binary64 (root binary64 (of_bits binary64 b))

  value : (s : Bool) → leb (2 ^ 63) b ≡ s → e < 2047 → HasValue (of_bits binary64 b) s (sized binary64 e t) (2 ^ 1074)
  value s g h = rw (← g) (read_value binary64 b h)

  pub zero_bits : b < 2 ^ 64 → e + t ≡ 0 → Answer b
  zero_bits l h =
      let s = leb (2 ^ 63) b in
      let v : HasValue (of_bits binary64 b) s 0 (2 ^ 1074) =
      subst (λ (a : ℕ). HasValue (of_bits binary64 b) s a (2 ^ 1074)) (size_zero e t h) (value s refl (omega arith)) in
      rw (root_zero binary64 (of_bits binary64 b) s (2 ^ 1074) (pow_pos 1074) v) (sym (write_back binary64 b l (omega arith)))

  pub above_bits : (r : ℕ) → b < 0x7ff0000000000000 → (e + t ≡ 0 → ⊥) → r ≡ Pattern (sized binary64 e t) → Answer r
  above_bits r l h p =
      rw (root_above binary64 (of_bits binary64 b) (sized binary64 e t) (2 ^ 1074) (pow_pos 1074) (size_pos e t h)
      (value false (lt-leb (2 ^ 63) b (omega arith)) (omega arith))) p

  pub infinity_bits : b ≡ 0x7ff0000000000000 → Answer b
  unfolding of_bits root to_bits
  infinity_bits h = rw h

  no_root : b < 2 ^ 64 → 0x7ff0000000000000 < b → (e + t ≡ 0 → ⊥) → root binary64 (of_bits binary64 b) ≡ nan
  unfolding root
  no_root l h n =
      elim (dec_lt e 2047) [
        | yes k ↦
            root_below binary64 (of_bits binary64 b) (sized binary64 e t) (2 ^ 1074) (size_pos e t n)
            (value true (le-leb (2 ^ 63) b (omega arith)) k)
        | no k ↦
            elim (eq-zero-or-pos t) [
              | inl z ↦ rw (read_inf binary64 b (omega arith) z, le-leb (2 ^ 63) b (omega arith))
              | inr p ↦ rw (read_nan binary64 b (omega arith) p)
            ]
      ]

  pub nan_bits : b < 2 ^ 64 → 0x7ff0000000000000 < b → (e + t ≡ 0 → ⊥) → Answer 0x7ff8000000000000
  unfolding to_bits
  nan_bits l h n = rw (no_root l h n)
