-- No value of a format lies between two neighbours: so the one on the number's side of their middle is nearest. Assumes nothing.
use mathlib.Core.Path.{◌≡◌, refl, sym, ap, ◌∙◌, subst}
use mathlib.Core.Logic.{◌⊎◌, inl, inr, ⊎_elim}
use Prim.Native.Nat.{ℕ, zero, suc, ◌+◌, ◌-◌, ◌*◌, ◌%◌, ◌^◌, ◌≤◌, ◌<◌, compare}
use native.Mathlib.Decide.{dec_lt}
use native.Mathlib.Nat.{eq-or-lt_of_le, le_of_eq, le_of_lt, le_trans, lt_of_lt_of_le, mul_assoc, mul-le-mul_right}
use native.Mathlib.Numerals.{add-one}
use native.Mathlib.Omega.{arith}
use lib.Pow.{pow-add, pow_mono, shl_lt}
use lib.Ieee.{Float, nearest}
use lib.Ieee.Positive.{num, den}
use Rattle.ieee.proofs.Numbers.Basic.{as_eq, as_le, as_lt, cmp_eq, cmp_gt, cmp_lt}
use Rattle.ieee.proofs.Patterns.Packing.{Leading}

-- ---- nothing lies between q * 2 ^ k and (q + 1) * 2 ^ k, for a format of p digits
-- with c for 2 ^ k: a multiple of c is at most q * c, or (q + 1) * c at least
split : (m q c : ℕ) → (m * c ≤ q * c) ⊎ ((q + 1) * c ≤ m * c)
split m q c = elim (dec_lt q m) [ yes h ↦ inr (mul-le-mul_right c (omega arith)) | no h ↦ inl (mul-le-mul_right c (omega arith)) ]

pub gap : (p m j q k : ℕ) → 0 < p → m < 2 ^ p → Leading p q k → (m * 2 ^ j ≤ q * 2 ^ k) ⊎ ((q + 1) * 2 ^ k ≤ m * 2 ^ j)
gap p m j q k P h l =
    elim (dec_lt j k) [
      | yes g ↦ ⊎_elim (λ (z : k ≡ 0). absurd (omega arith)) (λ y. inl (small g y)) l
      | no g ↦ subst (λ (z : ℕ). (z ≤ q * 2 ^ k) ⊎ ((q + 1) * 2 ^ k ≤ z)) (multiple (omega arith)) (split (m * 2 ^ (j - k)) q (2 ^ k))
    ]
  where
    multiple : k ≤ j → m * 2 ^ (j - k) * 2 ^ k ≡ m * 2 ^ j
    multiple g = let e : j - k + k ≡ j = omega arith in mul_assoc m (2 ^ (j - k)) (2 ^ k) ∙ rw (← pow-add 2 (j - k) k, e)

    small : j < k → 2 ^ (p - 1) ≤ q → m * 2 ^ j ≤ q * 2 ^ k
    small g y =
        let places : p + j ≤ p - 1 + k = omega arith in
        le_trans (le_of_lt (shl_lt p j h))
        (le_trans (pow_mono places) (le_trans (le_of_eq (pow-add 2 (p - 1) k)) (mul-le-mul_right (2 ^ k) y)))

-- ---- which side of a middle a number is on
-- r is the result and v another value. `sum` stands for r + v, so for twice their middle, as it compares with n for the number:
-- for a / b it is (r + v) * b, and n is 2 * a; for the root of a / b it is the square of r + v times b, and n is 4 * a.
pub record Sided (sum n : ℕ) (Tie : Type 0) (r v : ℕ) : Type 0 where
  pub below : v < r → sum ≤ n
  pub above : r < v → n ≤ sum
  pub tie : (v ≡ r → ⊥) → n ≡ sum → Tie

module _ (scale : ℕ → ℕ) (grows : (x y : ℕ) → x < y → scale x < scale y) (n c q v : ℕ) (apart : (v ≤ q * c) ⊎ ((q + 1) * c ≤ v)) where
  abbrev pub mid : ℕ
  mid = scale ((2 * q + 1) * c)

  -- with the result r, a tie is one with the other neighbour
  abbrev pub At : ℕ → Type 0
  At r = Sided (scale (r + v)) n (n ≡ mid) r v

  mono : (x y : ℕ) → x ≤ y → scale x ≤ scale y
  mono x y h = ⊎_elim (λ (e : x ≡ y). le_of_eq (ap scale e)) (λ l. le_of_lt (grows x y l)) (eq-or-lt_of_le h)

  lower : scale (2 * q * c) ≤ n → n ≤ mid → At (q * c)
  lower lo h =
      record {
        below = λ l. le_of_lt (under l);
        above = λ l. le_trans h (over l);
        tie = λ d e. elim (dec_lt v (q * c)) [ yes l ↦ absurd (omega (arith, under l)) | no l ↦ omega (arith, over (omega arith)) ];
      }
    where
      under : v < q * c → scale (q * c + v) < n
      under l = lt_of_lt_of_le (grows (q * c + v) (2 * q * c) (omega arith)) lo

      over : q * c < v → mid ≤ scale (q * c + v)
      over l =
          mono ((2 * q + 1) * c) (q * c + v) (⊎_elim (λ (g : v ≤ q * c). absurd (omega arith)) (λ (g : (q + 1) * c ≤ v). omega arith) apart)

  upper : n < scale (2 * (q + 1) * c) → mid ≤ n → At ((q + 1) * c)
  upper hi h =
      record {
        below = λ l. le_trans (under l) h;
        above = λ l. le_of_lt (over l);
        tie = λ d e. elim (dec_lt v ((q + 1) * c)) [ yes l ↦ omega (arith, under l) | no l ↦ absurd (omega (arith, over (omega arith))) ];
      }
    where
      under : v < (q + 1) * c → scale ((q + 1) * c + v) ≤ mid
      under l =
          mono ((q + 1) * c + v) ((2 * q + 1) * c) (⊎_elim (λ (g : v ≤ q * c). omega arith)
          (λ (g : (q + 1) * c ≤ v). absurd (omega arith)) apart)

      over : (q + 1) * c < v → n < scale ((q + 1) * c + v)
      over l = lt_of_lt_of_le hi (mono (2 * (q + 1) * c) ((q + 1) * c + v) (omega arith))

  -- the neighbour that `nearest` picks, by the three answers of its comparison
  pub sided : scale (2 * q * c) ≤ n → n < scale (2 * (q + 1) * c) → At (nearest q (compare n mid) * c)
  sided lo hi =
      elim (dec_lt n mid) [
        | yes h ↦ rw (cmp_lt n mid h) (lower lo (le_of_lt h))
        | no h ↦
            elim (dec_lt mid n) [
              | yes g ↦ rw (cmp_gt n mid g, ← add-one q) (upper hi (le_of_lt g))
              | no g ↦ let e : n ≡ mid = omega arith in
                  rw (cmp_eq n mid e) (tied (q % 2) refl (omega arith) (le_of_eq e) (le_of_eq (sym e)))
            ]
      ]
    where
      tied : (m : ℕ) → q % 2 ≡ m → m < 2 → n ≤ mid → mid ≤ n → At ((q + m) * c)
      tied zero e l g h = subst (λ (z : ℕ). At (z * c)) (omega arith) (lower lo g)
      tied (suc zero) e l g h = upper hi h
      tied (suc (suc m)) e l g h = absurd (omega arith)

-- ---- from units to fractions
-- Of the l-th parts the float r is R and v is W. Over the denominator of both they are in the same proportion, and so is what is compared.
module _ (r v : Float) (l R W : ℕ) (L : 0 < l) (at_r : num r * l ≡ R * den r) (at-v : num v * l ≡ W * den v) where
  r_over : num r * den v * l ≡ R * (den r * den v)
  r_over = omega (arith, ap (λ (z : ℕ). z * den v) at_r)

  v_over : num v * den r * l ≡ W * (den r * den v)
  v_over = omega (arith, ap (λ (z : ℕ). z * den r) at-v)

  pub sum_over : (num r * den v + num v * den r) * l ≡ (R + W) * (den r * den v)
  sum_over = omega (arith, r_over, v_over)

  pub in_fractions : (a b s S n N : ℕ) (Tie : Type 0) → 0 < a → 0 < b → s * a ≡ S * b → n * a ≡ N * b → Sided S N Tie R W
      → Sided s n Tie (num r * den v) (num v * den r)
  in_fractions a b s S n N Tie A B at-s at_n side =
      let y = num r * den v in
      let x = num v * den r in
      let d = den r * den v in
      record {
        below = λ h. as_le a b s S n N at-s at_n A (side.below (as_lt d l W x R y (sym v_over) (sym r_over) L h));
        above = λ h. as_le a b n N s S at_n at-s A (side.above (as_lt d l R y W x (sym r_over) (sym v_over) L h));
        tie = λ h e. side.tie (λ z. h (as_eq l d x W y R v_over r_over L z)) (as_eq b a N n S s (sym at_n) (sym at-s) B e);
      }
