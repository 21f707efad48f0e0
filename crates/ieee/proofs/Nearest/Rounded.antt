-- A rounded number is, of the values of its format, the nearest. Assumes nothing.
use mathlib.Core.Path.{◌≡◌, sym, ap, ◌∙◌, subst}
use mathlib.Core.Logic.{inl, inr, ⊎_elim}
use mathlib.Core.Bool.{Bool, true, false, cond}
use Prim.Native.Nat.{ℕ, suc, ◌+◌, ◌-◌, ◌*◌, ◌/◌, ◌%◌, ◌^◌, ◌≤◌, ◌<◌, compare}
use native.Mathlib.Decide.{dec_lt}
use native.Mathlib.Nat.{div-add-mod', div-div-eq-div-mul, div-mul-le_self, eq-zero-or-pos, le-div_iff_mul-le, le_of_eq, le_trans}
use native.Mathlib.Nat.{lt_of_le_of_lt, mul-le-mul_right, mul-lt-mul_of_pos_right, mul-pos}
use native.Mathlib.Omega.{arith}
use lib.Dec.{T, ltb→lt}
use lib.Pow.{pow-add, pow_pos}
use lib.Ieee.{Float, nan, inf, fin, Format, prec, emax, low, up, down, hid, ones, nearest, round, fits, to_bits}
use lib.Ieee.Digits.{size_reaches}
use lib.Ieee.Exact.{HasValue, units_val}
use lib.Ieee.Fits.{down_pos, kept-lt, reach, round_is, two}
use lib.Ieee.Nearest.{closest}
use lib.Ieee.Order.{drop}
use lib.Ieee.Positive.{num, den, den_pos}
use lib.Ieee.Scale.{finite, grid, overflow}
use Rattle.ieee.specs.Nearest.{Nearer}
use Rattle.ieee.specs.Rounded.{rounded}
use Rattle.ieee.proofs.Numbers.Basic.{closest_ge, closest_le, cmp_eq, cmp_gt, cmp_lt, lt_next, pow_half, pow_lt_back}
use Rattle.ieee.proofs.Nearest.Neighbours.{Sided, gap, in_fractions, sided, sum_over}
use Rattle.ieee.proofs.Patterns.Packing.{Leading, pack}
use Rattle.ieee.proofs.Patterns.Signs.{bits_signed}
use Rattle.ieee.proofs.Values.OneFloat.{finite_is, in_units, value_cross}

-- `closest` compares twice the remainder with the divisor, and that is twice the fraction with the sum of its neighbours
closest_mid : (n b c : ℕ) → closest n (b * c) ≡ nearest (n / (b * c)) (compare (2 * n) ((2 * (n / (b * c)) + 1) * c * b))
closest_mid n b c = by (n / (b * c)) (n % (b * c)) (div-add-mod' n (b * c))
  where
    by : (q r : ℕ) → q * (b * c) + r ≡ n → nearest q (compare (r * 2) (b * c)) ≡ nearest q (compare (2 * n) ((2 * q + 1) * c * b))
    by q r e =
        elim (dec_lt (r * 2) (b * c)) [
          | yes h ↦ rw (cmp_lt (r * 2) (b * c) h, cmp_lt (2 * n) ((2 * q + 1) * c * b) (omega arith))
          | no h ↦
              elim (dec_lt (b * c) (r * 2)) [
                | yes g ↦ rw (cmp_gt (r * 2) (b * c) g, cmp_gt (2 * n) ((2 * q + 1) * c * b) (omega arith))
                | no g ↦ rw (cmp_eq (r * 2) (b * c) (omega arith), cmp_eq (2 * n) ((2 * q + 1) * c * b) (omega arith))
              ]
        ]

-- the sign's bit, the exponent's field and the even number kept
parity : (s : Bool) (g h t k q : ℕ) → h ≡ 2 * g → (cond s (h * t) 0 + (k * h + (q + q % 2))) % 2 ≡ 0
parity true g h t k q e = rw e (omega arith)
parity false g h t k q e = rw e (omega arith)

-- ---- a / b in units: n / b, of which k digits are dropped, and w is kept
module _ (f : Format) (a b : ℕ) (B : 0 < b) where
  abbrev n : ℕ
  n = a * 2 ^ low f

  abbrev k : ℕ
  k = drop (prec f) n b

  abbrev w : ℕ
  w = closest n (b * 2 ^ k)

  abbrev q : ℕ
  q = n / (b * 2 ^ k)

  abbrev pub mid : ℕ
  mid = (2 * q + 1) * 2 ^ k * b

  leading : Leading (prec f) q k
  leading =
      ⊎_elim inl
      (λ (K : 0 < k).
      inr (subst (λ (z : ℕ). 2 ^ (prec f - 1) ≤ z) (div-div-eq-div-mul n b (2 ^ k)) ((le-div_iff_mul-le (pow_pos k)).1
      (le_trans (le_of_eq (sym (pow-add 2 (prec f - 1) k))) (size_reaches (n / b) (prec f - 1 + k) (omega (arith, two f)))))))
      (eq-zero-or-pos k)

  -- against any value m * 2 ^ j of the format, and past its largest too
  pub near : (m j : ℕ) → m < 2 ^ prec f → Sided ((grid f a b + m * 2 ^ j) * b) (2 * (a * 2 ^ low f)) (2 * (a * 2 ^ low f) ≡ mid)
      (grid f a b) (m * 2 ^ j)
  near m j h =
      let u : 0 < b * 2 ^ k = mul-pos B (pow_pos k) in
      rw (closest_mid n b (2 ^ k))
      (sided (λ s. s * b) (λ x y l. mul-lt-mul_of_pos_right l B) (2 * n) (2 ^ k) q (m * 2 ^ j)
      (gap (prec f) m j q k (omega (arith, two f)) h leading)
      (omega (arith, div-mul-le_self n (b * 2 ^ k))) (omega (arith, lt_next n (b * 2 ^ k) u)))

  -- ---- at a tie the pattern is even
  still_leading : Leading (prec f) w k
  still_leading = ⊎_elim inl (λ (h : 2 ^ (prec f - 1) ≤ q). inr (le_trans h (closest_ge n (b * 2 ^ k)))) leading

  few_dropped : grid f a b < overflow f → k < 2 * emax f
  few_dropped h = ⊎_elim (λ (z : k ≡ 0). omega (arith, two f, reach f)) (λ g. omega (arith, two f, reach f, places g)) still_leading
    where
      places : 2 ^ (prec f - 1) ≤ w → prec f - 1 + k < low f + suc (emax f)
      places g =
          pow_lt_back (prec f - 1 + k) (low f + suc (emax f))
          (lt_of_le_of_lt (le_of_eq (pow-add 2 (prec f - 1) k)) (lt_of_le_of_lt (mul-le-mul_right (2 ^ k) g) h))

  even_bits : (s : Bool) → grid f a b < overflow f → 2 * n ≡ mid → to_bits f (round f s a b) % 2 ≡ 0
  even_bits s h e =
      let even : w ≡ q + q % 2 = closest_mid n b (2 ^ k) ∙ rw (cmp_eq (2 * n) mid e) in
      let few : q < 2 ^ prec f = subst (λ (z : ℕ). z < 2 ^ prec f) (div-div-eq-div-mul n b (2 ^ k)) (kept-lt (prec f) (n / b)) in
      let packed = pack f w k (le_trans (closest_le n (b * 2 ^ k)) few) still_leading (few_dropped h) in
      rw (bits_signed f s a b, round_is f false a b, packed, even)
      (parity s (2 ^ (prec f - 1 - 1)) (hid f) (suc (ones f)) k q (pow_half (prec f - 1) (omega (arith, two f))))

pub round_nearest : (f : Format) (s : Bool) (a b : ℕ) → 0 < b → T (finite (round f s a b)) → (v : Float) → T (fits f v) → T (finite v)
    → Nearer f a b (round f s a b) v
round_nearest f s a b B t v g h =
    let r = round f s a b in
    let l = 2 ^ low f in
    let L : 0 < l = pow_pos (low f) in
    let n = a * l in
    let R = grid f a b in
    let room : R < overflow f = ltb→lt R (overflow f) (subst T (finite_is f s a b) t) in
    let value : HasValue r s R l = rw (round_is f s a b) (units_val f s (w f a b B) (k f a b B) room) in
    let at_r : num r * l ≡ R * den r = value_cross r s R l value in
    let u = in_units f v g h in
    let W = u.m * 2 ^ u.j in
    let d = den r * den v in
    let sum = num r * den v + num v * den r in
    let over : sum * l ≡ (R + W) * d = sum_over r v l R W L at_r u.is in
    let scaled : sum * b * l ≡ (R + W) * b * d = omega (arith, ap (λ (z : ℕ). z * b) over) in
    let side =
    in_fractions r v l R W L at_r u.is l d (sum * b) ((R + W) * b) (2 * a * d) (2 * n) (2 * n ≡ mid f a b B) L
    (mul-pos (den_pos r) (den_pos v))
    scaled (omega arith) (near f a b B u.m u.j u.few) in
    record { below = side.below; above = side.above; even = λ c e. even_bits f a b B s room (side.tie c e) }

-- f64 to f32, and any other change of format
pub rounded_nearest : (f : Format) (x : Float) → T (finite x) → T (finite (rounded f x)) → (v : Float) → T (fits f v) → T (finite v)
    → Nearer f (num x) (den x) (rounded f x) v
unfolding rounded
rounded_nearest f nan g = absurd g
rounded_nearest f (inf s) g = absurd g
rounded_nearest f (fin s m e) g = round_nearest f s (m * up e) (down e) (down_pos e)
