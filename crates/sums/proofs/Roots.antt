-- The root of a value up to 4 ^ k is up to 2 ^ k, which is a value of the format: had the root passed it, 2 ^ k would be nearer. Assumes
-- nothing.
use Rattle.std.proofs.Common.{◌≡◌, ℕ, zero, suc, ◌+◌, ◌*◌, ◌^◌, ◌<◌, ◌≤◌, true, false, T, subst, mul-le-mul_right, mul-le-mul, le_of_mul-le-mul_right, arith, lt→ltb, pow_pos}
use native.Mathlib.Decide.{dec_lt}
use lib.Ieee.{Float, nan, inf, fin, Format, emax, fits, round}
use lib.Ieee.Fits.{round-fits}
use lib.Ieee.Positive.{num, den, positive, positive-finite, positive_of_value, den_pos, value→cross}
use lib.Ieee.Scale.{finite}
use Rattle.ieee.specs.Root.{root}
use Rattle.ieee.proofs.Nearest.Root.{root_nearest, root_positive}
use Rattle.sums.specs.inner.Plus.{plus}
use Rattle.sums.proofs.Within.{Within, power_value}

-- with r / d past v / w, the middle of the two is past v / w, so its square is past x / c if that is at most b * b
not_past : (b r d v w x c : ℕ) → v ≡ b * w → x ≤ b * b * c → v * d < r * w
    → (r * w + v * d) * (r * w + v * d) * c < 4 * x * (d * w * (d * w)) → ⊥
not_past b r d v w x c e h l g =
    let m : 2 * (v * d) ≤ r * w + v * d = omega arith in
    let s = mul-le-mul_right c (mul-le-mul m m) in
    let t = mul-le-mul_right (d * w * (d * w)) h in
    let u : 2 * (v * d) * (2 * (v * d)) * c ≡ 4 * (b * b * c * (d * w * (d * w))) = rw e (omega arith) in
    omega arith

-- and not past it, r / d is at most b
up_to : (b r d v w : ℕ) → 0 < w → v ≡ b * w → r * w ≤ v * d → r ≤ b * d
up_to b r d v w W e h =
    let g : r * w ≤ b * d * w = let c = subst (λ (z : ℕ). r * w ≤ z * d) e h in omega arith in le_of_mul-le-mul_right g W

module _ (f : Format) (k : ℕ) (K : k ≤ emax f) where
  abbrev top : Float
  top = round f false (2 ^ k) 1

  top_finite : T (finite top)
  top_finite = positive-finite top (positive_of_value top (2 ^ k) 1 (power_value f k K) (pow_pos k))

  top_is : num top ≡ 2 ^ k * den top
  top_is = let e = value→cross top (2 ^ k) 1 (power_value f k K) in omega arith

  positive_root : (x : Float) → T (fits f x) → T (positive x) → Within (2 ^ k * 2 ^ k) x → Within (2 ^ k) (root f x)
  positive_root x t p w =
      let r = root f x in
      let near = root_nearest f x t p top (round-fits f false (2 ^ k) 1) top_finite in
      elim (dec_lt (num top * den r) (num r * den top)) [
        | yes l ↦ absurd (not_past (2 ^ k) (num r) (den r) (num top) (den top) (num x) (den x) top_is w.small l (near.below l))
        | no l ↦
            record {
              finite_is = positive-finite r (root_positive f x t p);
              small = up_to (2 ^ k) (num r) (den r) (num top) (den top) (den_pos top) top_is (omega arith);
            }
      ]

  pub within_root : (x : Float) → T (fits f x) → T (plus x) → Within (2 ^ k * 2 ^ k) x → Within (2 ^ k) (root f x)
  within_root nan t p w = absurd p
  within_root (inf s) t p w = absurd w.finite_is
  within_root (fin true m e) t p w = absurd p
  within_root (fin false zero e) t p w = unfold root in record { finite_is = tt; small = omega arith }
  within_root (fin false (suc m) e) t p w = positive_root (fin false (suc m) e) t (lt→ltb 0 (suc m) (omega arith)) w
