-- The value that is read from a pattern, by its fields: a number, an infinity or a NaN. Assumes nothing.
use mathlib.Core.Path.{◌≡◌, refl}
use mathlib.Core.Bool.{Bool}
use Prim.Native.Nat.{ℕ, zero, suc, ◌+◌, ◌-◌, ◌*◌, ◌/◌, ◌%◌, ◌^◌, ◌≤◌, ◌<◌}
use native.Mathlib.Omega.{arith}
use borrow.Author.Tests.{eq-eqb, ne_eqb}
use lib.Dec.{leb}
use lib.Ieee.{nan, inf, Format, binary32, binary64, prec, low, hid, ones, top, of_bits, of_fields}
use lib.Ieee.Exact.{HasValue, odd_sign}
use Rattle.ieee.specs.inner.Fields.{exp, sig, sized}

module _ (f : Format) (s : Bool) where
  fields_value : (x t : ℕ) → x < ones f → HasValue (of_fields f s x t) s (sized f x t) (2 ^ low f)
  unfolding of_fields
  fields_value zero t h = odd_sign (prec f) s t 0 (low f)
  fields_value (suc x) t h = rw (ne_eqb (suc x) (ones f) (λ e. omega arith)) (odd_sign (prec f) s (hid f + t) x (low f))

  fields_inf : (x t : ℕ) → x ≡ ones f → t ≡ 0 → of_fields f s x t ≡ inf s
  unfolding of_fields
  fields_inf zero t h z = absurd (omega arith)
  fields_inf (suc x) t h z = rw (eq-eqb (suc x) (ones f) h, eq-eqb t 0 z)

  fields_nan : (x t : ℕ) → x ≡ ones f → 0 < t → of_fields f s x t ≡ nan
  unfolding of_fields
  fields_nan zero t h z = absurd (omega arith)
  fields_nan (suc x) t h z = rw (eq-eqb (suc x) (ones f) h, ne_eqb t 0 (λ e. omega arith))

module _ (f : Format) (b : ℕ) where
  pub read_value : b % top f / hid f < ones f → HasValue (of_bits f b) (leb (top f) b) (sized f (b % top f / hid f) (b % hid f)) (2 ^ low f)
  unfolding of_bits
  read_value h = fields_value f (leb (top f) b) (b % top f / hid f) (b % hid f) h

  pub read_inf : b % top f / hid f ≡ ones f → b % hid f ≡ 0 → of_bits f b ≡ inf (leb (top f) b)
  unfolding of_bits
  read_inf h z = fields_inf f (leb (top f) b) (b % top f / hid f) (b % hid f) h z

  pub read_nan : b % top f / hid f ≡ ones f → 0 < b % hid f → of_bits f b ≡ nan
  unfolding of_bits
  read_nan h z = fields_nan f (leb (top f) b) (b % top f / hid f) (b % hid f) h z

-- ---- the two cases of the exponent's field
pub sig_zero : (f : Format) (e t : ℕ) → e ≡ 0 → t ≡ sig f e t
sig_zero f zero t h = refl
sig_zero f (suc y) t h = absurd (omega arith)

pub sig_above : (f : Format) (e t : ℕ) → (e ≡ 0 → ⊥) → hid f + t ≡ sig f e t
sig_above f zero t h = absurd (h refl)
sig_above f (suc y) t h = refl

pub exp_is : (e : ℕ) → exp e ≡ e - 1
exp_is zero = omega arith
exp_is (suc y) = omega arith

-- ---- how large the fields' number is
pub twice_hid : (f : Format) → 2 ^ prec f ≡ 2 * hid f
twice_hid binary32 = refl
twice_hid binary64 = refl

pub sig_lt : (f : Format) (e t : ℕ) → t < hid f → sig f e t < 2 ^ prec f
sig_lt f zero t h = omega (arith, twice_hid f)
sig_lt f (suc y) t h = omega (arith, twice_hid f)

pub exp_le : (e : ℕ) → exp e ≤ e
exp_le zero = omega arith
exp_le (suc y) = omega arith
