-- What a conversion to an integer is worth (5.8, toward zero): the kit's `to_signed` and `to_unsigned`, which the contracts of `to_integer`
-- and `to_u64` cite.
use Rattle.std.specs.Prelude.{◌≡◌, Bool, true, false, ℕ, ◌-◌, ◌*◌, ◌^◌, ◌≤◌, pos, neg_ℤ, Float}
use Rattle.std.specs.Float.{nan, inf, fin}
use Rattle.std.specs.Float.Ieee.{up, down, to_signed, to_unsigned}

-- the whole number n is not above the size of x; an infinity's is above every number
unfoldable pub NotAbove : ℕ → Float → Type 0
NotAbove n nan = ⊥
NotAbove n (inf s) = Unit {0}
NotAbove n (fin s m e) = n * down e ≤ m * up e

-- n is the greatest whole number up to `most` that is not above the size of x: a fraction is dropped, and out of range n is the end,
-- which is nearest
pub record Cut (most : ℕ) (x : Float) (n : ℕ) : Type 0 where
  pub in_range : n ≤ most
  pub not_above : NotAbove n x
  pub greatest : (k : ℕ) → k ≤ most → NotAbove k x → k ≤ n

-- x is a number with this sign, an infinity included
unfoldable pub HasSign : Bool → Float → Type 0
HasSign s nan = ⊥
HasSign s (inf t) = t ≡ s
HasSign s (fin t m e) = t ≡ s

-- a signed integer of h bits and its sign: from -2^h to 2^h - 1 (`to_signed_is`)
pub record ToSignedIs (h : ℕ) : Type 0 where
  pub of_nan : to_signed h nan ≡ pos 0
  pub from_zero_up : (x : Float) → HasSign false x → (n : ℕ) × (to_signed h x ≡ pos n) × Cut (2 ^ h - 1) x n
  pub from_zero_down : (x : Float) → HasSign true x → (n : ℕ) × (to_signed h x ≡ neg_ℤ (pos n)) × Cut (2 ^ h) x n

-- an unsigned integer of w bits: from 0 to 2^w - 1 (`to_unsigned_is`)
pub record ToUnsignedIs (w : ℕ) : Type 0 where
  pub of_nan : to_unsigned w nan ≡ 0
  pub from_zero_up : (x : Float) → HasSign false x → Cut (2 ^ w - 1) x (to_unsigned w x)
  pub from_zero_down : (x : Float) → HasSign true x → to_unsigned w x ≡ 0
