-- A float that its format holds is read back from its pattern, and a pattern that is no NaN's is written back. Assumes nothing.
use mathlib.Core.Path.{◌≡◌, sym, subst}
use mathlib.Core.Bool.{Bool, true, not}
use Prim.Native.Nat.{ℕ, ◌*◌, ◌%◌, ◌<◌, ◌≤◌}
use lib.Dec.{T}
use lib.Ieee.{Float, Format, hid, ones, top, fits, of_bits, to_bits}
use lib.Ieee.Bits.{nan_bits_is, of_bits-to_bits, to_bits-of_bits}
use Rattle.ieee.proofs.Patterns.Nan.{up_to_inf}

pub read_back : (f : Format) (x : Float) → fits f x ≡ true → of_bits f (to_bits f x) ≡ x
read_back f x h = of_bits-to_bits f x (subst T (sym h) tt)

-- the same by a pattern b that x has
pub read_word : (f : Format) (x : Float) (b : ℕ) → (b ≡ to_bits f x) × (fits f x ≡ true) → of_bits f b ≡ x
read_word f x b h = rw h.0 (read_back f x h.1)

pub write_back : (f : Format) (b : ℕ) → b < 2 * top f → b % top f ≤ ones f * hid f → to_bits f (of_bits f b) ≡ b
write_back f b l h = to_bits-of_bits f b l (subst (λ (t : Bool). T (not t)) (nan_bits_is f b) (up_to_inf f b h))
