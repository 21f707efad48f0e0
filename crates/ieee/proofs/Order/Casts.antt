-- A conversion to an integer keeps the order, past the ends of the range too. Assumes nothing.
use mathlib.Core.Path.{◌≡◌}
use mathlib.Core.Bool.{Bool, true, false}
use Prim.Native.Nat.{ℕ, zero, suc, ◌-◌, ◌*◌, ◌/◌, ◌^◌, ◌≤◌, min, zero-le}
use native.Mathlib.Nat.{zero-div}
use native.Mathlib.Omega.{arith}
use lib.Dec.{T, le→leb}
use lib.IntN.{ℤ}
use lib.Signed.{le_z}
use lib.Ieee.{Float, nan, inf, fin, up, down, le, to_signed, to_unsigned}
use lib.Ieee.Fits.{down_pos}
use lib.Ieee.Nearest.{div_mono}
use Rattle.ieee.specs.inner.Wholes.{signed}
use Rattle.ieee.proofs.Order.Monotone.{no_factor}
use Rattle.ieee.proofs.Order.Signed.{AtMost, at_most}

-- ---- the whole part of a size, up to an end n of the range
up_to : ℕ → ℕ → ℤ → ℕ
up_to n m e = min (m * up e / down e) n

least_of_lem : (a b n : ℕ) → a ≤ b → min a n ≤ min b n
least_of_lem a b n h = omega arith

none : (n : ℕ) → min 0 n ≡ 0
none n = omega arith

module _ (n m : ℕ) (e : ℤ) where
  up_to_end : up_to n m e ≤ n
  unfolding up_to
  up_to_end = omega arith

  up_to_zero : (d : ℤ) → m * up e * down d ≡ 0 → up_to n m e ≡ 0
  unfolding up_to
  up_to_zero d h = rw (no_factor (m * up e) (down d) (down_pos d) h, zero-div (down e)) (none n)

  up_to_rises : (k : ℕ) (d : ℤ) → m * up e * down d ≤ k * up d * down e → up_to n m e ≤ up_to n k d
  unfolding up_to
  up_to_rises k d h =
      least_of_lem (m * up e / down e) (k * up d / down d) n (div_mono (m * up e) (down e) (k * up d) (down d) (down_pos e) (down_pos d) h)

pub to_unsigned_mono : (w : ℕ) (x y : Float) → T (le x y) → to_unsigned w x ≤ to_unsigned w y
unfolding to_unsigned le AtMost up_to
to_unsigned_mono w nan y h = absurd h
to_unsigned_mono w (inf s) nan h = absurd h
to_unsigned_mono w (inf true) (inf t) h = zero-le
to_unsigned_mono w (inf false) (inf true) h = absurd h
to_unsigned_mono w (inf false) (inf false) h = omega arith
to_unsigned_mono w (inf true) (fin t n d) h = zero-le
to_unsigned_mono w (inf false) (fin t n d) h = absurd h
to_unsigned_mono w (fin s m e) nan h = absurd h
to_unsigned_mono w (fin s m e) (inf true) h = absurd h
to_unsigned_mono w (fin true m e) (inf false) h = zero-le
to_unsigned_mono w (fin false m e) (inf false) h = up_to_end (2 ^ w - 1) m e
to_unsigned_mono w (fin true m e) (fin t n d) h = zero-le
to_unsigned_mono w (fin false m e) (fin false n d) h =
    up_to_rises (2 ^ w - 1) m e n d (at_most false (m * up e * down d) false (n * up d * down e) h)
to_unsigned_mono w (fin false m e) (fin true n d) h =
    rw (up_to_zero (2 ^ w - 1) m e d (at_most false (m * up e * down d) true (n * up d * down e) h).0) zero-le

signed_le : (s : Bool) (i : ℕ) (t : Bool) (j : ℕ) → AtMost s i t j → T (le_z (signed s i) (signed t j))
unfolding AtMost
signed_le false i false j h = le→leb i j h
signed_le false i true j h = rw (h.0, h.1) tt
signed_le true zero false j h = le→leb 0 j zero-le
signed_le true (suc i) false j h = tt
signed_le true zero true zero h = tt
signed_le true zero true (suc j) h = absurd (omega arith)
signed_le true (suc i) true zero h = tt
signed_le true (suc i) true (suc j) h = le→leb j i (omega arith)

pub to_signed_mono : (h : ℕ) (x y : Float) → T (le x y) → T (le_z (to_signed h x) (to_signed h y))
unfolding to_signed le AtMost up_to
to_signed_mono h nan y l = absurd l
to_signed_mono h (inf s) nan l = absurd l
to_signed_mono h (inf true) (inf true) l = signed_le true (2 ^ h) true (2 ^ h) (omega arith)
to_signed_mono h (inf true) (inf false) l = signed_le true (2 ^ h) false (2 ^ h - 1) zero-le
to_signed_mono h (inf false) (inf true) l = absurd l
to_signed_mono h (inf false) (inf false) l = signed_le false (2 ^ h - 1) false (2 ^ h - 1) (omega arith)
to_signed_mono h (inf true) (fin true n d) l = signed_le true (2 ^ h) true (up_to (2 ^ h) n d) (up_to_end (2 ^ h) n d)
to_signed_mono h (inf true) (fin false n d) l = signed_le true (2 ^ h) false (up_to (2 ^ h - 1) n d) zero-le
to_signed_mono h (inf false) (fin t n d) l = absurd l
to_signed_mono h (fin s m e) nan l = absurd l
to_signed_mono h (fin s m e) (inf true) l = absurd l
to_signed_mono h (fin true m e) (inf false) l = signed_le true (up_to (2 ^ h) m e) false (2 ^ h - 1) zero-le
to_signed_mono h (fin false m e) (inf false) l = signed_le false (up_to (2 ^ h - 1) m e) false (2 ^ h - 1) (up_to_end (2 ^ h - 1) m e)
to_signed_mono h (fin true m e) (fin true n d) l =
    signed_le true (up_to (2 ^ h) m e) true (up_to (2 ^ h) n d)
    (up_to_rises (2 ^ h) n d m e (at_most true (m * up e * down d) true (n * up d * down e) l))
to_signed_mono h (fin true m e) (fin false n d) l = signed_le true (up_to (2 ^ h) m e) false (up_to (2 ^ h - 1) n d) zero-le
to_signed_mono h (fin false m e) (fin false n d) l =
    signed_le false (up_to (2 ^ h - 1) m e) false (up_to (2 ^ h - 1) n d)
    (up_to_rises (2 ^ h - 1) m e n d (at_most false (m * up e * down d) false (n * up d * down e) l))
to_signed_mono h (fin false m e) (fin true n d) l =
    let z = at_most false (m * up e * down d) true (n * up d * down e) l in
    signed_le false (up_to (2 ^ h - 1) m e) true (up_to (2 ^ h) n d) (up_to_zero (2 ^ h - 1) m e d z.0, up_to_zero (2 ^ h) n d e z.1)
