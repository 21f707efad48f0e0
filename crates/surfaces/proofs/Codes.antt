-- A key as three words: one to one, so that equal codes are equal keys. An i32 has a code below 2 ^ 32, and is read back from it.
-- Assumes nothing.
use Rattle.std.proofs.Common.{◌≡◌, ℕ, zero, suc, ◌/◌, ◌%◌, ◌<◌, ℤ, pos, negsuc, ◌-ℤ◌, refl, ap, ◌∙◌, ◌≢◌, arith, w32, SFits, to_z, of_z}
use mir.ValLaws.{to_z_pos, to_z-of_z}
use lib.Ieee.{Float}
use Rattle.ieee.proofs.Order.Ranges.{signed_fits, signed_kept}
use Rattle.slots.specs.declared.Code.{Code}
use Rattle.slots.specs.inner.Forms.{narrow}
use Rattle.cells.specs.inner.Table.{coded}
use Rattle.cells.proofs.Codes.{coded_one}
use Rattle.surfaces.specs.declared.Key.{Key}
use Rattle.surfaces.specs.Surfaces.{tenths, normal_key}
use Rattle.surfaces.specs.inner.Index.{key_code}

-- ---- an i32

coded_small : (z : ℤ) → SFits w32 z → coded z < 4294967296
unfolding coded
coded_small (pos n) f = omega (arith, f.sfits)
coded_small (negsuc n) f = omega (arith, f.sfits)

-- tenths are read back from their bits
pub tenths_kept : (x : Float) → to_z w32 (of_z w32 (tenths x)) ≡ tenths x
unfolding tenths
tenths_kept x = signed_kept w32 _

tenths_small : (x : Float) → coded (tenths x) < 4294967296
unfolding tenths
tenths_small x = coded_small (tenths x) (signed_fits w32 _)

-- ---- and back

minus_one : (h : ℕ) → negsuc 0 -ℤ pos h ≡ negsuc h
minus_one zero = refl
minus_one (suc h) = ap negsuc (omega arith)

-- the half of a code as 32 bits, and what is left of that below -1
to_pos : (x : ℕ) → x < 4294967296 → to_z w32 (x / 2) ≡ pos (x / 2)
to_pos x l = to_z_pos w32 (x / 2) (omega arith)

below_zero : (x : ℕ) → x < 4294967296 → negsuc 0 -ℤ to_z w32 (x / 2) ≡ negsuc (x / 2)
below_zero x l = rw (to_pos x l) (minus_one (x / 2))

rest_fits : (x : ℕ) → x < 4294967296 → SFits w32 (negsuc 0 -ℤ to_z w32 (x / 2))
rest_fits x l = rw (below_zero x l) (record { sfits = omega arith })

pub rest_is : (x : ℕ) → x < 4294967296 → to_z w32 (of_z w32 (negsuc 0 -ℤ to_z w32 (x / 2))) ≡ negsuc (x / 2)
rest_is x l = to_z-of_z w32 (negsuc 0 -ℤ to_z w32 (x / 2)) (rest_fits x l) ∙ below_zero x l

-- an even code is twice its number, an odd one counts down from -1
pub of_even : (z : ℤ) → coded z % 2 ≡ 0 → z ≡ pos (coded z / 2)
unfolding coded
of_even (pos n) h = ap pos (omega arith)
of_even (negsuc n) h = absurd (omega arith)

pub of_odd : (z : ℤ) → coded z % 2 ≢ 0 → z ≡ negsuc (coded z / 2)
unfolding coded
of_odd (pos n) h = absurd (omega arith)
of_odd (negsuc n) h = ap negsuc (omega arith)

-- ---- one to one

pub code_one : (k l : Key) → key_code k ≡ key_code l → k ≡ l
unfolding key_code
code_one k l e = λ i. record {
  x = coded_one k.x l.x (ap (λ (c : Code). c.x) e) i;
  y = coded_one k.y l.y (ap (λ (c : Code). c.y) e) i;
  z = coded_one k.z l.z (ap (λ (c : Code). c.z) e) i;
}

-- the code of a normal's key has room in three words
pub normal_fits : (nx ny nz : Float) → narrow.Fits (key_code (normal_key nx ny nz))
unfolding key_code normal_key
normal_fits nx ny nz = (tenths_small nx, tenths_small ny, tenths_small nz)
