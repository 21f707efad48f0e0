-- A search for a code starts at a slot; and tests by what they say. Assumes nothing.
use mathlib.Core.Path.{◌≡◌, refl}
use mathlib.Core.Logic.{◌≢◌}
use mathlib.Core.Bool.{Bool, true, false, ◌&&◌}
use Prim.Native.Nat.{ℕ, ◌*◌, ◌<◌}
use native.Mathlib.Omega.{arith}
use borrow.Author.Tests.{eqb-true}
use lib.Dec.{eqb}
use Rattle.ids.proofs.Same.{three_eq, three_refl, eqb_refl, same_ne}
use Rattle.table.proofs.Search.{home_below}
use Rattle.slots.specs.declared.Code.{Code}
use Rattle.slots.specs.inner.Slots.{code_hash, code_home}

-- the test of two codes that a derive writes is equality
abbrev pub same_code : Code → Code → Bool
same_code a b = eqb a.x b.x && (eqb a.y b.y && eqb a.z b.z)

pub code_eq : (a b : Code) → same_code a b ≡ true → a ≡ b
code_eq a b h = three_eq eqb eqb-true (λ x y z. record { x = x; y = y; z = z }) h

pub code_ne : (a b : Code) → same_code a b ≡ false → a ≢ b
code_ne a b = same_ne same_code (λ k. three_refl eqb eqb_refl k.x k.y k.z) a b

pub home_in_lem : (n : ℕ) (k : Code) → 0 < n → code_home n k < 2 * n
unfolding code_home code_hash
home_in_lem n k some = home_below (2 * n) (code_hash k) (omega arith) (omega arith)

-- ---- tests, by what they say

pub by : {P : Type 0} (b : Bool) → (b ≡ true → P) → (b ≡ false → P) → P
by true f g = f refl
by false f g = g refl
