-- A cell as three numbers: one to one, so that equal codes are equal cells. Assumes nothing.
use mathlib.Core.Path.{◌≡◌, refl, ap}
use mathlib.Core.Bool.{true, false≢true}
use native.Mathlib.Omega.{arith}
use borrow.Author.Tests.{eqb-true, eq-eqb}
use lib.IntN.{ℤ, pos, negsuc}
use Rattle.ids.proofs.Same.{three_eq, three_refl}
use Rattle.slots.specs.declared.Code.{Code}
use Rattle.cells.specs.Cells.{Cell, same_cell}
use Rattle.ieee.specs.SameInteger.{same_integer}
use Rattle.cells.specs.inner.Table.{coded, cell_code}

-- ---- one to one

pub coded_one : (a b : ℤ) → coded a ≡ coded b → a ≡ b
unfolding coded
coded_one (pos m) (pos n) e = ap pos (omega arith)
coded_one (pos m) (negsuc n) e = absurd (omega arith)
coded_one (negsuc m) (pos n) e = absurd (omega arith)
coded_one (negsuc m) (negsuc n) e = ap negsuc (omega arith)

pub code_one : (a b : Cell) → cell_code a ≡ cell_code b → a ≡ b
code_one a b e = λ i. record {
  x = coded_one a.x b.x (ap (λ (c : Code). c.x) e) i;
  y = coded_one a.y b.y (ap (λ (c : Code). c.y) e) i;
  z = coded_one a.z b.z (ap (λ (c : Code). c.z) e) i;
}

-- ---- `same_cell` is equality

pub integer_eq : (a b : ℤ) → same_integer a b ≡ true → a ≡ b
unfolding same_integer
integer_eq (pos m) (pos n) h = ap pos (eqb-true m n h)
integer_eq (pos m) (negsuc n) h = absurd (false≢true h)
integer_eq (negsuc m) (pos n) h = absurd (false≢true h)
integer_eq (negsuc m) (negsuc n) h = ap negsuc (eqb-true m n h)

pub integer_refl : (a : ℤ) → same_integer a a ≡ true
unfolding same_integer
integer_refl (pos n) = eq-eqb n n refl
integer_refl (negsuc n) = eq-eqb n n refl

pub cell_eq : (a b : Cell) → same_cell a b ≡ true → a ≡ b
unfolding same_cell
cell_eq a b h = three_eq same_integer integer_eq (λ x y z. record { x = x; y = y; z = z }) h

pub cell_refl : (a : Cell) → same_cell a a ≡ true
unfolding same_cell
cell_refl a = three_refl same_integer integer_refl a.x a.y a.z
