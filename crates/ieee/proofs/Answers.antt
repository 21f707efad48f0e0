-- The contracts of `floats` leave one answer each. Assumes nothing.
use mathlib.Core.Path.{◌≡◌, sym, ◌∙◌}
use Prim.Native.Nat.{ℕ}
use lib.Ieee.{Format}
use Rattle.ieee.specs.Answers.{OneAnswer}
use Rattle.ieee.specs.Magnitude.{SignCleared}

pub equation_one : (A : Type 0) (d : A) → OneAnswer A (λ r. r ≡ d)
equation_one A d r r' h k = h ∙ sym k

pub sign_cleared_one : (f : Format) (b : ℕ) → OneAnswer ℕ (SignCleared f b)
sign_cleared_one f b r r' h k = h.digits ∙ sym k.digits
