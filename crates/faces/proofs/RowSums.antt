-- What a row adds to the two numbers of `net`, by the magnitude that its word counts: so the code need not ask whether the row is free.
-- Assumes nothing.
use mathlib.Core.Path.{◌≡◌, refl}
use mathlib.Core.List.{List}
use Prim.Native.Nat.{ℕ, zero, suc, ◌≤◌}
use native.Mathlib.Omega.{arith}
use borrow.Author.Tests.{lt-ltb, ne_eqb}
use lib.Dec.{ltb}
use Rattle.ids.specs.Uses.{bit}
use Rattle.ids.specs.EdgeChain.{unbalanced}
use Rattle.table.specs.inner.Counts.{sum_size}
use Rattle.table.specs.inner.Table.{gate}
use Rattle.table.proofs.Counts.{ups_within}
use Rattle.faces.specs.inner.Rows.{face_word, face_uses, face_ups, row_off, row_size}

-- a free row has magnitude 0
gated : (c u : ℕ) → u ≤ c → gate c (sum_size c u) ≡ sum_size c u
unfolding gate sum_size
gated zero u l = omega arith
gated (suc c) u l = refl

counted_off : (c s : ℕ) → gate c (bit (unbalanced c s)) ≡ bit (ltb 0 (gate c s))
unfolding gate unbalanced bit
counted_off zero s = refl
counted_off (suc c) zero = refl
counted_off (suc c) (suc s) = rw (lt-ltb 0 (suc s) (omega arith), ne_eqb (suc s) 0 (λ z. omega arith))

module _ (t : List ℕ) (i : ℕ) where
  pub row_size_lem : row_size t i ≡ sum_size (face_uses t i) (face_ups t i)
  unfolding row_size
  row_size_lem = gated (face_uses t i) (face_ups t i) (ups_within (face_word t i))

  pub row_off_lem : row_off t i ≡ bit (ltb 0 (row_size t i))
  unfolding row_size row_off
  row_off_lem = counted_off (face_uses t i) (sum_size (face_uses t i) (face_ups t i))
