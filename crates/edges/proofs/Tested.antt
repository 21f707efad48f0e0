-- What each test says of an edge, as the code asks it without a branch: two uses of an edge have the sum 0 just where one of them is
-- upwards. Assumes nothing.
use mathlib.Core.Path.{◌≡◌, refl}
use mathlib.Core.Bool.{Bool, not, ◌&&◌}
use Prim.Native.Nat.{ℕ, zero, suc, ◌+◌}
use native.Mathlib.Decide.{ℕ_discrete}
use native.Mathlib.Omega.{arith}
use borrow.Author.Tests.{eq-eqb, ne_eqb, lt-ltb}
use lib.Dec.{eqb, ltb}
use Rattle.ids.specs.Uses.{bit}
use Rattle.ids.specs.EdgeChain.{present, unbalanced, crowded, unpaired, incoherent}
use Rattle.table.specs.inner.Counts.{sum_size}
use Rattle.table.specs.inner.Table.{gate}
use Rattle.table.proofs.Probe.{gate_zero, gate_pos}
use Rattle.edges.specs.inner.Tests.{use_bit}

-- ---- of n uses, u of them upwards

pub present_bit : (n u : ℕ) → bit (ltb 0 n) ≡ use_bit present n u
unfolding use_bit gate present bit
present_bit zero u = refl
present_bit (suc n) u = rw (lt-ltb 0 (suc n) (omega arith)) refl

pub crowded_bit : (n u : ℕ) → bit (ltb 2 n) ≡ use_bit crowded n u
unfolding use_bit gate crowded bit
crowded_bit zero u = refl
crowded_bit (suc n) u = refl

pub unbalanced_bit : (u d : ℕ) → bit (not (eqb u d)) ≡ use_bit unbalanced (u + d) u
unfolding use_bit unbalanced bit sum_size
unbalanced_bit u d = elim (ℕ_discrete u d) [
  | yes e ↦ rw (eq-eqb u d e, eq-eqb (sum_size (u + d) u) 0 (omega arith), gate_zero) refl
  | no n ↦ rw (
    gate_pos (u + d) (bit (not (eqb (sum_size (u + d) u) 0))) (omega arith),
    ne_eqb u d n,
    ne_eqb (sum_size (u + d) u) 0 (λ z. omega arith),
  ) refl
]

-- used twice, once each way
abbrev paired : ℕ → ℕ → Bool
paired n u = eqb n 2 && eqb u 1

paired_sum : (n u : ℕ) → (eqb n 2 && eqb (sum_size n u) 0) ≡ paired n u
unfolding sum_size
paired_sum n u = go (ℕ_discrete n 2) (ℕ_discrete u 1)
  where
    go : Dec (n ≡ 2) → Dec (u ≡ 1) → (eqb n 2 && eqb (sum_size n u) 0) ≡ paired n u
    go (no m) d = rw (ne_eqb n 2 m) refl
    go (yes e) (yes q) = rw (eq-eqb n 2 e, eq-eqb u 1 q, eq-eqb (sum_size n u) 0 (omega arith)) refl
    go (yes e) (no q) = rw (eq-eqb n 2 e, ne_eqb u 1 q, ne_eqb (sum_size n u) 0 (λ z. omega arith)) refl

pub unpaired_bit : (n u : ℕ) → bit (ltb 0 n && not (paired n u)) ≡ use_bit unpaired n u
unfolding use_bit gate unpaired bit
unpaired_bit zero u = refl
unpaired_bit (suc n) u = rw (paired_sum (suc n) u, lt-ltb 0 (suc n) (omega arith)) refl

pub incoherent_bit : (n u : ℕ) → bit (ltb 1 n && not (paired n u)) ≡ use_bit incoherent n u
unfolding use_bit gate incoherent bit
incoherent_bit zero u = refl
incoherent_bit (suc zero) u = refl
incoherent_bit (suc (suc n)) u =
    rw (paired_sum (suc (suc n)) u, lt-ltb 1 (suc (suc n)) (omega arith), ne_eqb (suc (suc n)) 1 (λ z. omega arith)) refl
