-- A word with another parent or another slot: the other number, and the other words, stay. Assumes nothing.
use mathlib.Core.Path.{◌≡◌, sym, subst}
use mathlib.Core.Logic.{◌≢◌}
use mathlib.Core.List.{List}
use Prim.Native.Nat.{ℕ, ◌+◌, ◌*◌, ◌%◌, ◌<◌}
use native.Mathlib.Omega.{arith}
use native.Mathlib.Decide.{ℕ_discrete}
use lib.ListN.{length, get_or, set}
use lib.Seq.{get_or-set_same, get_or-set_other}
use Rattle.forest.specs.inner.Words.{parent_in, held_in, with_parent, with_slot, Planted, Freed}

module _ (t : List ℕ) (i p : ℕ) (inside : i < length t) (small : p < 32768) where
  pub parent_here : parent_in (with_parent t i p) i ≡ p
  parent_here = omega (arith, get_or-set_same t i (held_in t i * 32768 + p) 0 inside)

  pub parent_else : (j : ℕ) → j ≢ i → parent_in (with_parent t i p) j ≡ parent_in t j
  parent_else j n = omega (arith, get_or-set_other t i j (held_in t i * 32768 + p) 0 n)

  pub slots_stay : (j : ℕ) → held_in (with_parent t i p) j ≡ held_in t j
  slots_stay j = go (ℕ_discrete j i)
    where
      go : Dec (j ≡ i) → held_in (with_parent t i p) j ≡ held_in t j
      go (yes e) = rw e (omega (arith, get_or-set_same t i (held_in t i * 32768 + p) 0 inside))
      go (no n) = omega (arith, get_or-set_other t i j (held_in t i * 32768 + p) 0 n)

module _ (t : List ℕ) (i s : ℕ) (inside : i < length t) where
  pub slot_here : held_in (with_slot t i s) i ≡ s
  slot_here = omega (arith, get_or-set_same t i (s * 32768 + parent_in t i) 0 inside)

  pub slot_else : (j : ℕ) → j ≢ i → held_in (with_slot t i s) j ≡ held_in t j
  slot_else j n = omega (arith, get_or-set_other t i j (s * 32768 + parent_in t i) 0 n)

  pub parents_stay : (j : ℕ) → parent_in (with_slot t i s) j ≡ parent_in t j
  parents_stay j = go (ℕ_discrete j i)
    where
      go : Dec (j ≡ i) → parent_in (with_slot t i s) j ≡ parent_in t j
      go (yes e) = rw e (omega (arith, get_or-set_same t i (s * 32768 + parent_in t i) 0 inside))
      go (no n) = omega (arith, get_or-set_other t i j (s * 32768 + parent_in t i) 0 n)

-- one word more planted, and one slot more freed
pub plant_next : (t : List ℕ) (i : ℕ) → i < length t → i < 32768 → Planted i t → Planted (i + 1) (set t i i)
plant_next t i l small p =
    record {
      parents = λ j lt. elim (ℕ_discrete j i) [
        | yes e ↦ subst (λ (k : ℕ). parent_in (set t i i) k ≡ k) (sym e) (omega (arith, get_or-set_same t i i 0 l))
        | no n ↦ omega (arith, get_or-set_other t i j i 0 n, p.parents j (omega arith))
      ];
      slots = λ j lt. elim (ℕ_discrete j i) [
        | yes e ↦ rw e (omega (arith, get_or-set_same t i i 0 l))
        | no n ↦ omega (arith, get_or-set_other t i j i 0 n, p.slots j (omega arith))
      ];
    }

pub free_next : (s t : List ℕ) (i : ℕ) → i < length t → Freed i s t → Freed (i + 1) s (set t i (get_or t i 0 % 32768))
free_next s t i l p =
    record {
      parents = λ j. elim (ℕ_discrete j i) [
        | yes e ↦ rw e (omega (arith, get_or-set_same t i (get_or t i 0 % 32768) 0 l, p.parents i))
        | no n ↦ omega (arith, get_or-set_other t i j (get_or t i 0 % 32768) 0 n, p.parents j)
      ];
      slots = λ j lt. elim (ℕ_discrete j i) [
        | yes e ↦ rw e (omega (arith, get_or-set_same t i (get_or t i 0 % 32768) 0 l))
        | no n ↦ omega (arith, get_or-set_other t i j (get_or t i 0 % 32768) 0 n, p.slots j (omega arith))
      ];
    }
