-- The same rows, counted: a swap keeps the counts, and so does one after another; a test that no row passes fails on each. Assumes nothing.
use mathlib.Core.Path.{◌≡◌, refl, ap, ◌∙◌}
use mathlib.Core.Bool.{Bool, true, false, cond}
use mathlib.Core.List.{List, [], ◌∷◌}
use Prim.Native.Nat.{ℕ, zero, suc, ◌+◌, ◌<◌}
use native.Mathlib.Decide.{ℕ_discrete}
use native.Mathlib.Omega.{arith}
use lib.ListN.{length, set, length-set}
use lib.Seq.{get_or-set_same, get_or-set_other}
use Rattle.rows.specs.declared.PlanarSurface.{PlanarSurface}
use Rattle.rows.specs.Sorting.{no_row, row_at, passing, SameRows}
use Rattle.rows.specs.inner.Passes.{swapped}

abbrev pub one : Bool → ℕ
one b = cond b 1 0

pub same_rows : {l : List PlanarSurface} → SameRows l l
same_rows = record { long = refl; counted = λ p. refl }

pub same_then : {l m n : List PlanarSurface} → SameRows l m → SameRows m n → SameRows l n
same_then a b = record { long = b.long ∙ a.long; counted = λ p. b.counted p ∙ a.counted p }

-- ---- a row that is written, and two that change places

passing_set : (p : PlanarSurface → Bool) (l : List PlanarSurface) (i : ℕ) (r : PlanarSurface) → i < length l
    → passing p (set l i r) + one (p (row_at l i)) ≡ passing p l + one (p r)
unfolding passing
passing_set p [] i r h = absurd (omega arith)
passing_set p (s ∷ l) zero r h = omega arith
passing_set p (s ∷ l) (suc i) r h = omega (arith, passing_set p l i r (omega arith))

pub same_swapped : (l : List PlanarSurface) (i j : ℕ) → i < length l → j < length l → SameRows l (swapped l i j)
same_swapped l i j a b =
    record {
      long = length-set (set l i (row_at l j)) j (row_at l i) ∙ length-set l i (row_at l j);
      counted = λ p. omega (arith, passing_set p l i (row_at l j) a, second p, ap (λ (r : PlanarSurface). one (p r)) there);
    }
  where
    there : row_at (set l i (row_at l j)) j ≡ row_at l j
    there = elim (ℕ_discrete j i) [ yes e ↦ rw e (get_or-set_same l i (row_at l i) no_row a) | no n ↦ get_or-set_other l i j (row_at l j) no_row n ]

    second : (p : PlanarSurface → Bool)
        → passing p (swapped l i j) + one (p (row_at (set l i (row_at l j)) j)) ≡ passing p (set l i (row_at l j)) + one (p (row_at l i))
    second p = passing_set p (set l i (row_at l j)) j (row_at l i) (omega (arith, length-set l i (row_at l j)))

-- r and s were read, then written each in the other's place
pub swapped_by : (l : List PlanarSurface) (i j : ℕ) {m n : List PlanarSurface} {r s : PlanarSurface} → r ≡ row_at l i → s ≡ row_at l j
    → m ≡ set l i s → n ≡ set m j r → n ≡ swapped l i j
swapped_by l i j hr hs hm hn = rw (hn, hm, hr, hs)

module _ (l : List PlanarSurface) (i j : ℕ) (a : i < length l) (b : j < length l) where
  pub swapped_second : row_at (swapped l i j) j ≡ row_at l i
  swapped_second = get_or-set_same (set l i (row_at l j)) j (row_at l i) no_row (omega (arith, length-set l i (row_at l j)))

  pub swapped_first : (i ≡ j → ⊥) → row_at (swapped l i j) i ≡ row_at l j
  swapped_first n = get_or-set_other (set l i (row_at l j)) j i (row_at l i) no_row n ∙ get_or-set_same l i (row_at l j) no_row a

  pub swapped_else : (k : ℕ) → (k ≡ i → ⊥) → (k ≡ j → ⊥) → row_at (swapped l i j) k ≡ row_at l k
  swapped_else k n m = get_or-set_other (set l i (row_at l j)) j k (row_at l i) no_row m ∙ get_or-set_other l i k (row_at l j) no_row n

-- ---- a test that none passes

pub one_zero : (b : Bool) → one b ≡ 0 → b ≡ false
one_zero true h = absurd (omega arith)
one_zero false h = refl

pub none_first : (p : PlanarSurface → Bool) (r : PlanarSurface) (l : List PlanarSurface) → passing p (r ∷ l) ≡ 0
    → (p r ≡ false) × (passing p l ≡ 0)
unfolding passing
none_first p r l h = (one_zero (p r) (omega arith), omega arith)

pub none_both : (p : PlanarSurface → Bool) (r : PlanarSurface) (l : List PlanarSurface) → p r ≡ false → passing p l ≡ 0
    → passing p (r ∷ l) ≡ 0
unfolding passing
none_both p r l h k = rw (h, k)

pub none_at : (p : PlanarSurface → Bool) (l : List PlanarSurface) (i : ℕ) → i < length l → passing p l ≡ 0 → p (row_at l i) ≡ false
none_at p [] i h z = absurd (omega arith)
none_at p (r ∷ l) zero h z = (none_first p r l z).0
none_at p (r ∷ l) (suc i) h z = none_at p l i (omega arith) (none_first p r l z).1
