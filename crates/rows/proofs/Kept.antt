-- A row of one list is in every list that has the same rows: for a test that only this row passes, of plain rows of binary32, passes on as
-- many rows there. Assumes nothing.
use mathlib.Core.Path.{◌≡◌, refl, ap}
use mathlib.Core.Bool.{Bool, true, false, not, ◌&&◌, false≢true}
use mathlib.Core.List.{List, [], ◌∷◌}
use Prim.Native.Nat.{ℕ, zero, suc, ◌<◌}
use native.Mathlib.Omega.{arith}
use lib.Dec.{T}
use lib.ListN.{length}
use Rattle.rows.specs.declared.PlanarSurface.{PlanarSurface}
use Rattle.rows.specs.Rows.{precedes}
use Rattle.rows.specs.Plain.{all_plain}
use Rattle.rows.specs.Sorting.{row_at, passing, SameRows, all_single}
use Rattle.rows.proofs.Counts.{one}
use Rattle.rows.proofs.Comparing.{precedes_self, one_row}
use Rattle.rows.proofs.Order.{plain_same, single_same, plain_at, single_at}

-- ---- a test that some row passes

at_some : (p : PlanarSurface → Bool) (l : List PlanarSurface) (i : ℕ) → i < length l → p (row_at l i) ≡ true → 0 < passing p l
unfolding passing
at_some p [] i h e = absurd (omega arith)
at_some p (r ∷ l) zero h e = rw e (omega arith)
at_some p (r ∷ l) (suc i) h e = omega (arith, at_some p l i (omega arith) e)

some_at : (p : PlanarSurface → Bool) (l : List PlanarSurface) → 0 < passing p l → (j : ℕ) × (j < length l) × (p (row_at l j) ≡ true)
unfolding passing
some_at p [] h = absurd (omega arith)
some_at p (r ∷ l) h = go (p r) refl (λ n. some_at p l n)
  where
    go : (b : Bool) → p r ≡ b → (0 < passing p l → (j : ℕ) × (j < length l) × (p (row_at l j) ≡ true))
        → (j : ℕ) × (j < suc (length l)) × (p (row_at (r ∷ l) j) ≡ true)
    go true e rest = (0, omega arith, e)
    go false e rest =
        let k = rest (omega (arith, ap one e)) in
        (suc k.0, omega (arith, k.1), k.2)

-- ---- neither of two rows precedes the other

abreast : PlanarSurface → PlanarSurface → Bool
abreast r s = not (precedes r s) && not (precedes s r)

not_both : (a b : Bool) → (not a && not b) ≡ true → (a ≡ false) × (b ≡ false)
not_both true b h = absurd (false≢true h)
not_both false true h = absurd (false≢true h)
not_both false false h = (refl, refl)

pub row_kept : (l m : List PlanarSurface) → T (all_plain l) → T (all_single l) → SameRows l m → (i : ℕ) → i < length l
    → (j : ℕ) × (j < length m) × (row_at m j ≡ row_at l i)
unfolding abreast
row_kept l m a f s i h =
    let r = row_at l i in
    let here : abreast r r ≡ true = rw (precedes_self r) in
    let found = some_at (abreast r) m (rw (s.counted (abreast r)) (at_some (abreast r) l i h here)) in
    let j = found.0 in
    let even = not_both (precedes r (row_at m j)) (precedes (row_at m j) r) found.2 in (
      j,
      found.1,
      one_row (row_at m j) r (plain_at m j found.1 (plain_same l m s a)) (plain_at l i h a)
          (single_at m j found.1 (single_same l m s f)) (single_at l i h f) even.1 even.0,
    )
