-- A row goes back among those in front of it, a gap at a time, which are in order: swap by swap only that row may precede the one a gap
-- in front of it, and its two neighbours are in order across it. When it stops, all are. No plainness is needed, for `precedes` holds one
-- way only. Assumes nothing.
use mathlib.Core.Path.{◌≡◌, refl, sym, subst}
use mathlib.Core.Bool.{true}
use mathlib.Core.List.{List}
use Prim.Native.Nat.{ℕ, ◌+◌, ◌-◌, ◌≤◌, ◌<◌}
use native.Mathlib.Decide.{ℕ_discrete}
use native.Mathlib.Omega.{arith}
use lib.Ieee.{Float}
use lib.ListN.{length}
use Rattle.rows.specs.declared.PlanarSurface.{PlanarSurface}
use Rattle.rows.specs.Rows.{rows_of, precedes}
use Rattle.rows.specs.Sorting.{row_at, SameRows, Behind}
use Rattle.rows.specs.inner.Passes.{Inside, Rising, swapped}
use Rattle.rows.proofs.Counts.{same_then, same_swapped, swapped_first, swapped_second, swapped_else}
use Rattle.rows.proofs.Comparing.{precedes_asym}
use Rattle.rows.proofs.Flat.{row_inside}

-- two rows have changed places
pub swap_keeps : (u : List Float) (i j : ℕ) {l m : List PlanarSurface} → SameRows l (rows_of u) → m ≡ swapped (rows_of u) i j → Inside i u
    → Inside j u → SameRows l m
swap_keeps u i j s e a b =
    same_then s (subst (SameRows (rows_of u)) (sym e) (same_swapped (rows_of u) i j (row_inside u i a) (row_inside u j b)))

-- rows 0 to i are rising, but for row j
pub record Sinking (gap : ℕ) (l : List PlanarSurface) (i j : ℕ) : Type 0 where
  pub apart : (k : ℕ) → k + gap ≤ i → (k + gap ≡ j → ⊥) → Behind l (k + gap) k
  pub across : (k : ℕ) → k + gap ≡ j → j + gap ≤ i → Behind l (j + gap) k

module _ (gap : ℕ) (some : 0 < gap) where
  pub sinking_start : {l : List PlanarSurface} {i : ℕ} → Rising gap i l → Sinking gap l i i
  sinking_start h = record { apart = λ k a n. h k (omega arith); across = λ k e a. absurd (omega arith) }

  pub sinking_end : {l : List PlanarSurface} {i j : ℕ} → Sinking gap l i j → (gap ≤ j → Behind l j (j - gap)) → Rising gap (i + 1) l
  sinking_end {l} {i} {j} s last k h = go (ℕ_discrete (k + gap) j)
    where
      go : Dec (k + gap ≡ j) → Behind l (k + gap) k
      go (yes e) =
          let d : j - gap ≡ k = omega arith in
          subst (λ (x : ℕ). Behind l (k + gap) x) d (subst (λ (x : ℕ). Behind l x (j - gap)) (sym e) (last (omega arith)))
      go (no n) = s.apart k (omega arith) n

  -- row j + gap precedes row j, and they change places
  module _ (l : List PlanarSurface) (i j : ℕ) (le : j + gap ≤ i) (room : i < length l) (s : Sinking gap l i (j + gap)) where
    abbrev after : List PlanarSurface
    after = swapped l j (j + gap)

    first : row_at after j ≡ row_at l (j + gap)
    first = swapped_first l j (j + gap) (omega arith) (omega arith) (omega arith)

    second : row_at after (j + gap) ≡ row_at l j
    second = swapped_second l j (j + gap) (omega arith) (omega arith)

    other : (k : ℕ) → (k ≡ j → ⊥) → (k ≡ j + gap → ⊥) → row_at after k ≡ row_at l k
    other = swapped_else l j (j + gap) (omega arith) (omega arith)

    sunk : precedes (row_at l (j + gap)) (row_at l j) ≡ true → Sinking gap after i j
    sunk e =
        record {
          apart = λ k a n. apart k a n (ℕ_discrete k j) (ℕ_discrete k (j + gap));
          across =
              λ k q a. rw (second, other k (omega arith) (omega arith))
              (subst (λ (x : ℕ). Behind l x k) q (s.apart k (omega arith) (omega arith)));
        }
      where
        apart : (k : ℕ) → k + gap ≤ i → (k + gap ≡ j → ⊥) → Dec (k ≡ j) → Dec (k ≡ j + gap) → Behind after (k + gap) k
        apart k a n (yes q) d =
            subst (λ (x : ℕ). Behind after (x + gap) x) (sym q)
            (rw (first, second) (precedes_asym (row_at l (j + gap)) (row_at l j) e))
        apart k a n (no m) (yes q) =
            subst (λ (x : ℕ). Behind after (x + gap) x) (sym q)
            (rw (second, other (j + gap + gap) (omega arith) (omega arith)) (s.across j refl (omega arith)))
        apart k a n (no m) (no o) = rw (other (k + gap) n (omega arith), other k m o) (s.apart k a (omega arith))

  pub sinking_step : {l u : List PlanarSurface} {i j : ℕ} → gap ≤ j → j ≤ i → i < length l → Sinking gap l i j
      → precedes (row_at l j) (row_at l (j - gap)) ≡ true → u ≡ swapped l (j - gap) j → Sinking gap u i (j - gap)
  sinking_step {l} {u} {i} {j} h le room s e q =
      let d : j ≡ j - gap + gap = omega arith in
      rw q (subst (λ (x : ℕ). Sinking gap (swapped l (j - gap) x) i (j - gap)) (sym d)
      (sunk l i (j - gap) (omega arith) room (subst (λ (x : ℕ). Sinking gap l i x) d s)
      (subst (λ (x : ℕ). precedes (row_at l x) (row_at l (j - gap)) ≡ true) d e)))
