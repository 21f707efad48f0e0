-- Rows changed one by one: a test passes on as many changed rows as the test of a row's change does on rows. So lists with the same rows
-- have the same rows when changed, and a change that keeps the order can come before the sort or after it. Assumes nothing.
use mathlib.Core.Path.{◌≡◌, refl, sym, ap, ◌∙◌, subst}
use mathlib.Core.Bool.{Bool, true, false, ◌&&◌}
use mathlib.Core.List.{List, [], ◌∷◌}
use Prim.Native.Nat.{ℕ, zero, suc, ◌+◌, ◌<◌}
use native.Mathlib.Omega.{arith}
use lib.Dec.{T}
use lib.Ieee.{Float, binary32, fits}
use lib.Ieee.Fits.{and_i, and_l, and_r}
use lib.ListN.{length}
use Rattle.rows.specs.declared.PlanarSurface.{PlanarSurface}
use Rattle.rows.specs.Rows.{precedes, sorted}
use Rattle.rows.specs.Plain.{plain_float, plain_row, all_plain}
use Rattle.rows.specs.Sorting.{row_at, passing, SameRows, InOrder, single_row, all_single}
use Rattle.rows.proofs.Counts.{one, same_then}
use Rattle.rows.proofs.Order.{sorted_same, plain_same, sorted_in_order, sorted_one}

-- lists with the same rows are one when sorted
pub sorted_alike : (l m : List PlanarSurface) → T (all_plain l) → T (all_single l) → SameRows l m → sorted m ≡ sorted l
sorted_alike l m a f s = sorted_one l (sorted m) a f (same_then s (sorted_same m)) (sorted_in_order m (plain_same l m s a))

-- gs changes each row by g
pub record RowByRow (g : PlanarSurface → PlanarSurface) (gs : List PlanarSurface → List PlanarSurface) : Type 0 where
  pub none : gs [] ≡ []
  pub next : (r : PlanarSurface) (l : List PlanarSurface) → gs (r ∷ l) ≡ g r ∷ gs l

module _ {g : PlanarSurface → PlanarSurface} {gs : List PlanarSurface → List PlanarSurface} (by : RowByRow g gs) where
  -- ---- lengths, rows, counts

  pub mapped_length : (l : List PlanarSurface) → length (gs l) ≡ length l
  mapped_length [] = rw by.none
  mapped_length (r ∷ l) = rw (by.next r l) (ap suc (mapped_length l))

  pub mapped_at : (l : List PlanarSurface) (i : ℕ) → i < length l → row_at (gs l) i ≡ g (row_at l i)
  mapped_at [] i h = absurd (omega arith)
  mapped_at (r ∷ l) zero h = rw (by.next r l)
  mapped_at (r ∷ l) (suc i) h = rw (by.next r l) (mapped_at l i (omega arith))

  mapped_counts : (p : PlanarSurface → Bool) (l : List PlanarSurface) → passing p (gs l) ≡ passing (λ r. p (g r)) l
  unfolding passing
  mapped_counts p [] = rw by.none
  mapped_counts p (r ∷ l) = rw (by.next r l) (ap (λ (n : ℕ). one (p (g r)) + n) (mapped_counts p l))

  pub mapped_same : {l m : List PlanarSurface} → SameRows l m → SameRows (gs l) (gs m)
  mapped_same {l} {m} s = record {
    long = mapped_length m ∙ s.long ∙ sym (mapped_length l);
    counted = λ p. mapped_counts p m ∙ s.counted (λ r. p (g r)) ∙ sym (mapped_counts p l);
  }

  -- ---- a test that the change keeps

  module _ (p : PlanarSurface → Bool) (all : List PlanarSurface → Bool) (end : all [] ≡ true)
      (step : (r : PlanarSurface) (l : List PlanarSurface) → all (r ∷ l) ≡ (p r && all l))
      (kept : (r : PlanarSurface) → T (p r) → T (p (g r))) where
    mapped_all : (l : List PlanarSurface) → T (all l) → T (all (gs l))
    mapped_all [] h = rw by.none h
    mapped_all (r ∷ l) h =
        let t = subst T (step r l) h in
        rw (by.next r l, step (g r) (gs l))
        (and_i (p (g r)) (all (gs l)) (kept r (and_l (p r) (all l) t)) (mapped_all l (and_r (p r) (all l) t)))

  pub mapped_plain : ((r : PlanarSurface) → T (plain_row r) → T (plain_row (g r))) → (l : List PlanarSurface) → T (all_plain l)
      → T (all_plain (gs l))
  unfolding all_plain
  mapped_plain = mapped_all plain_row all_plain refl (λ r l. refl)

  pub mapped_single : ((r : PlanarSurface) → T (single_row r) → T (single_row (g r))) → (l : List PlanarSurface) → T (all_single l)
      → T (all_single (gs l))
  unfolding all_single
  mapped_single = mapped_all single_row all_single refl (λ r l. refl)

  -- ---- sorted

  module _ (l : List PlanarSurface) (a : T (all_plain (gs l))) (f : T (all_single (gs l))) where
    -- whether they were sorted before does not matter
    pub sorted_mapped : sorted (gs (sorted l)) ≡ sorted (gs l)
    sorted_mapped = sorted_alike (gs l) (gs (sorted l)) a f (mapped_same (sorted_same l))

    -- where the change keeps the order, they need not be sorted again
    pub mapped_sorted : ((r s : PlanarSurface) → precedes r s ≡ false → precedes (g r) (g s) ≡ false) → T (all_plain l)
        → gs (sorted l) ≡ sorted (gs l)
    mapped_sorted kept b = sorted_one (gs l) (gs (sorted l)) a f (mapped_same (sorted_same l)) order
      where
        order : InOrder (gs (sorted l))
        order i j h k =
            let n : j < length (sorted l) = omega (arith, mapped_length (sorted l)) in
            rw (mapped_at (sorted l) i (omega arith), mapped_at (sorted l) j n)
            (kept (row_at (sorted l) j) (row_at (sorted l) i) (sorted_in_order l b i j h n))

-- ---- a change of the normal alone, each component by h

abbrev pub with_normal : (Float → Float) → PlanarSurface → PlanarSurface
with_normal h r = record { area = r.area; nx = h r.nx; ny = h r.ny; nz = h r.nz }

both : (a b c d : Bool) → (T a → T c) → (T b → T d) → T (a && b) → T (c && d)
both a b c d f g h = and_i c d (f (and_l a b h)) (g (and_r a b h))

-- a test of floats that h keeps
four : (h : Float → Float) (p : Float → Bool) → ((x : Float) → T (p x) → T (p (h x))) → (r : PlanarSurface)
    → T (p r.area && (p r.nx && (p r.ny && p r.nz))) → T (p r.area && (p (h r.nx) && (p (h r.ny) && p (h r.nz))))
four h p kept r =
    both (p r.area) _ (p r.area) _ (λ t. t)
    (both (p r.nx) _ (p (h r.nx)) _ (kept r.nx)
    (both (p r.ny) (p r.nz) (p (h r.ny)) (p (h r.nz)) (kept r.ny) (kept r.nz)))

module _ (h : Float → Float) {gs : List PlanarSurface → List PlanarSurface} (by : RowByRow (with_normal h) gs) where
  pub normals_plain : ((x : Float) → T (plain_float x) → T (plain_float (h x))) → (l : List PlanarSurface) → T (all_plain l)
      → T (all_plain (gs l))
  unfolding plain_row
  normals_plain kept = mapped_plain by (four h plain_float kept)

  pub normals_single : ((x : Float) → T (fits binary32 x) → T (fits binary32 (h x))) → (l : List PlanarSurface) → T (all_single l)
      → T (all_single (gs l))
  normals_single kept = mapped_single by (four h (fits binary32) kept)
