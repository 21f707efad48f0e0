-- The areas: row by row they are scaled, the first is the largest, and the least above 1e-6 is taken along. Assumes nothing.
use mathlib.Core.Path.{◌≡◌, refl, sym, ap, ◌∙◌}
use mathlib.Core.Bool.{true, false}
use mathlib.Core.List.{List, [], ◌∷◌}
use Prim.Native.Nat.{ℕ, zero, suc, ◌+◌, ◌≤◌, ◌<◌}
use native.Mathlib.Numerals.{add-one}
use native.Mathlib.Omega.{arith}
use lib.Ieee.{Float, nan, inf, lt}
use lib.ListN.{length, get_or, drop, set}
use lib.Seq.{drop-cons}
use Rattle.ieee.specs.Order.{least}
use Rattle.ieee.specs.Single.{nought}
use Rattle.rows.specs.declared.PlanarSurface.{PlanarSurface}
use Rattle.rows.specs.Rows.{rows_of, scaled, scaled_row, largest, noise, less_above, least_above, smallest}
use Rattle.rows.specs.Sorting.{no_row, row_at}

pub length_scaled : (by : Float) (l : List PlanarSurface) → length (scaled by l) ≡ length l
unfolding scaled
length_scaled by [] = refl
length_scaled by (r ∷ l) = ap suc (length_scaled by l)

-- ---- the first i rows scaled

unfoldable pub scaled_to : Float → ℕ → List PlanarSurface → List PlanarSurface
scaled_to by zero l = l
scaled_to by (suc i) [] = []
scaled_to by (suc i) (r ∷ l) = scaled_row by r ∷ scaled_to by i l

scaled_suc : (by : Float) (i : ℕ) (l : List PlanarSurface) → i < length l
    → set (scaled_to by i l) i (scaled_row by (row_at (scaled_to by i l) i)) ≡ scaled_to by (suc i) l
unfolding scaled_to
scaled_suc by i [] h = absurd (omega arith)
scaled_suc by zero (r ∷ l) h = refl
scaled_suc by (suc i) (r ∷ l) h = ap (λ (m : List PlanarSurface). scaled_row by r ∷ m) (scaled_suc by i l (omega arith))

pub scaled_next : (by : Float) (i : ℕ) (l m u : List PlanarSurface) → i < length l → m ≡ scaled_to by i l
    → u ≡ set m i (scaled_row by (row_at m i)) → u ≡ scaled_to by (i + 1) l
scaled_next by i l m u h e q =
    q ∙ ap (λ (x : List PlanarSurface). set x i (scaled_row by (row_at x i))) e ∙ scaled_suc by i l h ∙ rw (add-one i)

pub scaled_all : (by : Float) (i : ℕ) (l : List PlanarSurface) → length l ≤ i → scaled_to by i l ≡ scaled by l
unfolding scaled_to scaled
scaled_all by zero [] h = refl
scaled_all by (suc i) [] h = refl
scaled_all by zero (r ∷ l) h = absurd (omega arith)
scaled_all by (suc i) (r ∷ l) h = ap (λ (m : List PlanarSurface). scaled_row by r ∷ m) (scaled_all by i l (omega arith))

pub scaled_none : (by : Float) (l : List PlanarSurface) → l ≡ scaled_to by 0 l
unfolding scaled_to
scaled_none by l = refl

-- ---- the largest

pub largest_none : (t : List Float) → length t ≡ 0 → largest (rows_of t) ≡ nought
unfolding rows_of largest
largest_none [] h = refl
largest_none (a ∷ t) h = absurd (omega arith)

pub largest_first : (t : List Float) → 4 ≤ length t → largest (rows_of t) ≡ get_or t 0 nan
unfolding rows_of largest
largest_first [] h = absurd (omega arith)
largest_first (a ∷ []) h = absurd (omega arith)
largest_first (a ∷ x ∷ []) h = absurd (omega arith)
largest_first (a ∷ x ∷ y ∷ []) h = absurd (omega arith)
largest_first (a ∷ x ∷ y ∷ z ∷ t) h = refl

-- ---- the smallest

pub less_taken : (m a : Float) → lt noise a ≡ true → least m a ≡ less_above m a
less_taken m a h = rw h

pub less_kept : (m a : Float) → lt noise a ≡ false → m ≡ less_above m a
less_kept m a h = rw h

pub least_next : (m a : Float) (i : ℕ) (l : List PlanarSurface) → i < length l → (row_at l i).area ≡ a
    → least_above (less_above m a) (drop (i + 1) l) ≡ least_above m (drop i l)
unfolding least_above
least_next m a i l h e =
    rw (add-one i) (sym (ap (least_above m) (drop-cons l i no_row h) ∙ ap (λ (x : Float). least_above (less_above m x) (drop (suc i) l)) e))

pub least_end : (m : Float) (i : ℕ) (l : List PlanarSurface) → length l ≤ i → least_above m (drop i l) ≡ m
unfolding least_above
least_end m zero [] h = refl
least_end m (suc i) [] h = refl
least_end m zero (r ∷ l) h = absurd (omega arith)
least_end m (suc i) (r ∷ l) h = least_end m i l (omega arith)

pub smallest_least : (l : List PlanarSurface) (m : Float) → m ≡ least_above (inf false) l → lt m (inf false) ≡ true → m ≡ smallest l
unfolding smallest
smallest_least l m e h = rw (← e, h)

pub smallest_none : (l : List PlanarSurface) (m : Float) → m ≡ least_above (inf false) l → lt m (inf false) ≡ false → nought ≡ smallest l
unfolding smallest
smallest_none l m e h = rw (← e, h)
