-- The floats in fours: arrays of four are the rows, and a part of the floats that begins and ends between rows may change by itself.
-- Assumes nothing.
use Rattle.std.proofs.Common.{◌≡◌, refl, ap, subst, ◌∙◌, List, [], ◌∷◌, ◌++◌, ℕ, zero, suc, ◌+◌, ◌-◌, ◌*◌, ◌/◌, ◌≤◌, ◌<◌, length, set, take, drop, get_or, slice_get, Float, arith, take-append-drop, length-append, length-drop, length-take-le, take_all, drop_of_length-le, append-nil, Bool}
use Rattle.std.specs.Option.{unwrap_or}
use Rattle.std.specs.List.{fold}
use Rattle.std.specs.Simd.{first_chunks}
use Rattle.std.specs.Float.{nan}
use borrow.Rule.Slice.PartMut.{put_mid}
use Rattle.ieee.specs.Single.{◌⊗◌, nought}
use Rattle.rows.specs.declared.PlanarSurface.{PlanarSurface}
use Rattle.rows.specs.Rows.{rows_of, Whole, scaled_row, largest, less_above, least_above}
use Rattle.rows.specs.Sorting.{row_at, passing, SameRows}
use Rattle.rows.specs.inner.Passes.{Keeps, least_four}
use Rattle.rows.proofs.Flat.{length_rows}
use Rattle.rows.proofs.Counts.{same_rows}

-- as many rows as there are whole fours
pub rows_quarter : (t : List Float) → length t / 4 ≡ length (rows_of t)
rows_quarter t = let h = length_rows t in omega (arith, h.0, h.1)

pub whole_of : (t : List Float) (n : ℕ) → length t ≡ 4 * n → Whole t
whole_of t n h = let l = length_rows t in omega (arith, l.0, l.1)

-- ---- arrays of four

pub row_of_four : (t : List Float) (j k : ℕ) → j < k → 4 * k ≤ length t
    → record {
      area = get_or (get_or (first_chunks 4 k t) j []) 0 nan;
      nx = get_or (get_or (first_chunks 4 k t) j []) 1 nan;
      ny = get_or (get_or (first_chunks 4 k t) j []) 2 nan;
      nz = get_or (get_or (first_chunks 4 k t) j []) 3 nan;
    } ≡ row_at (rows_of t) j
unfolding rows_of
row_of_four [] j k h l = absurd (omega arith)
row_of_four (a ∷ []) j k h l = absurd (omega arith)
row_of_four (a ∷ x ∷ []) j k h l = absurd (omega arith)
row_of_four (a ∷ x ∷ y ∷ []) j k h l = absurd (omega arith)
row_of_four (a ∷ x ∷ y ∷ z ∷ t) j zero h l = absurd (omega arith)
row_of_four (a ∷ x ∷ y ∷ z ∷ t) zero (suc k) h l = refl
row_of_four (a ∷ x ∷ y ∷ z ∷ t) (suc j) (suc k) h l = row_of_four t j k (omega arith) (omega arith)

-- the least of m and the areas above 1e-6, array by array
pub least_fours : (m : Float) (t : List Float) (k : ℕ) → length (rows_of t) ≡ k → fold least_four m (first_chunks 4 k t) ≡ least_above m (rows_of t)
unfolding rows_of least_above
least_fours m [] zero h = refl
least_fours m (a ∷ []) zero h = refl
least_fours m (a ∷ x ∷ []) zero h = refl
least_fours m (a ∷ x ∷ y ∷ []) zero h = refl
least_fours m (a ∷ x ∷ y ∷ z ∷ t) zero h = absurd (omega arith)
least_fours m [] (suc k) h = absurd (omega arith)
least_fours m (a ∷ []) (suc k) h = absurd (omega arith)
least_fours m (a ∷ x ∷ []) (suc k) h = absurd (omega arith)
least_fours m (a ∷ x ∷ y ∷ []) (suc k) h = absurd (omega arith)
least_fours m (a ∷ x ∷ y ∷ z ∷ t) (suc k) h = least_fours (less_above m a) t k (omega arith)

-- ---- a row is written

next_0 : (j : ℕ) → 4 * suc j ≡ suc (suc (suc (suc (4 * j))))
next_0 j = omega arith

pub scaled_at : (by : Float) (t : List Float) (j : ℕ) → 4 * j + 4 ≤ length t
    → rows_of (set t (4 * j) (get_or t (4 * j) nan ⊗ by)) ≡ set (rows_of t) j (scaled_row by (row_at (rows_of t) j))
unfolding rows_of
scaled_at by [] j h = absurd (omega arith)
scaled_at by (a ∷ []) j h = absurd (omega arith)
scaled_at by (a ∷ x ∷ []) j h = absurd (omega arith)
scaled_at by (a ∷ x ∷ y ∷ []) j h = absurd (omega arith)
scaled_at by (a ∷ x ∷ y ∷ z ∷ t) zero h = refl
scaled_at by (a ∷ x ∷ y ∷ z ∷ t) (suc j) h =
    rw (next_0 j)
    (ap (λ (l : List PlanarSurface). record { area = a; nx = x; ny = y; nz = z } ∷ l) (scaled_at by t j (omega arith)))

-- ---- the first row's area

pub largest_of_first : (t : List Float) → Whole t → unwrap_or (slice_get t 0) nought ≡ largest (rows_of t)
unfolding rows_of largest
largest_of_first [] h = refl
largest_of_first (a ∷ []) h = absurd (omega arith)
largest_of_first (a ∷ x ∷ []) h = absurd (omega arith)
largest_of_first (a ∷ x ∷ y ∷ []) h = absurd (omega arith)
largest_of_first (a ∷ x ∷ y ∷ z ∷ t) h = refl

-- ---- a part changes

rows_join : (n : ℕ) (t u : List Float) → length t ≡ 4 * n → rows_of (t ++ u) ≡ rows_of t ++ rows_of u
unfolding rows_of
rows_join n [] u h = refl
rows_join n (a ∷ []) u h = absurd (omega arith)
rows_join n (a ∷ x ∷ []) u h = absurd (omega arith)
rows_join n (a ∷ x ∷ y ∷ []) u h = absurd (omega arith)
rows_join n (a ∷ x ∷ y ∷ z ∷ t) u h =
    ap (λ (l : List PlanarSurface). record { area = a; nx = x; ny = y; nz = z } ∷ l) (rows_join (n - 1) t u (omega arith))

passing_join : (p : PlanarSurface → Bool) (l m : List PlanarSurface) → passing p (l ++ m) ≡ passing p l + passing p m
unfolding passing
passing_join p [] m = omega arith
passing_join p (r ∷ l) m = omega (arith, passing_join p l m)

same_join : {l l' m m' : List PlanarSurface} → SameRows l l' → SameRows m m' → SameRows (l ++ m) (l' ++ m')
same_join {l} {l'} {m} {m'} a b =
    record {
      long = omega (arith, length-append l m, length-append l' m', a.long, b.long);
      counted = λ p. omega (arith, passing_join p l m, passing_join p l' m', a.counted p, b.counted p);
    }

-- what is in front of a row, and what stays, joined
keeps_both : (n : ℕ) (t u v w : List Float) → length t ≡ 4 * n → length v ≡ 4 * n → Keeps t v → Keeps u w → Keeps (t ++ u) (v ++ w)
keeps_both n t u v w h k a b = rw (rows_join n t u h, rows_join n v w k) (same_join a b)

pub keeps_front : (n m : ℕ) (t u : List Float) → m ≡ 4 * n → m ≤ length t → length u ≡ m → Keeps (take m t) u → Keeps t (u ++ drop m t)
keeps_front n m t u e h l k =
    subst (λ (x : List Float). Keeps x (u ++ drop m t)) (take-append-drop m t)
    (keeps_both n (take m t) (drop m t) u (drop m t) (length-take-le m t h ∙ e) (l ∙ e) k same_rows)

keeps_rest : (n m : ℕ) (t u : List Float) → m ≡ 4 * n → m ≤ length t → Keeps (drop m t) u → Keeps t (take m t ++ u)
keeps_rest n m t u e h k =
    subst (λ (x : List Float). Keeps x (take m t ++ u)) (take-append-drop m t)
    (keeps_both n (take m t) (drop m t) (take m t) u (length-take-le m t h ∙ e) (length-take-le m t h ∙ e) same_rows k)

pub keeps_back : (n m : ℕ) (t u : List Float) → m ≡ 4 * n → m ≤ length t → Keeps (take (length t - m) (drop m t)) u
    → Keeps t (put_mid m (length t - m) t u)
keeps_back n m t u e h k =
    let long : length (drop m t) ≡ length t - m = length-drop m t in
    let all : take (length t - m) (drop m t) ≡ drop m t = take_all (length t - m) (drop m t) (omega arith) in
    let none : drop (length t - m) (drop m t) ≡ [] = drop_of_length-le (drop m t) (omega arith) in
    rw (none, append-nil u) (keeps_rest n m t u e h (subst (λ (x : List Float). Keeps x u) all k))
