-- Loops over the columns of a row and over the rows of a box: what is painted so far, from the first on and below the next. Assumes
-- nothing.
use mathlib.Core.Path.{◌≡◌, refl, sym, ap, ◌∙◌}
use mathlib.Core.Bool.{Bool, true, false, ◌&&◌, ◌||◌, and-true, and-false}
use mathlib.Core.List.{List}
use Prim.Native.Nat.{ℕ, ◌+◌, ◌*◌, ◌/◌, ◌%◌, ◌≤◌, ◌<◌, max}
use native.Mathlib.Omega.{arith}
use native.Mathlib.Nat.{div-eq_of_lt-le, mul-add-mod_self_right, mod-eq_of_lt, div-add-mod', mul-le-mul_right}
use native.Mathlib.Decide.{ℕ_discrete, dec_lt}
use lib.Dec.{leb, ltb, eqb}
use lib.ListN.{length, get_or, set}
use lib.Ieee.{Float}
use borrow.Author.Tests.{lt-ltb, le-ltb, le-leb, lt-leb, eq-eqb, ne_eqb, eqb-true}
use Rattle.grid.specs.declared.Flat.{Flat}
use Rattle.grid.specs.declared.Grid.{Grid}
use Rattle.grid.specs.Point.{place, place_number}
use Rattle.grid.specs.Grid.{centre_of, cells}
use Rattle.paint.specs.Covered.{between, centre_lies}
use Rattle.paint.specs.inner.Painted.{only_if, centre_number, Adds}
use Rattle.paint.proofs.Painting.{only_or, only_same, adds_none, adds_same, adds_both, adds_one}

-- ---- sizes

-- the cell in column i and row j is one of the grid's
in_grid : (nx ny i j : ℕ) → i < nx → j < ny → j * nx + i < nx * ny
in_grid nx ny i j l m = let e : (j + 1) * nx ≤ ny * nx = mul-le-mul_right nx (omega arith) in omega arith

-- ---- from lo on, below i

unfoldable pub sofar : ℕ → ℕ → ℕ → Bool
sofar lo i p = leb lo p && ltb p i

sofar_none : (lo p : ℕ) → sofar lo lo p ≡ false
unfolding sofar
sofar_none lo p =
    elim (dec_lt p lo) [
      | yes l ↦ rw (lt-leb lo p l)
      | no l ↦ rw (le-ltb p lo (omega arith), and-false (leb lo p))
    ]

-- where the loop over lo .. hi ends, also where there is nothing in it
sofar_last : (lo hi i p : ℕ) → hi < i → i ≤ max lo (hi + 1) → sofar lo i p ≡ between lo hi p
unfolding sofar between
sofar_last lo hi i p l m =
    elim (dec_lt p lo) [
      | yes a ↦ rw (lt-leb lo p a)
      | no a ↦ elim (dec_lt hi p) [
        | yes b ↦ rw (lt-leb p hi b, le-ltb p i (omega arith))
        | no b ↦ rw (le-leb p hi (omega arith), lt-ltb p i (omega arith))
      ]
    ]

sofar_next : (lo i p : ℕ) → lo ≤ i → sofar lo i p || eqb p i ≡ sofar lo (i + 1) p
unfolding sofar
sofar_next lo i p l =
    elim (dec_lt p lo) [
      | yes a ↦ rw (lt-leb lo p a, ne_eqb p i (λ e. omega arith))
      | no a ↦ elim (ℕ_discrete p i) [
        | yes b ↦ rw (le-leb lo p (omega arith), le-ltb p i (omega arith), lt-ltb p (i + 1) (omega arith), eq-eqb p i b)
        | no b ↦ elim (dec_lt p i) [
          | yes c ↦ rw (le-leb lo p (omega arith), ne_eqb p i b, lt-ltb p i c, lt-ltb p (i + 1) (omega arith))
          | no c ↦ rw (le-leb lo p (omega arith), ne_eqb p i b, le-ltb p i (omega arith), le-ltb p (i + 1) (omega arith))
        ]
      ]
    ]

-- ---- a row

row_of : (n i j : ℕ) → i < n → (j * n + i) / n ≡ j
row_of n i j l = div-eq_of_lt-le n (omega arith) (omega arith)

column_of : (n i j : ℕ) → i < n → (j * n + i) % n ≡ i
column_of n i j l = mul-add-mod_self_right j n i ∙ mod-eq_of_lt l

-- cell k is the one in column i and row j
cell_at : (n i j k : ℕ) → i < n → eqb k (j * n + i) ≡ eqb (k / n) j && eqb (k % n) i
cell_at n i j k l =
    elim (ℕ_discrete k (j * n + i)) [
      | yes e ↦ rw (e, row_of n i j l, column_of n i j l, eq-eqb (j * n + i) (j * n + i) refl, eq-eqb j j refl, eq-eqb i i refl)
      | no e ↦ elim (ℕ_discrete (k / n) j) [
        | yes a ↦ (let q : k ≡ j * n + k % n = sym (div-add-mod' k n) ∙ ap (λ (z : ℕ). z * n + k % n) a in
            rw (ne_eqb k (j * n + i) e, ne_eqb (k % n) i (λ b. e (q ∙ ap (λ (z : ℕ). j * n + z) b)), and-false (eqb (k / n) j)))
        | no a ↦ rw (ne_eqb k (j * n + i) e, ne_eqb (k / n) j a)
      ]
    ]

-- ---- in row j, or in the columns from lo to hi: what is there so far and what is next

both_in : (q x y z : Bool) → x || y ≡ z → (q && x) || (q && y) ≡ q && z
both_in true x y z e = e
both_in false x y z e = refl

either_in : (q x y z : Bool) → x || y ≡ z → (x && q) || (y && q) ≡ z && q
either_in true x y z e = rw (and-true x, and-true y, and-true z) e
either_in false x y z e = rw (and-false x, and-false y, and-false z)

-- what is said of cell k by the columns from lo on, below i, in row j
unfoldable pub row_sofar : Grid → Flat → ℕ → ℕ → ℕ → ℕ → ℕ
row_sofar g t j lo i k = only_if (eqb (k / g.columns.n) j && sofar lo i (k % g.columns.n)) (centre_number g t (k % g.columns.n) (k / g.columns.n))

module _ (g : Grid) (t : Flat) (j lo : ℕ) where
  pub row_first : (s : List ℕ) → Adds s s (row_sofar g t j lo lo)
  unfolding row_sofar
  row_first s = adds_none s (row_sofar g t j lo lo) (λ k. rw (sofar_none lo (k % g.columns.n), and-false (eqb (k / g.columns.n) j)))

  number_at : (k i : ℕ) (px py : Float) → i < g.columns.n → px ≡ centre_of g.columns i → py ≡ centre_of g.rows j → k ≡ j * g.columns.n + i
      → place_number (place (record { x = px; y = py }) t) ≡ centre_number g t (k % g.columns.n) (k / g.columns.n)
  unfolding centre_number centre_lies
  number_at k i px py l ex ey e = rw (e, row_of g.columns.n i j l, column_of g.columns.n i j l, ex, ey)

  -- byte b is stored for column i
  pub row_next : {s u : List ℕ} (i b : ℕ) (px py : Float) → i < g.columns.n → j < g.rows.n → length s ≡ cells g → lo ≤ i
      → px ≡ centre_of g.columns i → py ≡ centre_of g.rows j
      → b ≡ max (get_or u (j * g.columns.n + i) 0) (place_number (place (record { x = px; y = py }) t)) → Adds s u (row_sofar g t j lo i)
      → Adds s (set u (j * g.columns.n + i) b) (row_sofar g t j lo (i + 1))
  unfolding row_sofar
  row_next {u = u} i b px py l below long m ex ey e a =
      let there : j * g.columns.n + i < length u =
      omega (arith, in_grid g.columns.n g.rows.n i j l below, a.long, long) in
      adds_same (row_sofar g t j lo (i + 1)) (adds_both a (rw e (adds_one u (j * g.columns.n + i) (place_number (place (record { x = px; y = py }) t)) there))) more
    where
      more : (k : ℕ) → max (row_sofar g t j lo i k) (only_if (eqb k (j * g.columns.n + i)) (place_number (place (record { x = px; y = py }) t)))
          ≡ row_sofar g t j lo (i + 1) k
      more k =
          let n = g.columns.n in
          let here = centre_number g t (k % n) (k / n) in
          let in_row = eqb (k / n) j in
          rw (
            only_same (eqb k (j * n + i)) (place_number (place (record { x = px; y = py }) t)) here
                (λ q. number_at k i px py l ex ey (eqb-true k (j * n + i) q)),
            cell_at n i j k l,
            only_or (in_row && sofar lo i (k % n)) (in_row && eqb (k % n) i) here,
            both_in in_row (sofar lo i (k % n)) (eqb (k % n) i) (sofar lo (i + 1) (k % n)) (sofar_next lo i (k % n) m),
          )

  pub row_last : {s u : List ℕ} (hi i : ℕ) → hi < i → i ≤ max lo (hi + 1) → Adds s u (row_sofar g t j lo i)
      → Adds s u (λ k. only_if (eqb (k / g.columns.n) j && between lo hi (k % g.columns.n)) (centre_number g t (k % g.columns.n) (k / g.columns.n)))
  unfolding row_sofar
  row_last hi i l m a = adds_same _ a (λ k. rw (sofar_last lo hi i (k % g.columns.n) l m))

-- ---- a box

-- what is said of cell k by the rows from first on, below j, in the columns from lo to hi
unfoldable pub box_sofar : Grid → Flat → ℕ → ℕ → ℕ → ℕ → ℕ → ℕ
box_sofar g t lo hi first j k = only_if (sofar first j (k / g.columns.n) && between lo hi (k % g.columns.n)) (centre_number g t (k % g.columns.n) (k / g.columns.n))

module _ (g : Grid) (t : Flat) (lo hi first : ℕ) where
  pub box_first : (s : List ℕ) → Adds s s (box_sofar g t lo hi first first)
  unfolding box_sofar
  box_first s = adds_none s (box_sofar g t lo hi first first) (λ k. rw (sofar_none first (k / g.columns.n)))

  pub box_next : {s u v : List ℕ} (j : ℕ) → first ≤ j → Adds s u (box_sofar g t lo hi first j)
      → Adds u v (λ k. only_if (eqb (k / g.columns.n) j && between lo hi (k % g.columns.n)) (centre_number g t (k % g.columns.n) (k / g.columns.n)))
      → Adds s v (box_sofar g t lo hi first (j + 1))
  unfolding box_sofar
  box_next j m a b = adds_same (box_sofar g t lo hi first (j + 1)) (adds_both a b) more
    where
      more : (k : ℕ) → max (box_sofar g t lo hi first j k)
          (only_if (eqb (k / g.columns.n) j && between lo hi (k % g.columns.n)) (centre_number g t (k % g.columns.n) (k / g.columns.n)))
          ≡ box_sofar g t lo hi first (j + 1) k
      more k =
          let n = g.columns.n in
          let inside = between lo hi (k % n) in
          rw (
            only_or (sofar first j (k / n) && inside) (eqb (k / n) j && inside) (centre_number g t (k % n) (k / n)),
            either_in inside (sofar first j (k / n)) (eqb (k / n) j) (sofar first (j + 1) (k / n)) (sofar_next first j (k / n) m),
          )

  pub box_last : {s u : List ℕ} (last j : ℕ) → last < j → j ≤ max first (last + 1) → Adds s u (box_sofar g t lo hi first j)
      → Adds s u (λ k. only_if (between first last (k / g.columns.n) && between lo hi (k % g.columns.n)) (centre_number g t (k % g.columns.n) (k / g.columns.n)))
  unfolding box_sofar
  box_last last j l m a = adds_same _ a (λ k. rw (sofar_last first last j (k / g.columns.n) l m))
