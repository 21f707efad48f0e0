-- What a search finds, and what writing the row that it found does to a table: the part that is the same for every kind of table. Assumes
-- nothing.
use mathlib.Core.Path.{◌≡◌, sym, ap, ◌∙◌}
use mathlib.Core.Logic.{◌≢◌, ◌⊎◌, inl, inr, ⊎_elim}
use Prim.Native.Nat.{ℕ, zero, suc, ◌+◌, ◌-◌, ◌*◌, ◌≤◌, ◌<◌}
use native.Mathlib.Omega.{arith}
use native.Mathlib.Nat.{mul-le-mul_right}
use native.Mathlib.Decide.{ℕ_discrete, dec_lt, dec_le}
use borrow.Author.Tests.{le-leb, lt-leb, eq-eqb, ne_eqb}
use Rattle.table.proofs.Sums.{sum_to_pos}
use Rattle.table.specs.inner.Rows.{sum_to, home_row, next_row, dist, Passed, Found, Free, Spread}

-- ---- the way of a search

-- it starts at one of the rows
pub home_below : (n hash : ℕ) → 0 < n → hash < 4294967296 → home_row n hash < n
unfolding home_row
home_below n hash some small = let m : hash * n ≤ 4294967295 * n = mul-le-mul_right n (omega arith) in omega (arith, m)

-- the laws of `dist`
dist_ge : (n h x : ℕ) → h ≤ x → dist n h x ≡ x - h
unfolding dist
dist_ge n h x l = rw (le-leb h x l)

dist_lt : (n h x : ℕ) → x < h → dist n h x ≡ x + n - h
unfolding dist
dist_lt n h x l = rw (lt-leb h x l)

-- a claim about dist n h x, by whether the search has wrapped
split : {P : Type 0} (n h x : ℕ) → (h ≤ x → dist n h x ≡ x - h → P) → (x < h → dist n h x ≡ x + n - h → P) → P
split n h x f g = elim (dec_le h x) [ yes l ↦ f l (dist_ge n h x l) | no l ↦ g (omega arith) (dist_lt n h x (omega arith)) ]

module _ (n h : ℕ) (home : h < n) where
  pub dist_below : (x : ℕ) → x < n → dist n h x < n
  dist_below x l = split n h x (λ a d. omega arith) (λ a d. omega arith)

  pub dist_one : (x y : ℕ) → x < n → y < n → dist n h x ≡ dist n h y → x ≡ y
  dist_one x y lx ly e = split n h x
      (λ a d. split n h y (λ a' d'. omega arith) (λ a' d'. omega arith))
      (λ a d. split n h y (λ a' d'. omega arith) (λ a' d'. omega arith))

  pub dist_here : dist n h h ≡ 0
  dist_here = dist_ge n h h (omega arith) ∙ omega arith

  next_of : (x : ℕ) → x < n → ((x + 1 < n) × (next_row n x ≡ x + 1)) ⊎ ((x + 1 ≡ n) × (next_row n x ≡ 0))
  unfolding next_row
  next_of x l =
      elim (ℕ_discrete (x + 1) n) [
        | yes e ↦ inr (e, rw (eq-eqb (x + 1) n e))
        | no e ↦ inl (omega arith, rw (ne_eqb (x + 1) n e))
      ]

  pub next_below : (x : ℕ) → x < n → next_row n x < n
  next_below x l = ⊎_elim (λ w. omega (arith, w.0, w.1)) (λ w. omega (arith, w.1)) (next_of x l)

  -- the next row is one further, short of a whole round
  pub dist_next : (x : ℕ) → x < n → dist n h x + 1 < n → dist n h (next_row n x) ≡ dist n h x + 1
  dist_next x l m =
      ⊎_elim (λ w. rw w.1 (split n h x
      (λ a d. split n h (x + 1) (λ a' d'. omega arith) (λ a' d'. omega arith))
      (λ a d. split n h (x + 1) (λ a' d'. omega (arith, w.0)) (λ a' d'. omega arith))))
      (λ w. rw w.1 (split n h x
      (λ a d. split n h 0 (λ a' d'. omega (arith, w.0)) (λ a' d'. omega (arith, w.0)))
      (λ a d. split n h 0 (λ a' d'. omega (arith, w.0)) (λ a' d'. omega (arith, w.0)))))
      (next_of x l)

-- a turn of the search: row r is used by another key
module _ {K : Type 0} (n h : ℕ) (home : h < n) (key : ℕ → K) (mark : ℕ → ℕ) (k : K) (r : ℕ) (lr : r < n)
    (before : Passed n h key mark k r) (used : 0 < mark r) (ne : key r ≢ k) where
  pub through : (j : ℕ) → j < n → dist n h j ≤ dist n h r → (0 < mark j) × (key j ≢ k)
  through j lj le =
      elim (dec_lt (dist n h j) (dist n h r)) [
        | yes a ↦ before j lj a
        | no a ↦ (let e : j ≡ r = dist_one n h home j r lj lr (omega arith) in rw e (used, ne))
      ]

  -- where some row is free, the search has not gone round
  not_round : Free n mark → dist n h r + 1 < n
  not_round free =
      elim (dec_lt (dist n h r + 1) n) [
        | yes a ↦ a
        | no a ↦ absurd (omega (arith, free.2, (through free.0 free.1 (omega (arith, dist_below n h home free.0 free.1))).0))
      ]

  -- it goes on at the next row
  pub turn : dist n h r + 1 < n → (dist n h (next_row n r) ≡ dist n h r + 1) × Passed n h key mark k (next_row n r)
  turn short = let e = dist_next n h home r lr short in (e, λ j lj d. through j lj (omega arith))

  pub goes_on : Free n mark → (dist n h (next_row n r) ≡ dist n h r + 1) × Passed n h key mark k (next_row n r)
  goes_on free = turn (not_round free)

-- where a table has room, some row is free
free_or_full : (cnt : ℕ → ℕ) (n : ℕ) → ((i : ℕ) × (i < n) × (cnt i ≡ 0)) ⊎ ((i : ℕ) → i < n → 0 < cnt i)
free_or_full cnt zero = inr (λ i l. omega arith)
free_or_full cnt (suc n) =
    elim (dec_lt 0 (cnt n)) [
      | yes a ↦ ⊎_elim (λ w. inl (w.0, omega (arith, w.1), w.2))
          (λ all. inr (λ i l. elim (dec_lt i n) [ yes b ↦ all i b | no b ↦ (let e : i ≡ n = omega arith in rw e a) ])) (free_or_full cnt n)
      | no a ↦ inl (n, omega arith, omega arith)
    ]

pub has_free : (cnt : ℕ → ℕ) (n : ℕ) → sum_to cnt n < n → (i : ℕ) × (i < n) × (cnt i ≡ 0)
has_free cnt n l = ⊎_elim (λ w. w) (λ all. absurd (omega (arith, sum_to_pos cnt n all))) (free_or_full cnt n)

-- ---- the table

-- row r is k's now, and the others are as they were, but for the key of a free row, which means nothing
pub record Written {K : Type 0} (n r : ℕ) (k : K) (key key' : ℕ → K) (mark mark' : ℕ → ℕ) : Type 0 where
  pub key_at : key' r ≡ k
  pub mark_at : 0 < mark' r
  pub key_off : (i : ℕ) → i < n → i ≢ r → 0 < mark i → key' i ≡ key i
  pub mark_off : (i : ℕ) → i < n → i ≢ r → mark' i ≡ mark i

module _ {K : Type 0} (n : ℕ) (home : K → ℕ) (key : ℕ → K) (mark : ℕ → ℕ) (k : K) (r : ℕ)
    (home_in_lem : home k < n) (m : Spread n home key mark) (f : Found n (home k) key mark k r) where
  -- no other row has the key
  pub other : (i : ℕ) → i < n → 0 < mark i → i ≢ r → key i ≢ k
  other i li ci ne e =
      elim (dec_lt (dist n (home k) i) (dist n (home k) r)) [
        | yes a ↦ (f.passed i li a).1 e
        | no a ↦ elim (dec_lt (dist n (home k) r) (dist n (home k) i)) [
          | yes b ↦ (let c : 0 < mark r = m.reach i r li ci f.within (rw e b) in
              ne (m.one i r li ci f.within c (e ∙ sym (f.holds c))))
          | no b ↦ ne (dist_one n (home k) home_in_lem i r li f.within (omega arith))
        ]
      ]

  module _ (key' : ℕ → K) (mark' : ℕ → ℕ) (w : Written n r k key key' mark mark') where
    one' : (i j : ℕ) → Dec (i ≡ r) → Dec (j ≡ r) → i < n → 0 < mark' i → j < n → 0 < mark' j → key' i ≡ key' j → i ≡ j
    one' i j (yes e) (yes e') li ci lj cj q = e ∙ sym e'
    one' i j (yes e) (no ne) li ci lj cj q =
        let u : 0 < mark j = rw (w.mark_off j lj ne) at cj in
        absurd (other j lj u ne (sym (w.key_off j lj ne u) ∙ sym q ∙ ap key' e ∙ w.key_at))
    one' i j (no ne) (yes e) li ci lj cj q =
        let u : 0 < mark i = rw (w.mark_off i li ne) at ci in
        absurd (other i li u ne (sym (w.key_off i li ne u) ∙ q ∙ ap key' e ∙ w.key_at))
    one' i j (no ne) (no nj) li ci lj cj q =
        let u : 0 < mark i = rw (w.mark_off i li ne) at ci in
        let v : 0 < mark j = rw (w.mark_off j lj nj) at cj in
        m.one i j li u lj v (sym (w.key_off i li ne u) ∙ q ∙ w.key_off j lj nj v)

    reach' : (i j : ℕ) → Dec (i ≡ r) → Dec (j ≡ r) → i < n → 0 < mark' i → j < n
        → dist n (home (key' i)) j < dist n (home (key' i)) i → 0 < mark' j
    reach' i j d (yes e) li ci lj l = rw e w.mark_at
    reach' i j (yes e) (no nj) li ci lj l = rw (w.mark_off j lj nj) (f.passed j lj (rw (e, w.key_at) at l)).0
    reach' i j (no ne) (no nj) li ci lj l =
        let u : 0 < mark i = rw (w.mark_off i li ne) at ci in
        rw (w.mark_off j lj nj) (m.reach i j li u lj (rw (w.key_off i li ne u) at l))

    pub spread_step : Spread n home key' mark'
    spread_step =
        record { one = λ i j. one' i j (ℕ_discrete i r) (ℕ_discrete j r); reach = λ i j. reach' i j (ℕ_discrete i r) (ℕ_discrete j r) }
