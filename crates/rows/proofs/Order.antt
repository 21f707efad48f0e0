-- The theorems of `sorted`: it is in order, it has the same rows, and of plain rows of binary32 no other list has both. Two lists in order
-- with the same counts have the same first row, since by the counts neither first row precedes the other; and so on. Assumes nothing.
use mathlib.Core.Path.{◌≡◌, refl, sym, ap, ◌∙◌, subst}
use mathlib.Core.Bool.{Bool, true, false, not, ◌&&◌, cond, false≢true}
use mathlib.Core.List.{List, [], ◌∷◌}
use Prim.Native.Nat.{ℕ, zero, suc, ◌+◌, ◌<◌}
use native.Mathlib.Omega.{arith}
use lib.Dec.{T}
use lib.Ieee.Bits.{is_true}
use lib.Ieee.Fits.{and_i, and_l, and_r}
use lib.ListN.{length}
use Rattle.rows.specs.declared.PlanarSurface.{PlanarSurface}
use Rattle.rows.specs.Rows.{precedes, inserted, sorted}
use Rattle.rows.specs.Plain.{plain_row, all_plain}
use Rattle.rows.specs.Sorting.{row_at, passing, SameRows, Behind, InOrder, single_row, all_single}
use Rattle.rows.specs.Sorting.{SortedInOrder, SortedSame, SortedOne}
use Rattle.rows.specs.inner.Passes.{Rising}
use Rattle.rows.proofs.Counts.{one, none_first, none_both, none_at}
use Rattle.rows.proofs.Comparing.{precedes_asym, precedes_self, behind_trans, one_row}

-- ---- the same counts

passing_any : (l : List PlanarSurface) → passing (λ r. true) l ≡ length l
unfolding passing
passing_any [] = refl
passing_any (r ∷ l) = omega (arith, passing_any l)

counts_same : (l m : List PlanarSurface) → ((p : PlanarSurface → Bool) → passing p m ≡ passing p l) → SameRows l m
counts_same l m h = record { long = sym (passing_any m) ∙ h (λ r. true) ∙ passing_any l; counted = h }

passing_inserted : (p : PlanarSurface → Bool) (r : PlanarSurface) (l : List PlanarSurface)
    → passing p (inserted r l) ≡ one (p r) + passing p l
unfolding passing inserted
passing_inserted p r [] = refl
passing_inserted p r (s ∷ l) = go (precedes r s) (passing_inserted p r l)
  where
    go : (b : Bool) → passing p (inserted r l) ≡ one (p r) + passing p l
        → passing p (cond b (r ∷ s ∷ l) (s ∷ inserted r l)) ≡ one (p r) + (one (p s) + passing p l)
    go true h = refl
    go false h = omega arith

passing_sorted : (p : PlanarSurface → Bool) (l : List PlanarSurface) → passing p (sorted l) ≡ passing p l
unfolding passing sorted
passing_sorted p [] = refl
passing_sorted p (r ∷ l) = passing_inserted p r (sorted l) ∙ ap (λ (n : ℕ). one (p r) + n) (passing_sorted p l)

pub sorted_same : SortedSame
sorted_same l = counts_same l (sorted l) (λ p. passing_sorted p l)

pub length_sorted : (l : List PlanarSurface) → length (sorted l) ≡ length l
length_sorted l = (sorted_same l).long

-- ---- what holds of each row is known by a count

passed : (b : Bool) → not b ≡ false → T b
passed true h = tt
passed false h = absurd (false≢true (sym h))

module _ (p : PlanarSurface → Bool) (all : List PlanarSurface → Bool) (end : all [] ≡ true)
    (step : (r : PlanarSurface) (l : List PlanarSurface) → all (r ∷ l) ≡ (p r && all l)) where
  all_none : (l : List PlanarSurface) → T (all l) → passing (λ r. not (p r)) l ≡ 0
  unfolding passing
  all_none [] h = refl
  all_none (r ∷ l) h =
      let t = subst T (step r l) h in
      none_both (λ s. not (p s)) r l (ap not (is_true (p r) (and_l (p r) (all l) t))) (all_none l (and_r (p r) (all l) t))

  none_all : (l : List PlanarSurface) → passing (λ r. not (p r)) l ≡ 0 → T (all l)
  none_all [] h = rw end tt
  none_all (r ∷ l) h =
      let k = none_first (λ s. not (p s)) r l h in
      rw (step r l) (and_i (p r) (all l) (passed (p r) k.0) (none_all l k.1))

  all_same : (l m : List PlanarSurface) → SameRows l m → T (all l) → T (all m)
  all_same l m s h = none_all m (s.counted (λ r. not (p r)) ∙ all_none l h)

  all_at : (l : List PlanarSurface) (i : ℕ) → i < length l → T (all l) → T (p (row_at l i))
  all_at l i n h = passed (p (row_at l i)) (none_at (λ r. not (p r)) l i n (all_none l h))

pub plain_same : (l m : List PlanarSurface) → SameRows l m → T (all_plain l) → T (all_plain m)
unfolding all_plain
plain_same = all_same plain_row all_plain refl (λ r l. refl)

pub single_same : (l m : List PlanarSurface) → SameRows l m → T (all_single l) → T (all_single m)
unfolding all_single
single_same = all_same single_row all_single refl (λ r l. refl)

pub plain_at : (l : List PlanarSurface) (i : ℕ) → i < length l → T (all_plain l) → T (plain_row (row_at l i))
unfolding all_plain
plain_at = all_at plain_row all_plain refl (λ r l. refl)

pub single_at : (l : List PlanarSurface) (i : ℕ) → i < length l → T (all_single l) → T (single_row (row_at l i))
unfolding all_single
single_at = all_at single_row all_single refl (λ r l. refl)

plain_parts : (r : PlanarSurface) (l : List PlanarSurface) → T (all_plain (r ∷ l)) → T (plain_row r) × T (all_plain l)
unfolding all_plain
plain_parts r l h = (and_l (plain_row r) (all_plain l) h, and_r (plain_row r) (all_plain l) h)

single_parts : (r : PlanarSurface) (l : List PlanarSurface) → T (all_single (r ∷ l)) → T (single_row r) × T (all_single l)
unfolding all_single
single_parts r l h = (and_l (single_row r) (all_single l) h, and_r (single_row r) (all_single l) h)

-- ---- in order, row by row: none of the rest precedes the first

Ordered : List PlanarSurface → Type 0
Ordered [] = T true
Ordered (r ∷ l) = (passing (λ s. precedes s r) l ≡ 0) × Ordered l

-- what does not precede s does not precede r, behind which s is
lower : (r s : PlanarSurface) (l : List PlanarSurface) → T (plain_row r) → T (plain_row s) → T (all_plain l) → precedes s r ≡ false
    → passing (λ t. precedes t s) l ≡ 0
    → passing (λ t. precedes t r) l ≡ 0
unfolding passing
lower r s [] a b c h k = refl
lower r s (t ∷ l) a b c h k =
    let n = none_first (λ u. precedes u s) t l k in
    let d = plain_parts t l c in
    none_both (λ u. precedes u r) t l (behind_trans r s t a b d.0 h n.0) (lower r s l a b d.1 h n.1)

inserted_ordered : (r : PlanarSurface) (l : List PlanarSurface) → T (plain_row r) → T (all_plain l) → Ordered l → Ordered (inserted r l)
unfolding Ordered inserted passing
inserted_ordered r [] a b o = (refl, tt)
inserted_ordered r (s ∷ l) a b o = go (precedes r s) refl (inserted_ordered r l a c.1 o.1)
  where
    c : T (plain_row s) × T (all_plain l)
    c = plain_parts s l b

    go : (d : Bool) → precedes r s ≡ d → Ordered (inserted r l) → Ordered (cond d (r ∷ s ∷ l) (s ∷ inserted r l))
    go true e i =
        let behind = precedes_asym r s e in
        (none_both (λ t. precedes t r) s l behind (lower r s l a c.0 c.1 behind o.0), o)
    go false e i = (passing_inserted (λ t. precedes t s) r l ∙ rw (e, o.0), i)

sorted_ordered : (l : List PlanarSurface) → T (all_plain l) → Ordered (sorted l)
unfolding Ordered sorted
sorted_ordered [] a = tt
sorted_ordered (r ∷ l) a =
    let b = plain_parts r l a in
    inserted_ordered r (sorted l) b.0 (plain_same l (sorted l) (sorted_same l) b.1) (sorted_ordered l b.1)

ordered_places : (l : List PlanarSurface) → Ordered l → InOrder l
unfolding Ordered
ordered_places [] o i j h k = absurd (omega arith)
ordered_places (r ∷ l) o i zero h k = absurd (omega arith)
ordered_places (r ∷ l) o zero (suc j) h k = none_at (λ s. precedes s r) l j (omega arith) o.0
ordered_places (r ∷ l) o (suc i) (suc j) h k = ordered_places l o.1 i j (omega arith) (omega arith)

pub sorted_in_order : SortedInOrder
sorted_in_order l a = ordered_places (sorted l) (sorted_ordered l a)

next : (k : ℕ) → suc k + 1 ≡ suc (k + 1)
next k = omega arith

rising_ordered : (l : List PlanarSurface) → T (all_plain l) → Rising 1 (length l) l → Ordered l
unfolding Ordered passing
rising_ordered [] a h = tt
rising_ordered (r ∷ []) a h = (refl, tt)
rising_ordered (r ∷ s ∷ l) a h =
    let b = plain_parts r (s ∷ l) a in
    let c = plain_parts s l b.1 in
    let o = rising_ordered (s ∷ l) b.1 (λ k m. subst (λ (x : ℕ). Behind (r ∷ s ∷ l) x (suc k)) (next k) (h (suc k) (omega arith))) in
    let behind : precedes s r ≡ false = h 0 (omega arith) in
    (none_both (λ t. precedes t r) s l behind (lower r s l b.0 c.0 c.1 behind o.0), o)

-- ---- one list only

-- a first row precedes no other's first row, where the counts are the same
first_least : (r s : PlanarSurface) (l m : List PlanarSurface) → Ordered (r ∷ l)
    → ((p : PlanarSurface → Bool) → passing p (s ∷ m) ≡ passing p (r ∷ l)) → precedes s r ≡ false
unfolding Ordered
first_least r s l m o h =
    (none_first (λ t. precedes t r) s m (h (λ t. precedes t r) ∙ none_both (λ t. precedes t r) r l (precedes_self r) o.0)).0

two_ordered : (l m : List PlanarSurface) → T (all_plain l) → T (all_plain m) → T (all_single l) → T (all_single m) → Ordered l → Ordered m
    → ((p : PlanarSurface → Bool) → passing p m ≡ passing p l) → l ≡ m
unfolding Ordered passing
two_ordered [] [] a b f g o q h = refl
two_ordered [] (s ∷ m) a b f g o q h = absurd (omega (arith, h (λ r. true)))
two_ordered (r ∷ l) [] a b f g o q h = absurd (omega (arith, h (λ r. true)))
two_ordered (r ∷ l) (s ∷ m) a b f g o q h =
    let c = plain_parts r l a in
    let d = plain_parts s m b in
    let u = single_parts r l f in
    let v = single_parts s m g in
    let e : r ≡ s = one_row r s c.0 d.0 u.0 v.0 (first_least s r m l q (λ p. sym (h p))) (first_least r s l m o h) in
    let rest : l ≡ m = two_ordered l m c.1 d.1 u.1 v.1 o.1 q.1
    (λ p. omega (arith, h p, ap (λ (t : PlanarSurface). one (p t)) e)) in
    rw (e, rest)

pub rising_sorted : (l m : List PlanarSurface) → T (all_plain l) → T (all_single l) → SameRows l m → Rising 1 (length m) m → m ≡ sorted l
rising_sorted l m a f s h =
    let t = sorted_same l in
    let b = plain_same l m s a in
    two_ordered m (sorted l) b (plain_same l (sorted l) t a) (single_same l m s f) (single_same l (sorted l) t f)
    (rising_ordered m b h) (sorted_ordered l a)
    (λ p. t.counted p ∙ sym (s.counted p))

pub sorted_one : SortedOne
sorted_one l m a f s h = rising_sorted l m a f s (λ k lt. h k (k + 1) (omega arith) lt)
