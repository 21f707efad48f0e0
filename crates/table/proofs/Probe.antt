-- A table by open addressing, for any key: what one more use does to what the table means. Assumes nothing.
use mathlib.Core.Path.{◌≡◌, refl, sym, ap, ◌∙◌, subst}
use mathlib.Core.Logic.{◌≢◌}
use mathlib.Core.Bool.{Bool, true, false, true≢false}
use mathlib.Core.List.{List, [], ◌∷◌, ◌++◌}
use Prim.Native.Nat.{ℕ, zero, suc, ◌+◌, ◌<◌}
use native.Mathlib.Omega.{arith}
use native.Mathlib.Decide.{ℕ_discrete, dec_lt}
use lib.ListN.{length-append}
use Rattle.ids.specs.Uses.{Use, uses, keys, sum_by, bit}
use Rattle.table.specs.inner.Rows.{sum_to, Found}
use Rattle.table.specs.inner.Table.{gate, ups, Rows, MeansUses}
use Rattle.table.proofs.Search.{Written, other, spread_step}
use Rattle.table.proofs.Sums.{sum_to_more, uses_more, ups_more, ups_le, new, keys_more}

pub gate_pos : (c x : ℕ) → 0 < c → gate c x ≡ x
unfolding gate
gate_pos zero x l = omega arith
gate_pos (suc c) x l = refl

-- the term of a row that gets its uses from c to c + 1, where the key k has c uses so far
gate_more : (c x y : ℕ) → (0 < c → x ≡ y) → gate (c + 1) y ≡ gate c x + new c y
unfolding gate new
gate_more zero x y h = omega arith
gate_more (suc c) x y h = omega (arith, h (omega arith), gate_pos (suc c + 1) y (omega arith))

-- what a table with one more use has at its rows: row r is k's and counts it, and the others are as they were
pub record Bumped {K : Type 0} (r : ℕ) (k : K) (u : Bool) (key key' : ℕ → K) (cnt cnt' up up' : ℕ → ℕ) : Type 0 where
  pub key_at : key' r ≡ k
  pub cnt_at : cnt' r ≡ cnt r + 1
  pub up_at : up' r ≡ up r + bit u
  pub key_off : (i : ℕ) → i ≢ r → key' i ≡ key i
  pub cnt_off : (i : ℕ) → i ≢ r → cnt' i ≡ cnt i
  pub up_off : (i : ℕ) → i ≢ r → up' i ≡ up i

module _ {K : Type 0} (same : K → K → Bool) (same-eq : (a b : K) → same a b ≡ true → a ≡ b) (same_refl : (a : K) → same a a ≡ true) where
  same_no : (a b : K) → a ≢ b → same a b ≡ false
  same_no a b ne = go (same a b) refl
    where
      go : (t : Bool) → same a b ≡ t → same a b ≡ false
      go true e = absurd (ne (same-eq a b e))
      go false e = e

  module _ (es : List (Use K)) (x : Use K) where
    uses_self : uses same x.key (es ++ x ∷ []) ≡ uses same x.key es + 1
    unfolding bit
    uses_self = rw (uses_more, same_refl)

    uses_else : (a : K) → a ≢ x.key → uses same a (es ++ x ∷ []) ≡ uses same a es
    unfolding bit
    uses_else a ne = rw (uses_more, same_no a x.key ne) (omega arith)

    ups_self : ups same x.key (es ++ x ∷ []) ≡ ups same x.key es + bit x.up
    ups_self = rw (ups_more, same_refl)

    ups_else : (a : K) → a ≢ x.key → ups same a (es ++ x ∷ []) ≡ ups same a es
    unfolding bit
    ups_else a ne = rw (ups_more, same_no a x.key ne) (omega arith)

  -- one more use, counted in row r, which is free or the key's, where no other row has the key. How r was found is not said
  module _ (n : ℕ) (key : ℕ → K) (cnt up : ℕ → ℕ) (es : List (Use K)) (x : Use K) (r : ℕ)
      (m : Rows same n key cnt up es) (lr : r < n) (holds : 0 < cnt r → key r ≡ x.key)
      (other : (i : ℕ) → i < n → 0 < cnt i → i ≢ r → key i ≢ x.key) where
    row_uses : cnt r ≡ uses same x.key es
    row_uses =
        elim (dec_lt 0 (cnt r)) [
          | yes a ↦ m.counted r lr a ∙ ap (λ (z : K). uses same z es) (holds a)
          | no a ↦ elim (dec_lt 0 (uses same x.key es)) [
            | yes b ↦ (let w = m.has x.key b in absurd
                (other w.0 w.1 w.2 (λ e. let z : cnt w.0 ≡ cnt r = ap cnt e in a (rw z at w.2)) w.3))
            | no b ↦ omega arith
          ]
        ]

    row_ups : up r ≡ ups same x.key es
    row_ups =
        elim (dec_lt 0 (cnt r)) [
          | yes a ↦ m.upped r lr a ∙ ap (λ (z : K). ups same z es) (holds a)
          | no a ↦ omega (arith, m.blank r lr (omega arith), row_uses, ups_le same x.key es)
        ]

    module _ (key' : ℕ → K) (cnt' up' : ℕ → ℕ) (b : Bumped r x.key x.up key key' cnt cnt' up up') where
      counted' : (i : ℕ) → Dec (i ≡ r) → i < n → 0 < cnt' i → cnt' i ≡ uses same (key' i) (es ++ x ∷ [])
      counted' i (yes e) li ci = rw (e, b.key_at, uses_self es x, b.cnt_at, row_uses)
      counted' i (no ne) li ci =
          let c : cnt' i ≡ cnt i = b.cnt_off i ne in
          rw (b.key_off i ne, uses_else es x (key i) (other i li (rw c at ci) ne), c) (m.counted i li (rw c at ci))

      upped' : (i : ℕ) → Dec (i ≡ r) → i < n → 0 < cnt' i → up' i ≡ ups same (key' i) (es ++ x ∷ [])
      upped' i (yes e) li ci = rw (e, b.key_at, ups_self es x, b.up_at, row_ups)
      upped' i (no ne) li ci =
          let c : cnt' i ≡ cnt i = b.cnt_off i ne in
          rw (b.key_off i ne, ups_else es x (key i) (other i li (rw c at ci) ne), b.up_off i ne) (m.upped i li (rw c at ci))

      blank' : (i : ℕ) → Dec (i ≡ r) → i < n → cnt' i ≡ 0 → up' i ≡ 0
      blank' i (yes e) li z = let z' : cnt' r ≡ 0 = rw e at z in absurd (omega (arith, b.cnt_at))
      blank' i (no ne) li z = b.up_off i ne ∙ m.blank i li (sym (b.cnt_off i ne) ∙ z)

      has' : (q : K) → 0 < uses same q (es ++ x ∷ []) → (i : ℕ) × (i < n) × (0 < cnt' i) × (key' i ≡ q)
      has' q l = go (same q x.key) refl
        where
          go : (t : Bool) → same q x.key ≡ t → (i : ℕ) × (i < n) × (0 < cnt' i) × (key' i ≡ q)
          go true e = (r, lr, omega (arith, b.cnt_at), b.key_at ∙ sym (same-eq q x.key e))
          go false e =
              let nq : q ≢ x.key = (λ z. true≢false (sym (same_refl x.key) ∙ rw z at e)) in
              let w = m.has q (rw (uses_else es x q nq) at l) in
              let nr : w.0 ≢ r = (λ z. nq (sym w.3 ∙ ap key z ∙ holds (subst (λ (y : ℕ). 0 < cnt y) z w.2))) in
              (w.0, w.1, rw (b.cnt_off w.0 nr) w.2, b.key_off w.0 nr ∙ w.3)

      sums' : (Q : K → ℕ) → sum_to (λ i. gate (cnt' i) (Q (key' i))) n ≡ sum_by Q (keys same (es ++ x ∷ []))
      sums' Q =
          rw (keys_more same same-eq same_refl Q es x, ← m.sums Q)
          (sum_to_more (λ i. gate (cnt i) (Q (key i))) (λ i. gate (cnt' i) (Q (key' i))) n r
          (new (uses same x.key es) (Q x.key)) lr (λ i l ne. rw (b.cnt_off i ne, b.key_off i ne))
          (rw (b.cnt_at, b.key_at, ← row_uses) (gate_more (cnt r) (Q (key r)) (Q x.key) (λ l. ap Q (holds l)))))

      pub rows_step : Rows same n key' cnt' up' (es ++ x ∷ [])
      rows_step = record {
        counted = λ i. counted' i (ℕ_discrete i r);
        upped = λ i. upped' i (ℕ_discrete i r);
        blank = λ i. blank' i (ℕ_discrete i r);
        has = has';
        total = sum_to_more cnt cnt' n r 1 lr (λ i l ne. b.cnt_off i ne) b.cnt_at ∙ rw (m.total, length-append);
        sums = sums';
      }

  -- the same, where r was found by a search from the key's home
  module _ (n : ℕ) (home : K → ℕ) (key : ℕ → K) (cnt up : ℕ → ℕ) (es : List (Use K)) (x : Use K) (r : ℕ)
      (home_in_lem : home x.key < n) (m : MeansUses same n home key cnt up es) (f : Found n (home x.key) key cnt x.key r) where
    module _ (key' : ℕ → K) (cnt' up' : ℕ → ℕ) (b : Bumped r x.key x.up key key' cnt cnt' up up') where
      written : Written n r x.key key key' cnt cnt'
      written =
          record {
            key_at = b.key_at;
            mark_at = omega (arith, b.cnt_at);
            key_off = λ i l ne u. b.key_off i ne;
            mark_off = λ i l. b.cnt_off i;
          }

      pub step : MeansUses same n home key' cnt' up' (es ++ x ∷ [])
      step = record {
        rows =
            rows_step n key cnt up es x r m.rows f.within f.holds
            (other n home key cnt x.key r home_in_lem m.spread f) key' cnt' up' b;
        spread = spread_step n home key cnt x.key r home_in_lem m.spread f key' cnt' written;
      }

pub gate_none : (x : ℕ) → gate 0 x ≡ 0
unfolding gate
gate_none x = refl

pub gate_zero : (c : ℕ) → gate c 0 ≡ 0
unfolding gate
gate_zero zero = refl
gate_zero (suc c) = refl

pub sum_to_none : (f : ℕ → ℕ) (n : ℕ) → ((i : ℕ) → i < n → f i ≡ 0) → sum_to f n ≡ 0
unfolding sum_to
sum_to_none f zero h = refl
sum_to_none f (suc n) h = omega (arith, sum_to_none f n (λ i l. h i (omega arith)), h n (omega arith))

-- a table of free rows means no uses
pub empty : {K : Type 0} (same : K → K → Bool) (n : ℕ) (home : K → ℕ) (key : ℕ → K) (cnt up : ℕ → ℕ)
    → ((i : ℕ) → i < n → (cnt i ≡ 0) × (up i ≡ 0)) → MeansUses same n home key cnt up []
unfolding uses keys sum_by
empty same n home key cnt up z = record {
  rows = record {
    counted = λ i l p. absurd (omega (arith, (z i l).0));
    upped = λ i l p. absurd (omega (arith, (z i l).0));
    blank = λ i l p. (z i l).1;
    has = λ q p. absurd (omega arith);
    total = sum_to_none cnt n (λ i l. (z i l).0);
    sums = λ Q. sum_to_none (λ i. gate (cnt i) (Q (key i))) n (λ i l. rw (z i l).0 (gate_none (Q (key i))));
  };
  spread = record { one = λ i j l p. absurd (omega (arith, (z i l).0)); reach = λ i j l p. absurd (omega (arith, (z i l).0)) };
}
