-- The distinct-id triangles that hang on themselves are as many as the pieces, once all is joined. Assumes nothing.
use mathlib.Core.Path.{◌≡◌, refl, sym, ap, ◌∙◌}
use mathlib.Core.Bool.{Bool, true, false, cond, ◌&&◌}
use mathlib.Core.List.{List, [], ◌∷◌, ◌++◌}
use Prim.Native.Nat.{ℕ, zero, suc, ◌+◌, ◌/◌, ◌<◌}
use native.Mathlib.Omega.{arith}
use native.Mathlib.Decide.{ℕ_discrete}
use borrow.Author.Tests.{eq-eqb, ne_eqb}
use lib.Dec.{eqb}
use lib.ListN.{length}
use Rattle.std.specs.Prelude.{count_by}
use Rattle.std.specs.List.{range_with_len}
use Rattle.std.proofs.lemmas.List.Sums.{sum_by_push}
use Rattle.ids.specs.Uses.{bit, sum_by}
use Rattle.ids.specs.Triangles.{triangle}
use Rattle.table.specs.inner.Rows.{sum_to}
use Rattle.forest.specs.inner.Words.{parent_in}
use Rattle.forest.specs.inner.Labels.{LabelledBy}
use Rattle.ids.specs.Pieces.{groups, those, solid, solids, pieces}
use Rattle.ids.specs.Classes.{mem}
use Rattle.sides.specs.inner.Joins.{joins, Linked}
use Rattle.ids.proofs.Groups.{counted}
use Rattle.ids.proofs.Shared.{share_both}
use Rattle.ids.proofs.Solids.{those_mem, mem_those, those_once}
use Rattle.pieces.specs.inner.Joined.{AllJoined, is_root}

-- ---- the numbers below n that pass

range_more : (a n : ℕ) → range_with_len a (suc n) ≡ range_with_len a n ++ (a + n) ∷ []
range_more a zero = ap (λ (x : ℕ). x ∷ []) (omega arith)
range_more a (suc n) =
    let on : a + 1 + n ≡ a + suc n = omega arith in
    ap (λ (l : List ℕ). a ∷ l) (range_more (a + 1) n ∙ ap (λ (x : ℕ). range_with_len (a + 1) n ++ x ∷ []) on)

module _ (p : ℕ → Bool) where
  -- a sum over all numbers below n is one over those that pass, where the others add nothing
  those_sum : (q r : ℕ → Bool) (n : ℕ) → ((i : ℕ) → i < n → r i ≡ p i && q i)
      → sum_to (λ i. bit (r i)) n ≡ sum_by (λ x. bit (q x)) (those p n)
  unfolding those sum_by bit sum_to
  those_sum q r zero h = refl
  those_sum q r (suc n) h = go (p n) refl (q n) refl (those_sum q r n (λ i l. h i (omega arith))) (h n (omega arith))
    where
      go : (b : Bool) → p n ≡ b → (c : Bool) → q n ≡ c → sum_to (λ i. bit (r i)) n ≡ sum_by (λ x. bit (q x)) (those p n) → r n ≡ p n && q n
          → sum_to (λ i. bit (r i)) n + bit (r n) ≡ sum_by (λ x. bit (q x)) (cond b (n ∷ those p n) (those p n))
      go true e true d ih k = rw (k, e, d) (omega arith)
      go true e false d ih k = rw (k, e, d) (omega arith)
      go false e c d ih k = rw (k, e) (omega arith)

  -- and a count over them is such a sum
  counted_sum : (n : ℕ) → count_by p (range_with_len 0 n) ≡ sum_to (λ i. bit (p i)) n
  unfolding sum_to bit
  counted_sum zero = refl
  counted_sum (suc n) =
      let at : 0 + n ≡ n = omega arith in
      ap (count_by p) (range_more 0 n ∙ ap (λ (x : ℕ). range_with_len 0 n ++ x ∷ []) at)
      ∙ sum_by_push (λ i. cond (p i) 1 0) (range_with_len 0 n) n ∙ omega (arith, counted_sum n, as_bit (p n))
    where
      as_bit : (b : Bool) → cond b 1 0 ≡ bit b
      as_bit true = refl
      as_bit false = refl

-- ---- all of them

pub answers : (ids t : List ℕ) → length t ≡ length ids / 3 → AllJoined ids t
    → count_by (is_root ids t) (range_with_len 0 (length t)) ≡ pieces joins ids
unfolding pieces solids is_root
answers ids t e z =
    counted_sum (is_root ids t) n ∙ those_sum (solid ids) (λ i. eqb (f i) i) (is_root ids t) n same ∙ total ∙ ap (λ (k : ℕ). length (groups joined (those (solid ids) k))) e
  where
    n : ℕ
    n = length t

    f : ℕ → ℕ
    f = z.label

    joined : ℕ → ℕ → Bool
    joined x y = joins (triangle ids x) (triangle ids y)

    -- a triangle hangs on itself where it is its own label
    same : (i : ℕ) → i < length t → solid ids i && eqb (parent_in t i) i ≡ solid ids i && eqb (f i) i
    same i l = ap (λ (b : Bool). solid ids i && b) (go (ℕ_discrete (f i) i))
      where
        m : LabelledBy (length t) (parent_in t) f
        m = z.good.means

        go : Dec (f i ≡ i) → eqb (parent_in t i) i ≡ eqb (f i) i
        go (yes q) = eq-eqb (parent_in t i) i (ap (parent_in t) (sym q) ∙ m.top i l ∙ q) ∙ sym (eq-eqb (f i) i q)
        go (no q) = ne_eqb (parent_in t i) i (λ h. q (m.own i l h)) ∙ sym (ne_eqb (f i) i q)

    link : (x y : ℕ) → mem x (those (solid ids) n) ≡ true → mem y (those (solid ids) n) ≡ true → joined x y ≡ true
        → Linked ids (length t) x y
    link x y mx my j =
        let a = those_mem (solid ids) n x mx in let b = those_mem (solid ids) n y my in
        record { within = (a.0, b.0); solids = (a.1, b.1); share = j }

    inner : (h : ℕ → ℕ) → ((x y : ℕ) → mem x (those (solid ids) n) ≡ true → mem y (those (solid ids) n) ≡ true → joined x y ≡ true
        → h x ≡ h y) → (x : ℕ) → mem x (those (solid ids) n) ≡ true → h (f x) ≡ h x
    inner h c x mx =
        z.good.inner h (λ a b k. c a b (member k.within.0 k.solids.0) (member k.within.1 k.solids.1) k.share) x
        (those_mem (solid ids) n x mx).0
      where
        member : {y : ℕ} → y < length t → solid ids y ≡ true → mem y (those (solid ids) n) ≡ true
        member {y} l s = mem_those (solid ids) n y l s

    total : sum_by (λ x. bit (eqb (f x) x)) (those (solid ids) n) ≡ length (groups joined (those (solid ids) n))
    total =
        counted joined (λ x y h. share_both (triangle ids x) (triangle ids y) h) (those (solid ids) n) (those_once (solid ids) n) f
        (λ x y mx my j. z.follows x y (link x y mx my j)) inner
