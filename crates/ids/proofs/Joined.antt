-- The groups of a list depend only on what joins its own elements; so pieces do not see turning where what joins two triangles does not.
-- Assumes nothing.
use mathlib.Core.Path.{◌≡◌, refl, ap, ◌∙◌}
use mathlib.Core.Bool.{Bool, true}
use mathlib.Core.List.{List, [], ◌∷◌}
use Prim.Native.Nat.{ℕ, zero, suc, ◌≤◌, ◌<◌}
use native.Mathlib.Omega.{arith}
use borrow.Author.Tests.{eq-eqb}
use lib.Dec.{eqb}
use lib.ListN.{length}
use Rattle.ids.specs.Uses.{sum_by}
use Rattle.ids.specs.Triangles.{Triangle, distinct, triangle, triangle_count}
use Rattle.ids.specs.Pieces.{any, touched, apart, groups, those, solid, solids, pieces}
use Rattle.ids.specs.Classes.{mem, Each}
use Rattle.ids.specs.Reversed.{turned_triangle, reversed}
use Rattle.ids.proofs.Groups.{or_left, or_right, part_mem, total}
use Rattle.ids.proofs.Solids.{those_mem}
use Rattle.ids.proofs.Reversed.{reversed_is, turned_distinct}

-- ---- groups, by two tests that agree on the list's elements

-- the elements of each group are elements of the list
abbrev Inside : List ℕ → List (List ℕ) → Type 0
Inside ts gs = Each (λ g. (x : ℕ) → mem x g ≡ true → mem x ts ≡ true) gs

inside : (ts : List ℕ) (gs : List (List ℕ)) → ((w : ℕ → ℕ) → sum_by (sum_by w) gs ≤ sum_by w ts) → Inside ts gs
unfolding sum_by
inside ts [] h = tt
inside ts (g ∷ gs) h = (part_mem g ts (λ w. omega (arith, h w)), inside ts gs (λ w. omega (arith, h w)))

any_same : (p q : ℕ → Bool) (l : List ℕ) → ((x : ℕ) → mem x l ≡ true → p x ≡ q x) → any p l ≡ any q l
unfolding any
any_same p q [] h = refl
any_same p q (x ∷ l) h =
    rw (h x (or_left (eqb x x) _ (eq-eqb x x refl)), any_same p q l (λ y m. h y (or_right (eqb y x) _ m)))

module _ (p q : ℕ → Bool) (ts : List ℕ) (agree : (x : ℕ) → mem x ts ≡ true → p x ≡ q x) where
  split_same : (gs : List (List ℕ)) → Inside ts gs → (touched p gs ≡ touched q gs) × (apart p gs ≡ apart q gs)
  unfolding touched apart
  split_same [] e = (refl, refl)
  split_same (g ∷ gs) e =
      let first = any_same p q g (λ x m. agree x (e.0 x m)) in
      let rest = split_same gs e.1 in
      (rw (first, rest.0), rw (first, rest.1))

groups_same : (r s : ℕ → ℕ → Bool) (ts : List ℕ) → ((x y : ℕ) → mem x ts ≡ true → mem y ts ≡ true → r x y ≡ s x y)
    → groups r ts ≡ groups s ts
unfolding groups any
groups_same r s [] h = refl
groups_same r s (t ∷ ts) h =
    let ih = groups_same r s ts (λ x y mx my. h x y (or_right (eqb x t) _ mx) (or_right (eqb y t) _ my)) in
    let row : (x : ℕ) → mem x ts ≡ true → r t x ≡ s t x =
    λ x m. h t x (or_left (eqb t t) _ (eq-eqb t t refl)) (or_right (eqb x t) _ m) in
    let split = split_same (r t) (s t) ts row (groups r ts) (inside ts (groups r ts) (λ w. omega (arith, total w r ts))) in
    rw (split.0, split.1, ih)

those_same : (p q : ℕ → Bool) (n : ℕ) → ((i : ℕ) → i < n → p i ≡ q i) → those p n ≡ those q n
unfolding those
those_same p q zero h = refl
those_same p q (suc n) h = rw (h n (omega arith), those_same p q n (λ i l. h i (omega arith)))

-- ---- triangles turned

solids_reversed : (ids : List ℕ) → solids (reversed ids) ≡ solids ids
unfolding solids solid
solids_reversed ids =
    rw (reversed_is ids).long (those_same (solid (reversed ids)) (solid ids) (triangle_count ids)
    (λ t l. ap distinct ((reversed_is ids).each t l) ∙ turned_distinct (triangle ids t)))

solid_turned : (ids : List ℕ) (t : ℕ) → mem t (solids ids) ≡ true → triangle (reversed ids) t ≡ turned_triangle (triangle ids t)
unfolding solids
solid_turned ids t m = (reversed_is ids).each t (those_mem (solid ids) (triangle_count ids) t m).0

-- as many pieces, where what joins two triangles does not see turning
pub pieces_reversed : (joined : Triangle → Triangle → Bool)
    → ((s t : Triangle) → joined (turned_triangle s) (turned_triangle t) ≡ joined s t)
    → (ids : List ℕ) → pieces joined (reversed ids) ≡ pieces joined ids
unfolding pieces
pieces_reversed joined unseen ids = rw (solids_reversed ids) (ap length (groups_same _ _ (solids ids) same))
  where
    same : (s t : ℕ) → mem s (solids ids) ≡ true → mem t (solids ids) ≡ true
        → joined (triangle (reversed ids) s) (triangle (reversed ids) t) ≡ joined (triangle ids s) (triangle ids t)
    same s t ms mt = rw (solid_turned ids s ms, solid_turned ids t mt) (unseen (triangle ids s) (triangle ids t))
