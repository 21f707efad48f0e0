-- Pieces (02, A2): the groups of distinct-id triangles, joined wherever two share an undirected edge. What joins two triangles is a
-- parameter of `pieces`.
use Rattle.std.specs.Prelude.{ℕ, zero, suc, Bool, false, cond, ◌||◌, List, [], ◌∷◌, ◌++◌, length}
use Rattle.ids.specs.Triangles.{Triangle, distinct, triangle, triangle_count}
use Rattle.ids.specs.EdgeChain.{Edge, edge, same_edge}

-- does some element pass?
unfoldable pub any : {A : Type 0} → (A → Bool) → List A → Bool
any p [] = false
any p (x ∷ l) = p x || any p l

-- the members of all groups in which some member passes
unfoldable pub touched : {A : Type 0} → (A → Bool) → List (List A) → List A
touched p [] = []
touched p (g ∷ gs) = cond (any p g) (g ++ touched p gs) (touched p gs)

-- the groups in which none does
unfoldable pub apart : {A : Type 0} → (A → Bool) → List (List A) → List (List A)
apart p [] = []
apart p (g ∷ gs) = cond (any p g) (apart p gs) (g ∷ apart p gs)

-- the groups of a list: each element makes one group with all groups in which it is joined to a member
unfoldable pub groups : {A : Type 0} → (A → A → Bool) → List A → List (List A)
groups joined [] = []
groups joined (t ∷ ts) = (t ∷ touched (joined t) (groups joined ts)) ∷ apart (joined t) (groups joined ts)

-- is e one of t's three edges?
unfoldable pub has_edge : Triangle → Edge → Bool
has_edge t e = same_edge e (edge t.a t.b) || (same_edge e (edge t.b t.c) || same_edge e (edge t.c t.a))

-- what joins two triangles: a shared edge
unfoldable pub share_edge : Triangle → Triangle → Bool
share_edge s t = has_edge t (edge s.a s.b) || (has_edge t (edge s.b s.c) || has_edge t (edge s.c s.a))

-- the numbers below n that pass
unfoldable pub those : (ℕ → Bool) → ℕ → List ℕ
those p zero = []
those p (suc n) = cond (p n) (n ∷ those p n) (those p n)

-- triangle t has three distinct ids
unfoldable pub solid : List ℕ → ℕ → Bool
solid ids t = distinct (triangle ids t)

-- the numbers of the distinct-id triangles
unfoldable pub solids : List ℕ → List ℕ
solids ids = those (solid ids) (triangle_count ids)

-- how many groups they make
unfoldable pub pieces : (Triangle → Triangle → Bool) → List ℕ → ℕ
pieces joined ids = length (groups (λ s t. joined (triangle ids s) (triangle ids t)) (solids ids))
