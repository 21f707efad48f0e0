-- A loop over the triangles of a list of ids, in resume form: what the triangles so far gave and what is left gives are the whole. Assumes
-- nothing.
use mathlib.Core.Path.{◌≡◌, refl, ap, ◌∙◌}
use mathlib.Core.Bool.{true, false}
use mathlib.Core.List.{List, [], ◌∷◌, ◌++◌, append_assoc}
use Prim.Native.Nat.{ℕ, suc, ◌+◌, ◌≤◌, ◌<◌}
use native.Mathlib.Omega.{arith}
use borrow.Author.Tests.{eq-eqb, ne_eqb}
use lib.ListN.{length, get_or, drop, length-drop}
use lib.Seq.{drop-cons}
use Rattle.ids.specs.Triangles.{Triangle, distinct, over_triangles}

drop_more : (ids : List ℕ) (i j : ℕ) → j ≡ suc i → i < length ids → drop i ids ≡ get_or ids i 0 ∷ drop j ids
drop_more ids i j e l = rw e (drop-cons ids i 0 l)

-- what is left from i on is a triple and what is left from i + 3 on
pub drop_three : (ids : List ℕ) (i : ℕ) → i + 2 < length ids
    → drop i ids ≡ get_or ids i 0 ∷ get_or ids (i + 1) 0 ∷ get_or ids (i + 2) 0 ∷ drop (i + 3) ids
drop_three ids i l =
    drop_more ids i (i + 1) (omega arith) (omega arith)
    ∙ ap (λ (l : List ℕ). get_or ids i 0 ∷ l) (drop_more ids (i + 1) (i + 2) (omega arith) (omega arith))
    ∙ ap (λ (l : List ℕ). get_or ids i 0 ∷ get_or ids (i + 1) 0 ∷ l) (drop_more ids (i + 2) (i + 3) (omega arith) (omega arith))

-- the triangle whose ids stand from i on
abbrev pub triangle_at : List ℕ → ℕ → Triangle
triangle_at ids i = record { a = get_or ids i 0; b = get_or ids (i + 1) 0; c = get_or ids (i + 2) 0 }

-- distinct or not, by the three tests that code makes one after the other
module _ (a b c : ℕ) where
  pub repeats_ab : a ≡ b → distinct (record { a = a; b = b; c = c }) ≡ false
  unfolding distinct
  repeats_ab e = rw (eq-eqb a b e)

  pub repeats_bc : (a ≡ b → ⊥) → b ≡ c → distinct (record { a = a; b = b; c = c }) ≡ false
  unfolding distinct
  repeats_bc n e = rw (ne_eqb a b n, eq-eqb b c e)

  pub repeats_ca : (a ≡ b → ⊥) → (b ≡ c → ⊥) → c ≡ a → distinct (record { a = a; b = b; c = c }) ≡ false
  unfolding distinct
  repeats_ca n n' e = rw (ne_eqb a b n, ne_eqb b c n', eq-eqb c a e)

  pub repeats_none : (a ≡ b → ⊥) → (b ≡ c → ⊥) → (c ≡ a → ⊥) → distinct (record { a = a; b = b; c = c }) ≡ true
  unfolding distinct
  repeats_none n n' n'' = rw (ne_eqb a b n, ne_eqb b c n', ne_eqb c a n'')

module _ {A : Type 0} where
  pub append_none : (es : List A) → es ++ [] ≡ es
  append_none [] = refl
  append_none (e ∷ es) = ap (λ (l : List A). e ∷ l) (append_none es)

  module _ (f : Triangle → List A) where
    short : (ids : List ℕ) → length ids < 3 → over_triangles f ids ≡ []
    unfolding over_triangles
    short [] l = refl
    short (a ∷ []) l = refl
    short (a ∷ b ∷ []) l = refl
    short (a ∷ b ∷ c ∷ ids) l = absurd (omega arith)

    -- a turn: what the triangles so far gave and what is left gives are the whole
    module _ (ids : List ℕ) (i : ℕ) (es : List A) (all : es ++ over_triangles f (drop i ids) ≡ over_triangles f ids) where
      pub turn : i + 2 < length ids → (es ++ f (triangle_at ids i)) ++ over_triangles f (drop (i + 3) ids) ≡ over_triangles f ids
      unfolding over_triangles
      turn l = rw append_assoc (rw (drop_three ids i l) at all)

      pub turned : length ids ≤ i + 2 → es ≡ over_triangles f ids
      turned l = rw (short (drop i ids) (simp length-drop (omega arith)), append_none) at all
