-- Ids turned inside out: turned twice they are as they were, each triangle is turned and stays as distinct as it was, and what is asked of
-- each triangle or each id in turn goes through the turning. Assumes nothing.
use mathlib.Core.Path.{◌≡◌, refl, sym, ap, ◌∙◌}
use mathlib.Core.Bool.{Bool, not, ◌&&◌, and_comm, and_assoc}
use mathlib.Core.List.{List, [], ◌∷◌, ◌++◌}
use Prim.Native.Nat.{ℕ, zero, suc, ◌*◌, ◌<◌}
use native.Mathlib.Omega.{arith}
use native.Mathlib.Decide.{ℕ_discrete}
use borrow.Author.Tests.{eq-eqb, ne_eqb}
use lib.Dec.{eqb}
use lib.ListN.{length, drop}
use Rattle.ids.specs.Triangles.{Triangle, distinct, over_triangles, triangle, triangle_count}
use Rattle.ids.specs.Reversed.{turned_triangle, reversed, ReversedIs, TurnedDistinct}
use Rattle.ids.proofs.Numbered.{triangle_behind}

-- ---- what that is

reversed_twice : (ids : List ℕ) → reversed (reversed ids) ≡ ids
unfolding reversed
reversed_twice [] = refl
reversed_twice (a ∷ []) = refl
reversed_twice (a ∷ b ∷ []) = refl
reversed_twice (a ∷ b ∷ c ∷ ids) = ap (λ (l : List ℕ). a ∷ b ∷ c ∷ l) (reversed_twice ids)

reversed_long : (ids : List ℕ) → length (reversed ids) ≡ length ids
unfolding reversed
reversed_long [] = refl
reversed_long (a ∷ []) = refl
reversed_long (a ∷ b ∷ []) = refl
reversed_long (a ∷ b ∷ c ∷ ids) = ap (λ (n : ℕ). suc (suc (suc n))) (reversed_long ids)

first_turned : (a b c : ℕ) (x y : List ℕ) → triangle (a ∷ c ∷ b ∷ x) 0 ≡ turned_triangle (triangle (a ∷ b ∷ c ∷ y) 0)
unfolding triangle
first_turned a b c x y = refl

each_turned : (ids : List ℕ) (t : ℕ) → t < triangle_count ids → triangle (reversed ids) t ≡ turned_triangle (triangle ids t)
unfolding reversed
each_turned [] t l = absurd (omega arith)
each_turned (a ∷ []) t l = absurd (omega arith)
each_turned (a ∷ b ∷ []) t l = absurd (omega arith)
each_turned (a ∷ b ∷ c ∷ ids) zero l = first_turned a b c (reversed ids) ids
each_turned (a ∷ b ∷ c ∷ ids) (suc t) l =
    triangle_behind a c b (reversed ids) t ∙ each_turned ids t (omega arith) ∙ ap turned_triangle (sym (triangle_behind a b c ids t))

-- what is left over stays
rest_kept : (ids : List ℕ) → drop (3 * triangle_count ids) (reversed ids) ≡ drop (3 * triangle_count ids) ids
unfolding reversed
rest_kept [] = refl
rest_kept (a ∷ []) = refl
rest_kept (a ∷ b ∷ []) = refl
rest_kept (a ∷ b ∷ c ∷ ids) =
    let more : 3 * triangle_count (a ∷ b ∷ c ∷ ids) ≡ suc (suc (suc (3 * triangle_count ids))) = omega arith in
    rw more (rest_kept ids)

pub reversed_is : (ids : List ℕ) → ReversedIs ids
reversed_is ids = record { twice = reversed_twice ids; long = reversed_long ids; each = each_turned ids; rest = rest_kept ids }

-- ---- a turned triangle repeats an id where it did

eqb_sym : (x y : ℕ) → eqb x y ≡ eqb y x
eqb_sym x y =
    elim (ℕ_discrete x y) [
      | yes e ↦ eq-eqb x y e ∙ sym (eq-eqb y x (sym e))
      | no n ↦ ne_eqb x y n ∙ sym (ne_eqb y x (λ e. n (sym e)))
    ]

pub turned_distinct : TurnedDistinct
unfolding distinct
turned_distinct t =
    rw (eqb_sym t.a t.c, eqb_sym t.c t.b, eqb_sym t.b t.a)
    (outer_swapped (not (eqb t.c t.a)) (not (eqb t.b t.c)) (not (eqb t.a t.b)))
  where
    outer_swapped : (p q r : Bool) → p && (q && r) ≡ r && (q && p)
    outer_swapped p q r = and_comm p (q && r) ∙ ap (λ (x : Bool). x && p) (and_comm q r) ∙ and_assoc r q p

-- ---- what is asked of each triangle, and of each id

pub over_reversed : {A : Type 0} (f : Triangle → List A) (ids : List ℕ)
    → over_triangles f (reversed ids) ≡ over_triangles (λ t. f (turned_triangle t)) ids
unfolding over_triangles reversed
over_reversed f [] = refl
over_reversed f (a ∷ []) = refl
over_reversed f (a ∷ b ∷ []) = refl
over_reversed f (a ∷ b ∷ c ∷ ids) = ap (λ (l : List _). f (record { a = a; b = c; c = b }) ++ l) (over_reversed f ids)

-- h gives g of each id in turn
module _ (g : ℕ → ℕ) (h : List ℕ → List ℕ) (none : h [] ≡ []) (more : (i : ℕ) (l : List ℕ) → h (i ∷ l) ≡ g i ∷ h l) where
  triple : (a b c : ℕ) (l : List ℕ) → h (a ∷ b ∷ c ∷ l) ≡ g a ∷ g b ∷ g c ∷ h l
  triple a b c l = rw (more a (b ∷ c ∷ l), more b (c ∷ l), more c l)

  pub reversed_map : (ids : List ℕ) → h (reversed ids) ≡ reversed (h ids)
  unfolding reversed
  reversed_map [] = rw none
  reversed_map (a ∷ []) = rw (more a [], none)
  reversed_map (a ∷ b ∷ []) = rw (more a (b ∷ []), more b [], none)
  reversed_map (a ∷ b ∷ c ∷ ids) = rw (triple a c b (reversed ids), triple a b c ids, reversed_map ids)
