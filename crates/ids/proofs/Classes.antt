-- What the groups are: none is empty, each element is in the groups as often as in the list, a chain of joined elements leads between any
-- two of a group, and
-- none leads out of one. `pieces` counts these classes of the distinct-id triangles. Assumes nothing.
use mathlib.Core.Path.{◌≡◌, refl, sym, ◌∙◌, subst}
use mathlib.Core.Bool.{Bool, true, false, cond, false≢true}
use mathlib.Core.List.{List, [], ◌∷◌, ◌++◌}
use Prim.Native.Nat.{ℕ}
use borrow.Author.Tests.{eq-eqb, eqb-true}
use lib.Dec.{eqb}
use lib.ListN.{length}
use Rattle.ids.specs.Uses.{bit}
use Rattle.ids.specs.Triangles.{triangle}
use Rattle.ids.specs.Pieces.{any, touched, groups, share_edge, solids, pieces}
use Rattle.ids.specs.Classes.{mem, Chain, Each, AreClasses}
use Rattle.ids.specs.Classes.Chain.{here, step}
use Rattle.ids.proofs.Groups.{Group, total, witness, mem_append, or_cases, or_left, or_right, each_apart, each_map, part_mem}
use Rattle.ids.proofs.Groups.{are_groups}
use Rattle.ids.proofs.Shared.{share_both}

module _ (joined : ℕ → ℕ → Bool) (both : (x y : ℕ) → joined x y ≡ true → joined y x ≡ true) where
  then : {ts : List ℕ} {x y z : ℕ} → Chain joined ts x y → Chain joined ts y z → Chain joined ts x z
  then here d = d
  then (step m n j c) d = step m n j (then c d)

  back : {ts : List ℕ} {x y : ℕ} → Chain joined ts x y → Chain joined ts y x
  back here = here
  back (step {x} {y} {z} m n j c) = then (back c) (step n m (both x y j) here)

  wider : {ts : List ℕ} {x y : ℕ} (t : ℕ) → Chain joined ts x y → Chain joined (t ∷ ts) x y
  unfolding any
  wider t here = here
  wider t (step {x} {y} {z} m n j c) = step (or_right (eqb x t) _ m) (or_right (eqb y t) _ n) j (wider t c)

  abbrev Tied : List ℕ → List ℕ → Type 0
  Tied ts g = (x y : ℕ) → mem x g ≡ true → mem y g ≡ true → Chain joined ts x y

  touched_tied : (t : ℕ) (ts : List ℕ) (gs : List (List ℕ)) → Each (Group joined ts) gs → Each (Tied ts) gs → (x : ℕ)
      → mem x (touched (joined t) gs) ≡ true → Chain joined (t ∷ ts) t x
  unfolding touched any
  touched_tied t ts [] e o x m = absurd (false≢true m)
  touched_tied t ts (g ∷ gs) e o x m = go (any (joined t) g) refl m (touched_tied t ts gs e.1 o.1 x)
    where
      go : (b : Bool) → any (joined t) g ≡ b → mem x (cond b (g ++ touched (joined t) gs) (touched (joined t) gs)) ≡ true
          → (mem x (touched (joined t) gs) ≡ true → Chain joined (t ∷ ts) t x) → Chain joined (t ∷ ts) t x
      go true n m ih =
          let w = witness (joined t) g n in
          or_cases (mem x g) (mem x (touched (joined t) gs)) (sym (mem_append x g _) ∙ m)
          (λ q. step (or_left (eqb t t) _ (eq-eqb t t refl)) (or_right (eqb w.0 t) _ (part_mem g ts e.0.part w.0 w.1))
          w.2 (wider t (o.0 w.0 x w.1 q))) ih
      go false n m ih = ih m

  tied_next : (t : ℕ) (ts : List ℕ) → Each (Tied ts) (groups joined ts) → Each (Tied (t ∷ ts)) (groups joined (t ∷ ts))
  unfolding groups any
  tied_next t ts o = (first, each_apart (joined t) (groups joined ts) (λ g k n x y mx my. wider t (k x y mx my)) o)
    where
      from : (x : ℕ) → mem x (t ∷ touched (joined t) (groups joined ts)) ≡ true → Chain joined (t ∷ ts) t x
      from x m =
          or_cases (eqb x t) (mem x (touched (joined t) (groups joined ts))) m
          (λ e. subst (Chain joined (t ∷ ts) t) (sym (eqb-true x t e)) here)
          (λ e. touched_tied t ts (groups joined ts) (are_groups joined both ts) o x e)

      first : Tied (t ∷ ts) (t ∷ touched (joined t) (groups joined ts))
      first x y mx my = then (back (from x mx)) (from y my)

  -- in one group: a chain
  tied : (ts : List ℕ) → Each (Tied ts) (groups joined ts)
  unfolding groups
  tied [] = tt
  tied (t ∷ ts) = tied_next t ts (tied ts)

  kept : (ts g : List ℕ) → Group joined ts g → (x y : ℕ) → Chain joined ts x y → mem x g ≡ true → mem y g ≡ true
  kept ts g k x y here m = m
  kept ts g k x z (step {y = y} mx my j c) m = kept ts g k y z c (k.shut x y my j m)

  -- a chain: in one group
  chained : (ts : List ℕ) → Each (λ g. ((x y : ℕ) → Chain joined ts x y → mem x g ≡ true → mem y g ≡ true)) (groups joined ts)
  chained ts = each_map (groups joined ts) (kept ts) (are_groups joined both ts)

  some_of : (ts : List ℕ) → Each (λ g. (x : ℕ) × (mem x g ≡ true)) (groups joined ts)
  some_of ts = each_map (groups joined ts) (λ g k. k.some) (are_groups joined both ts)

  -- the groups are the classes of the relation that the joins generate
  pub groups_are_classes : (ts : List ℕ) → AreClasses joined ts (groups joined ts)
  groups_are_classes ts =
      record { some = some_of ts; once = λ x. total (λ y. bit (eqb x y)) joined ts; tied = tied ts; closed = chained ts }

-- do triangles s and t share an edge?
abbrev pub sharing : List ℕ → ℕ → ℕ → Bool
sharing ids s t = share_edge (triangle ids s) (triangle ids t)

-- the classes of the distinct-id triangles that chains of shared edges make; `pieces` counts them
pub pieces_are_classes : (ids : List ℕ) → AreClasses (sharing ids) (solids ids) (groups (sharing ids) (solids ids))
    × (pieces share_edge ids ≡ length (groups (sharing ids) (solids ids)))
unfolding pieces
pieces_are_classes ids = (groups_are_classes (sharing ids) (λ x y h. share_both (triangle ids x) (triangle ids y) h) (solids ids), refl)
