-- The groups of a list, and labels: a labelling that is as coarse as the joins ask, and no coarser, has one element that is its own label
-- in each group.
-- Assumes nothing.
use mathlib.Core.Path.{◌≡◌, refl, sym, ap, ◌∙◌, subst}
use mathlib.Core.Bool.{Bool, true, false, cond, ◌||◌, true≢false, false≢true}
use mathlib.Core.List.{List, [], ◌∷◌, ◌++◌}
use Prim.Native.Nat.{ℕ, ◌+◌, ◌≤◌, ◌<◌}
use native.Mathlib.Omega.{arith}
use native.Mathlib.Decide.{dec_lt}
use borrow.Author.Tests.{eq-eqb, eqb-true}
use lib.Dec.{eqb}
use lib.ListN.{length}
use Rattle.ids.specs.Uses.{bit, sum_by, times}
use Rattle.ids.specs.Pieces.{any, touched, apart, groups}
use Rattle.ids.specs.Classes.{mem, Each}

-- ---- members

pub or_cases : {C : Type 0} (a b : Bool) → a || b ≡ true → (a ≡ true → C) → (b ≡ true → C) → C
or_cases true b h f g = f refl
or_cases false b h f g = g h

pub or_right : (a b : Bool) → b ≡ true → a || b ≡ true
or_right true b h = refl
or_right false b h = h

pub neither : (a b : Bool) → a || b ≡ false → (a ≡ false) × (b ≡ false)
neither true b h = absurd (true≢false h)
neither false b h = (refl, h)

pub or_left : (a b : Bool) → a ≡ true → a || b ≡ true
or_left true b h = refl
or_left false b h = absurd (false≢true h)

-- a member, of a test that some member passes
pub witness : (p : ℕ → Bool) (l : List ℕ) → any p l ≡ true → (x : ℕ) × (mem x l ≡ true) × (p x ≡ true)
unfolding any
witness p [] h = absurd (false≢true h)
witness p (x ∷ l) h =
    or_cases (p x) (any p l) h (λ q. (x, or_left (eqb x x) _ (eq-eqb x x refl), q))
    (λ q. let r = witness p l q in (r.0, or_right (eqb r.0 x) _ r.1, r.2))

pub any_of : (p : ℕ → Bool) (l : List ℕ) (x : ℕ) → mem x l ≡ true → p x ≡ true → any p l ≡ true
unfolding any
any_of p [] x h q = absurd (false≢true h)
any_of p (y ∷ l) x h q =
    or_cases (eqb x y) (mem x l) h (λ e. or_left (p y) _ (subst (λ (z : ℕ). p z ≡ true) (eqb-true x y e) q))
    (λ e. or_right (p y) _ (any_of p l x e q))

pub mem_append : (x : ℕ) (l m : List ℕ) → mem x (l ++ m) ≡ mem x l || mem x m
unfolding any
mem_append x [] m = refl
mem_append x (y ∷ l) m = assoc (eqb x y) (mem x l) (mem x m) (mem x (l ++ m)) (mem_append x l m)
  where
    assoc : (a b c d : Bool) → d ≡ b || c → a || d ≡ (a || b) || c
    assoc true b c d h = refl
    assoc false b c d h = h

pub sum_append : {K : Type 0} (w : K → ℕ) (l m : List K) → sum_by w (l ++ m) ≡ sum_by w l + sum_by w m
unfolding sum_by
sum_append w [] m = omega arith
sum_append w (x ∷ l) m = omega (arith, sum_append w l m)

-- the groups hold the list's elements, each as often as it stands there
split_sum : (w : ℕ → ℕ) (p : ℕ → Bool) (gs : List (List ℕ)) → sum_by w (touched p gs) + sum_by (sum_by w) (apart p gs) ≡ sum_by (sum_by w) gs
unfolding touched apart sum_by
split_sum w p [] = omega arith
split_sum w p (g ∷ gs) = go (any p g) (split_sum w p gs)
  where
    go : (b : Bool) → sum_by w (touched p gs) + sum_by (sum_by w) (apart p gs) ≡ sum_by (sum_by w) gs
        → sum_by w (cond b (g ++ touched p gs) (touched p gs)) + sum_by (sum_by w) (cond b (apart p gs) (g ∷ apart p gs))
        ≡ sum_by w g + sum_by (sum_by w) gs
    go true h = omega (arith, sum_append w g (touched p gs))
    go false h = omega arith

pub total : (w : ℕ → ℕ) (r : ℕ → ℕ → Bool) (ts : List ℕ) → sum_by (sum_by w) (groups r ts) ≡ sum_by w ts
unfolding groups sum_by
total w r [] = refl
total w r (t ∷ ts) = omega (arith, split_sum w (r t) (groups r ts), total w r ts)

pub times_mem : (x : ℕ) (l : List ℕ) → mem x l ≡ true → 0 < times eqb x l
unfolding any sum_by bit
times_mem x [] h = absurd (false≢true h)
times_mem x (y ∷ l) h = go (eqb x y) h (times_mem x l)
  where
    go : (b : Bool) → b || mem x l ≡ true → (mem x l ≡ true → 0 < times eqb x l) → 0 < bit b + times eqb x l
    go true h f = omega arith
    go false h f = omega (arith, f h)

pub mem_times : (x : ℕ) (l : List ℕ) → 0 < times eqb x l → mem x l ≡ true
unfolding any sum_by bit
mem_times x [] h = absurd (omega arith)
mem_times x (y ∷ l) h = go (eqb x y) h (mem_times x l)
  where
    go : (b : Bool) → 0 < bit b + times eqb x l → (0 < times eqb x l → mem x l ≡ true) → b || mem x l ≡ true
    go true h f = refl
    go false h f = f (omega arith)

pub each_map : {P Q : List ℕ → Type 0} (gs : List (List ℕ)) → ((g : List ℕ) → P g → Q g) → Each P gs → Each Q gs
each_map [] f e = tt
each_map (g ∷ gs) f e = (f g e.0, each_map gs f e.1)

pub each_apart : {P Q : List ℕ → Type 0} (p : ℕ → Bool) (gs : List (List ℕ)) → ((g : List ℕ) → P g → any p g ≡ false → Q g)
    → Each P gs → Each Q (apart p gs)
unfolding apart
each_apart p [] f e = tt
each_apart {P} {Q} p (g ∷ gs) f e = go (any p g) refl (each_apart p gs f e.1)
  where
    go : (b : Bool) → any p g ≡ b → Each Q (apart p gs) → Each Q (cond b (apart p gs) (g ∷ apart p gs))
    go true h r = r
    go false h r = (f g e.0 h, r)

-- what a group of a list's groups is
pub record Group (joined : ℕ → ℕ → Bool) (ts g : List ℕ) : Type 0 where
  pub some : (x : ℕ) × (mem x g ≡ true)
  pub part : (w : ℕ → ℕ) → sum_by w g ≤ sum_by w ts
  pub shut : (x y : ℕ) → mem y ts ≡ true → joined x y ≡ true → mem x g ≡ true → mem y g ≡ true

pub part_mem : (g ts : List ℕ) → ((w : ℕ → ℕ) → sum_by w g ≤ sum_by w ts) → (x : ℕ) → mem x g ≡ true → mem x ts ≡ true
part_mem g ts h x m = mem_times x ts (omega (arith, times_mem x g m, h (λ y. bit (eqb x y))))

-- a group has one label
abbrev pub One : (ℕ → ℕ) → List ℕ → Type 0
One f g = (x y : ℕ) → mem x g ≡ true → mem y g ≡ true → f x ≡ f y

bit_same : (a b : Bool) → (a ≡ true → b ≡ true) → (b ≡ true → a ≡ true) → bit a ≡ bit b
bit_same true true f g = refl
bit_same true false f g = absurd (false≢true (f refl))
bit_same false true f g = absurd (false≢true (g refl))
bit_same false false f g = refl

pub bit_true : (a b : Bool) → bit a ≡ bit b → b ≡ true → a ≡ true
unfolding bit
bit_true true b e h = refl
bit_true false true e h = absurd (omega arith)
bit_true false false e h = h

module _ (joined : ℕ → ℕ → Bool) (both : (x y : ℕ) → joined x y ≡ true → joined y x ≡ true) where
  -- an element of the touched groups
  touched_covers : (t y : ℕ) (gs : List (List ℕ)) → 0 < sum_by (times eqb y) gs → joined t y ≡ true → mem y (touched (joined t) gs) ≡ true
  unfolding sum_by touched
  touched_covers t y [] h j = absurd (omega arith)
  touched_covers t y (g ∷ gs) h j = go (mem y g) refl (any (joined t) g) refl (λ l. touched_covers t y gs l j)
    where
      go : (a : Bool) → mem y g ≡ a → (b : Bool) → any (joined t) g ≡ b
          → (0 < sum_by (times eqb y) gs → mem y (touched (joined t) gs) ≡ true)
          → mem y (cond b (g ++ touched (joined t) gs) (touched (joined t) gs)) ≡ true
      go true m true n ih = mem_append y g _ ∙ or_left (mem y g) _ m
      go true m false n ih = absurd (true≢false (sym (any_of (joined t) g y m j) ∙ n))
      go false m true n ih = mem_append y g _ ∙ or_right (mem y g) _ (ih (rest m))
        where
          rest : mem y g ≡ false → 0 < sum_by (times eqb y) gs
          rest q = elim (dec_lt 0 (times eqb y g)) [ yes l ↦ absurd (true≢false (sym (mem_times y g l) ∙ q)) | no l ↦ omega arith ]
      go false m false n ih = ih (rest m)
        where
          rest : mem y g ≡ false → 0 < sum_by (times eqb y) gs
          rest q = elim (dec_lt 0 (times eqb y g)) [ yes l ↦ absurd (true≢false (sym (mem_times y g l) ∙ q)) | no l ↦ omega arith ]

  touched_shut : (p : ℕ → Bool) (ts : List ℕ) (gs : List (List ℕ)) → Each (Group joined ts) gs → (x y : ℕ) → mem y ts ≡ true
      → joined x y ≡ true → mem x (touched p gs) ≡ true → mem y (touched p gs) ≡ true
  unfolding touched any
  touched_shut p ts [] e x y my j mx = absurd (false≢true mx)
  touched_shut p ts (g ∷ gs) e x y my j mx = go (any p g) mx (touched_shut p ts gs e.1 x y my j)
    where
      go : (b : Bool) → mem x (cond b (g ++ touched p gs) (touched p gs)) ≡ true
          → (mem x (touched p gs) ≡ true → mem y (touched p gs) ≡ true) → mem y (cond b (g ++ touched p gs) (touched p gs)) ≡ true
      go true m ih =
          mem_append y g _ ∙ or_cases (mem x g) (mem x (touched p gs)) (sym (mem_append x g _) ∙ m)
          (λ q. or_left (mem y g) _ (e.0.shut x y my j q)) (λ q. or_right (mem y g) _ (ih q))
      go false m ih = ih m

  -- one element more
  one_more : (t : ℕ) (ts : List ℕ) → Each (Group joined ts) (groups joined ts) → Each (Group joined (t ∷ ts)) (groups joined (t ∷ ts))
  unfolding groups any sum_by
  one_more t ts ih = (first, each_apart (joined t) gs other ih)
    where
      gs : List (List ℕ)
      gs = groups joined ts

      news : (x y : ℕ) → mem y (t ∷ ts) ≡ true → joined x y ≡ true → mem x (t ∷ touched (joined t) gs) ≡ true
          → mem y (t ∷ touched (joined t) gs) ≡ true
      news x y my j mx = or_cases (eqb y t) (mem y ts) my (λ e. or_left (eqb y t) _ e) (λ e. or_right (eqb y t) _
          (or_cases (eqb x t) (mem x (touched (joined t) gs)) mx
          (λ q. touched_covers t y gs (omega (arith, total (λ z. bit (eqb y z)) joined ts, times_mem y ts e))
          (subst (λ (z : ℕ). joined z y ≡ true) (eqb-true x t q) j))
          (λ q. touched_shut (joined t) ts gs ih x y e j q)))

      first : Group joined (t ∷ ts) (t ∷ touched (joined t) gs)
      first = record {
        some = (t, or_left (eqb t t) _ (eq-eqb t t refl));
        part = λ w. omega (arith, split_sum w (joined t) gs, total w joined ts);
        shut = news;
      }

      other : (g : List ℕ) → Group joined ts g → any (joined t) g ≡ false → Group joined (t ∷ ts) g
      other g h n = record {
        some = h.some;
        part = λ w. omega (arith, h.part w);
        shut = λ x y my j mx. or_cases (eqb y t) (mem y ts) my
            (λ e. absurd (true≢false (sym (any_of (joined t) g x mx
            (both x t (subst (λ (z : ℕ). joined x z ≡ true) (eqb-true y t e) j))) ∙ n)))
            (λ e. h.shut x y e j mx);
      }

  -- each of the groups is one
  pub are_groups : (ts : List ℕ) → Each (Group joined ts) (groups joined ts)
  unfolding groups
  are_groups [] = tt
  are_groups (t ∷ ts) = one_more t ts (are_groups ts)

  -- a labelling of a list's elements that gives joined ones one label
  abbrev pub Follows : List ℕ → (ℕ → ℕ) → Type 0
  Follows ts f = (x y : ℕ) → mem x ts ≡ true → mem y ts ≡ true → joined x y ≡ true → f x ≡ f y

  touched_one : (f : ℕ → ℕ) (t : ℕ) (ts : List ℕ) (gs : List (List ℕ)) → Each (Group joined ts) gs → Each (One f) gs
      → ((y : ℕ) → mem y ts ≡ true → joined t y ≡ true → f t ≡ f y)
      → (x : ℕ) → mem x (touched (joined t) gs) ≡ true → f t ≡ f x
  unfolding touched any
  touched_one f t ts [] e o h x m = absurd (false≢true m)
  touched_one f t ts (g ∷ gs) e o h x m = go (any (joined t) g) refl m (touched_one f t ts gs e.1 o.1 h x)
    where
      go : (b : Bool) → any (joined t) g ≡ b → mem x (cond b (g ++ touched (joined t) gs) (touched (joined t) gs)) ≡ true
          → (mem x (touched (joined t) gs) ≡ true → f t ≡ f x) → f t ≡ f x
      go true n m ih =
          let w = witness (joined t) g n in
          or_cases (mem x g) (mem x (touched (joined t) gs)) (sym (mem_append x g _) ∙ m)
          (λ q. h w.0 (part_mem g ts e.0.part w.0 w.1) w.2 ∙ o.0 w.0 x w.1 q) ih
      go false n m ih = ih m

  one_next : (f : ℕ → ℕ) (t : ℕ) (ts : List ℕ) → Follows (t ∷ ts) f → Each (One f) (groups joined ts)
      → Each (One f) (groups joined (t ∷ ts))
  unfolding groups any
  one_next f t ts h o = (first, each_apart (joined t) (groups joined ts) (λ g k n. k) o)
    where
      one : (x : ℕ) → mem x (t ∷ touched (joined t) (groups joined ts)) ≡ true → f t ≡ f x
      one x m = or_cases (eqb x t) (mem x (touched (joined t) (groups joined ts))) m (λ e. ap f (sym (eqb-true x t e)))
          (λ e. touched_one f t ts (groups joined ts) (are_groups ts) o
          (λ y my j. h t y (or_left (eqb t t) _ (eq-eqb t t refl)) (or_right (eqb y t) _ my) j) x e)

      first : One f (t ∷ touched (joined t) (groups joined ts))
      first x y mx my = sym (one x mx) ∙ one y my

  pub groups_one : (f : ℕ → ℕ) (ts : List ℕ) → Follows ts f → Each (One f) (groups joined ts)
  unfolding groups any
  groups_one f [] h = tt
  groups_one f (t ∷ ts) h = one_next f t ts h (groups_one f ts (λ x y mx my j. h x y (or_right (eqb x t) _ mx) (or_right (eqb y t) _ my) j))

  -- to be in a group or not is such a labelling
  pub in_or_out : (ts g : List ℕ) → Group joined ts g → Follows ts (λ x. bit (mem x g))
  in_or_out ts g k x y mx my j = bit_same (mem x g) (mem y g) (k.shut x y my j) (k.shut y x mx (both x y j))

  -- ---- the count

  sum_same : (v w : ℕ → ℕ) (l : List ℕ) → ((x : ℕ) → mem x l ≡ true → v x ≡ w x) → sum_by v l ≡ sum_by w l
  unfolding sum_by any
  sum_same v w [] h = refl
  sum_same v w (x ∷ l) h = omega (arith, h x (or_left (eqb x x) _ (eq-eqb x x refl)), sum_same v w l (λ y m. h y (or_right (eqb y x) _ m)))

  each_one : (w : ℕ → ℕ) (gs : List (List ℕ)) → Each (λ g. sum_by w g ≡ 1) gs → sum_by (sum_by w) gs ≡ length gs
  unfolding sum_by
  each_one w [] e = refl
  each_one w (g ∷ gs) e = omega (arith, e.0, each_one w gs e.1)

  each_both : (P Q : List ℕ → Type 0) (gs : List (List ℕ)) → Each P gs → Each Q gs → Each (λ g. P g × Q g) gs
  each_both P Q [] a b = tt
  each_both P Q (g ∷ gs) a b = ((a.0, b.0), each_both P Q gs a.1 b.1)

  module _ (ts : List ℕ) (once : (x : ℕ) → times eqb x ts ≤ 1) (f : ℕ → ℕ) (follows : Follows ts f)
      (inner : (h : ℕ → ℕ) → Follows ts h → (x : ℕ) → mem x ts ≡ true → h (f x) ≡ h x) where
    in_group : (g : List ℕ) → Group joined ts g × One f g → sum_by (λ x. bit (eqb (f x) x)) g ≡ 1
    unfolding bit
    in_group g k =
        let x = k.0.some.0 in
        let mx = k.0.some.1 in
        let same : bit (mem (f x) g) ≡ bit (mem x g) =
        inner (λ z. bit (mem z g)) (in_or_out ts g k.0) x (part_mem g ts k.0.part x mx) in
        let root = bit_true (mem (f x) g) (mem x g) same mx in
        sum_same (λ y. bit (eqb (f y) y)) (λ y. bit (eqb (f x) y)) g (λ y my. ap (λ (z : ℕ). bit (eqb z y)) (k.1 y x my mx))
        ∙ (omega (arith, times_mem (f x) g root, k.0.part (λ y. bit (eqb (f x) y)), once (f x)))

    -- as many elements are their own labels as there are groups
    pub counted : sum_by (λ x. bit (eqb (f x) x)) ts ≡ length (groups joined ts)
    counted =
        sym (total (λ x. bit (eqb (f x) x)) joined ts)
        ∙ each_one _ (groups joined ts) (each_map (groups joined ts) in_group
        (each_both (Group joined ts) (One f) (groups joined ts) (are_groups ts) (groups_one f ts follows)))
