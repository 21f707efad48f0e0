-- The way up to a root, and two roots joined: what `root` and `join` of the forest do, from word to word. Assumes nothing.
use mathlib.Core.Path.{◌≡◌, sym, ap, ◌∙◌, subst, fun_ext}
use mathlib.Core.Logic.{◌≢◌}
use mathlib.Core.Bool.{cond}
use mathlib.Core.List.{List}
use Prim.Native.Nat.{ℕ, ◌+◌, ◌*◌, ◌≤◌, ◌<◌}
use native.Mathlib.Omega.{arith}
use lib.Dec.{eqb}
use lib.ListN.{length, length-set}
use Rattle.forest.specs.inner.Words.{parent_in, held_in, with_parent}
use Rattle.forest.specs.inner.Labels.{LabelledBy, Forest, merged, RootOf, Joined}
use Rattle.forest.proofs.Words.{parent_here, parent_else, slots_stay}
use Rattle.forest.proofs.Labels.{halved, hung, merged_up, merged_down}

-- ---- the way up to a root

pub record Climb (t u : List ℕ) (a x : ℕ) : Type 0 where
  pub inside : x < length t
  pub long : length u ≡ length t
  pub means : (f : ℕ → ℕ) → LabelledBy (length t) (parent_in t) f → LabelledBy (length t) (parent_in u) f
  pub label : (f : ℕ → ℕ) → LabelledBy (length t) (parent_in t) f → f x ≡ f a
  pub slots : (i : ℕ) → held_in u i ≡ held_in t i

-- two steps up: in u x hangs on p, which is another, and p on q; in v x hangs on q
pub record Raised (u v : List ℕ) (x p q : ℕ) : Type 0 where
  pub parent : p ≡ parent_in u x
  pub other : p ≢ x
  pub above : q ≡ parent_in u p
  pub hangs : v ≡ with_parent u x q

module _ {t u : List ℕ} {a x : ℕ} (c : Climb t u a x) (z : Forest t) where
  pub next_inside : {p : ℕ} → p ≡ parent_in u x → (p ≤ x) × (p < length t)
  next_inside e =
      let d : parent_in u x ≤ x = (c.means z.0 z.1).down x c.inside in
      (omega arith, omega (arith, c.inside))

  pub climbed : {v : List ℕ} {p q : ℕ} → Raised u v x p q → length t ≤ 32768 → (q < x) × Climb t v a q
  climbed {v} {p} {q} up room =
      let inside = next_inside up.parent in
      let d : parent_in u p ≤ p = (c.means z.0 z.1).down p inside.1 in
      let ne = up.other in
      let small : q < 32768 = omega (arith, up.above) in
      let at : x < length u = omega (arith, c.inside, c.long) in
      let high : q ≡ parent_in u (parent_in u x) = up.above ∙ ap (parent_in u) up.parent in
      let here : parent_in v x ≡ parent_in u (parent_in u x) = ap (λ (l : List ℕ). parent_in l x) up.hangs
      ∙ parent_here u x q at small ∙ high in
      let else : (i : ℕ) → i ≢ x → parent_in v i ≡ parent_in u i =
      λ i n. ap (λ (l : List ℕ). parent_in l i) up.hangs ∙ parent_else u x q at small i n in (
        omega (arith, up.above),
        record {
          inside = omega (arith, c.inside, up.above);
          long = ap length up.hangs ∙ length-set u x (held_in u x * 32768 + q) ∙ c.long;
          means = λ f m. halved (length t) (parent_in u) (parent_in v) f (c.means f m) x c.inside here else;
          label = λ f m.
              ap f high ∙ (c.means f m).same (parent_in u x) (omega (arith, up.parent)) ∙ (c.means f m).same x c.inside ∙ c.label f m;
          slots = λ i. ap (λ (l : List ℕ). held_in l i) up.hangs ∙ slots_stay u x q at small i ∙ c.slots i;
        },
      )

  pub climbed_out : {p : ℕ} → p ≡ parent_in u x → p ≡ x → RootOf t u a x
  climbed_out ep e =
      record { is = λ f m. sym ((c.means f m).own x c.inside (sym ep ∙ e)) ∙ c.label f m; means = c.means; slots = c.slots }

-- ---- two roots joined

-- the root r above a is found, then the root s above b
pub record TwoRoots (t u v : List ℕ) (a b r s : ℕ) : Type 0 where
  pub one : a < length t
  pub two : b < length t
  pub few : length t ≤ 32768
  pub forest : Forest t
  pub long : length u ≡ length t
  pub still : length v ≡ length u
  pub first : RootOf t u a r
  pub second : RootOf u v b s

module _ {t u v : List ℕ} {a b r s : ℕ} (R : TwoRoots t u v a b r s) where
  abbrev Labels : (ℕ → ℕ) → Type 0
  Labels f = LabelledBy (length t) (parent_in t) f

  via : (f : ℕ → ℕ) → Labels f → LabelledBy (length u) (parent_in u) f
  via f m = rw R.long (R.first.means f m)

  through : (f : ℕ → ℕ) → Labels f → LabelledBy (length t) (parent_in v) f
  through f m = rw R.long at (R.second.means f (via f m))

  is_b : (f : ℕ → ℕ) → Labels f → s ≡ f b
  is_b f m = R.second.is f (via f m)

  pub roots_inside : (r < length t) × (s < length t)
  roots_inside =
      let m = R.forest.1 in
      (omega (arith, R.first.is R.forest.0 m, m.least a R.one), omega (arith, is_b R.forest.0 m, m.least b R.two))

  -- x and y are a and b in one order or the other, and y's root is hung on x's
  module _ (x y lo hi : ℕ) (lx : x < length t) (ly : y < length t) (low : (f : ℕ → ℕ) → Labels f → lo ≡ f x)
      (high : (f : ℕ → ℕ) → Labels f → hi ≡ f y)
      (le : lo ≤ hi) (merge : (f : ℕ → ℕ) → f x ≤ f y → (z : ℕ) → merged f a b z ≡ cond (eqb (f z) (f y)) (f x) (f z)) where
    inside : (lo < length t) × (hi < length t)
    inside =
        let m = R.forest.1 in
        (omega (arith, low R.forest.0 m, m.least x lx), omega (arith, high R.forest.0 m, m.least y ly))

    -- a root is its own label
    own : (f : ℕ → ℕ) → Labels f → (k z : ℕ) → z < length t → k ≡ f z → f k ≡ k
    own f m k z l e = ap f e ∙ m.own (f z) (omega (arith, m.least z l)) (m.top z l) ∙ sym e

    hung_joins : (w : List ℕ) → w ≡ with_parent v hi lo → Joined t w a b
    hung_joins w e =
        let at : hi < length v = omega (arith, inside.1, R.long, R.still) in
        let small : lo < 32768 = omega (arith, inside.0, R.few) in
        let here = ap (λ (q : List ℕ). parent_in q hi) e ∙ parent_here v hi lo at small in
        let else : (i : ℕ) → i ≢ hi → parent_in w i ≡ parent_in v i = λ i n. ap (λ (q : List ℕ). parent_in q i) e
        ∙ parent_else v hi lo at small i n in
        record {
          means = λ f m.
              subst (LabelledBy (length t) (parent_in w))
              (fun_ext (λ z. ap (λ (q : ℕ). cond (eqb (f z) q) lo (f z)) (high f m)
              ∙ ap (λ (q : ℕ). cond (eqb (f z) (f y)) q (f z)) (low f m)
              ∙ sym (merge f (omega (arith, low f m, high f m)) z)))
              (hung (length t) (parent_in v) (parent_in w) f (through f m) lo hi inside.0 inside.1
              (own f m lo x lx (low f m)) (own f m hi y ly (high f m)) le here else);
          slots = λ i. ap (λ (q : List ℕ). held_in q i) e ∙ slots_stay v hi lo at small i ∙ R.second.slots i ∙ R.first.slots i;
        }

  pub joined_up : {w : List ℕ} → r < s → w ≡ with_parent v s r → Joined t w a b
  joined_up {w} l e = hung_joins a b r s R.one R.two R.first.is is_b (omega arith) (λ f. merged_up f a b) w e

  pub joined_down : {w : List ℕ} → s ≤ r → w ≡ with_parent v r s → Joined t w a b
  joined_down {w} l e = hung_joins b a s r R.two R.one is_b R.first.is l (λ f. merged_down f a b) w e
