-- Joins make labels coarser, and only as far as the joined triangles ask: what one join does, none, and one routine after another.
-- Assumes nothing.
use mathlib.Core.Path.{◌≡◌, refl, sym, ◌∙◌, subst, fun_ext}
use mathlib.Core.List.{List}
use Prim.Native.Nat.{ℕ}
use native.Mathlib.Omega.{arith}
use lib.ListN.{length}
use Rattle.forest.specs.inner.Words.{parent_in, Planted}
use Rattle.forest.specs.inner.Labels.{LabelledBy, merged, Forest, Joined}
use Rattle.forest.proofs.Labels.{merged_keeps, merged_inner}
use Rattle.sides.specs.inner.Joins.{Joinable, Linked, Good, Labelled, More, Grows}

-- a join of two linked triangles
module _ {ids t u : List ℕ} {a b : ℕ} (e : length u ≡ length t) (k : Linked ids (length t) a b) (j : Joined t u a b) where
  good_joined : (f : ℕ → ℕ) → Good ids t f → Good ids u (merged f a b)
  good_joined f g =
      record {
        means = rw e (j.means f g.means);
        inner =
            rw e (λ h c x l. merged_inner f a b h (g.inner h c a k.within.0) (g.inner h c b k.within.1) (c a b k) x
            (g.inner h c x l));
      }

  pub more_joined : {Q : (ℕ → ℕ) → Type 0} → ((f : ℕ → ℕ) → Q (merged f a b)) → Grows ids t u Q
  more_joined q f g = record { label = merged f a b; good = good_joined f g; keeps = merged_keeps f a b; holds = q f }

-- no join
pub more_none : {ids t : List ℕ} {f : ℕ → ℕ} {Q : (ℕ → ℕ) → Type 0} → Good ids t f → Q f → More ids t f Q
more_none {f = f} g q = record { label = f; good = g; keeps = λ x y e. e; holds = q }

-- one after the other
pub more_then : {ids t u v : List ℕ} {Q R S : (ℕ → ℕ) → Type 0} → Grows ids t u Q → Grows ids u v R
    → ((g h : ℕ → ℕ) → Q g → ((x y : ℕ) → g x ≡ g y → h x ≡ h y) → R h → S h) → Grows ids t v S
more_then a b s f g =
    let p = a f g in
    let q = b p.label p.good in
    record {
      label = q.label;
      good = q.good;
      keeps = λ x y e. q.keeps x y (p.keeps x y e);
      holds = s p.label q.label p.holds q.keeps q.holds;
    }

pub labelled_then : {ids t u : List ℕ} {Q : (ℕ → ℕ) → Type 0} → Labelled ids t → Grows ids t u Q → Labelled ids u
labelled_then z more = let p = more z.0 z.1 in (p.label, p.good)

pub joinable_then : {ids t u : List ℕ} {Q : (ℕ → ℕ) → Type 0} → Joinable ids t → length u ≡ length t → Grows ids t u Q → Joinable ids u
joinable_then z long more =
    record { sized = record { few = z.sized.few; long = long ∙ z.sized.long }; labelled = labelled_then z.labelled more }

pub good_forest : {ids t : List ℕ} → Labelled ids t → Forest t
good_forest z = (z.0, z.1.means)

-- the same parents, the same labels
pub good_kept : {ids t u : List ℕ} → length u ≡ length t → ((i : ℕ) → parent_in u i ≡ parent_in t i) → {f : ℕ → ℕ} → Good ids t f
    → Good ids u f
good_kept {t = t} {u = u} e same {f = f} g =
    let p : parent_in t ≡ parent_in u = fun_ext (λ i. sym (same i)) in
    record { means = rw e (subst (λ (q : ℕ → ℕ). LabelledBy (length t) q f) p g.means); inner = rw e g.inner }

-- before any join each triangle has its own label
pub good_planted : {ids t : List ℕ} → Planted (length t) t → Good ids t (λ x. x)
good_planted h =
    record {
      means =
          record {
            down = λ i l. omega (arith, h.parents i l);
            same = λ i l. h.parents i l;
            least = λ i l. omega arith;
            top = λ i l. h.parents i l;
            own = λ i l e. refl;
          };
      inner = λ g c x l. refl;
    }
