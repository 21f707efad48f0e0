-- `same_edge` and `same_face` are equality, as is any test of three things each by an equality. Assumes nothing.
use mathlib.Core.Path.{◌≡◌, refl, sym, ◌∙◌}
use mathlib.Core.Logic.{◌≢◌}
use Prim.Native.Nat.{ℕ}
use mathlib.Core.Bool.{Bool, true, false, ◌&&◌, true≢false, false≢true}
use borrow.Author.Tests.{eqb-true, eq-eqb}
use lib.Dec.{eqb}
use Rattle.ids.specs.EdgeChain.{Edge, same_edge}
use Rattle.ids.specs.FaceNet.{Face, same_face}

-- both halves of a test that holds
pub both : (a b : Bool) → a && b ≡ true → (a ≡ true) × (b ≡ true)
both true b e = (refl, e)
both false b e = absurd (false≢true e)

-- three things each by a test that is equality: what is made of them is equal
module _ {A : Type 0} (test : A → A → Bool) where
  pub three_eq : {B : Type 0} → ((x y : A) → test x y ≡ true → x ≡ y) → (make : A → A → A → B) → {a b c d e f : A}
      → test a d && (test b e && test c f) ≡ true → make a b c ≡ make d e f
  three_eq eq make {a} {b} {c} {d} {e} {f} h =
      let w = both (test a d) (test b e && test c f) h in
      let v = both (test b e) (test c f) w.1 in
      λ i. make (eq a d w.0 i) (eq b e v.0 i) (eq c f v.1 i)

  pub three_refl : ((x : A) → test x x ≡ true) → (a b c : A) → test a a && (test b b && test c c) ≡ true
  three_refl same a b c = rw (same a, same b, same c)

pub eqb_refl : (n : ℕ) → eqb n n ≡ true
eqb_refl n = eq-eqb n n refl

pub edge_eq : (e f : Edge) → same_edge e f ≡ true → e ≡ f
unfolding same_edge
edge_eq e f h =
    let w = both (eqb e.low f.low) (eqb e.high f.high) h in
    λ i. record { low = eqb-true e.low f.low w.0 i; high = eqb-true e.high f.high w.1 i }

pub edge_refl : (e : Edge) → same_edge e e ≡ true
unfolding same_edge
edge_refl e = rw (eqb_refl e.low, eqb_refl e.high)

pub face_eq : (f g : Face) → same_face f g ≡ true → f ≡ g
unfolding same_face
face_eq f g h = three_eq eqb eqb-true (λ a b c. record { low = a; mid = b; high = c }) h

pub face_refl : (f : Face) → same_face f f ≡ true
unfolding same_face
face_refl f = three_refl eqb eqb_refl f.low f.mid f.high

-- a test on keys that holds of a key and itself is refused only by another key
pub same_ne : {K : Type 0} (same : K → K → Bool) → ((a : K) → same a a ≡ true) → (a b : K) → same a b ≡ false → a ≢ b
same_ne same same_refl a b differ e = true≢false (sym (same_refl b) ∙ rw e at differ)
