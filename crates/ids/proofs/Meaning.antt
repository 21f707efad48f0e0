-- Each answer is yes exactly where document 01's words hold of every edge or face. Assumes nothing.
use mathlib.Core.Path.{◌≡◌, refl, sym, ap, ◌∙◌}
use mathlib.Core.Bool.{Bool, true, false, not, ◌&&◌, true≢false, false≢true}
use mathlib.Core.List.{List}
use Prim.Native.Nat.{ℕ, zero, suc, ◌<◌}
use native.Mathlib.Omega.{arith}
use native.Mathlib.Decide.{dec_lt}
use borrow.Author.Tests.{lt-ltb, le-ltb, eq-eqb, eqb-true}
use lib.Dec.{ltb, eqb}
use lib.IntN.{ℤ, pos, negsuc, nat_abs}
use Rattle.ids.specs.Uses.{Use, bit, uses, signed_sum, keys_that, largest_sum}
use Rattle.ids.specs.EdgeChain.{Edge, same_edge, chain, present, unbalanced, crowded, unpaired, proper_edges, boundary_free}
use Rattle.ids.specs.EdgeChain.{over_incident, closed_manifold}
use Rattle.ids.specs.FaceNet.{same_face, faces, max_abs, all_cancel}
use Rattle.ids.specs.Meaning.{Tells, BoundaryFree, OverIncident, ClosedManifold, AllCancel, LargestFaceSum}
use Rattle.ids.proofs.Same.{both, edge_eq, edge_refl, face_eq, face_refl}
use Rattle.ids.proofs.Keys.{none_each, each_none, some_key, max_each, max_reached, unused_zero}

-- a sum whose magnitude is 0 is 0
pub abs_zero : (z : ℤ) → nat_abs z ≡ 0 → z ≡ pos 0
abs_zero (pos zero) e = refl
abs_zero (pos (suc n)) e = absurd (omega arith)
abs_zero (negsuc n) e = absurd (omega arith)

bit_none : (b : Bool) → bit b ≡ 0 → b ≡ false
unfolding bit
bit_none true e = absurd (omega arith)
bit_none false e = refl

pub bit_some : (b : Bool) → 0 < bit b → b ≡ true
unfolding bit
bit_some true l = refl
bit_some false l = absurd (omega arith)

none_bit : (b : Bool) → b ≡ false → bit b ≡ 0
unfolding bit
none_bit b e = rw e

pub above : (n : ℕ) → ltb 0 n ≡ true → 0 < n
above n e = elim (dec_lt 0 n) [ yes l ↦ l | no l ↦ absurd (false≢true (sym (le-ltb 0 n (omega arith)) ∙ e)) ]

pub and_true : (a b : Bool) → a ≡ true → b ≡ true → a && b ≡ true
and_true a b p q = rw (p, q)

not_false : (b : Bool) → not b ≡ false → b ≡ true
not_false true e = refl
not_false false e = absurd (true≢false e)

not_true : (b : Bool) → b ≡ true → not b ≡ false
not_true b e = rw e

-- ---- a test on the keys

module _ {K : Type 0} (same : K → K → Bool) (same-eq : (a b : K) → same a b ≡ true → a ≡ b) (same_refl : (a : K) → same a a ≡ true)
    (test : ℕ → ℕ → Bool) (es : List (Use K)) where
  abbrev passes : K → Bool
  passes k = test (uses same k es) (nat_abs (signed_sum same k es))

  none_passes : eqb (keys_that same test es) 0 ≡ true → (k : K) → 0 < uses same k es → passes k ≡ false
  unfolding keys_that
  none_passes z k l = bit_none (passes k) (none_each same same-eq same_refl (λ j. bit (passes j)) es (eqb-true _ _ z) k l)

  passes_none : ((k : K) → 0 < uses same k es → passes k ≡ false) → eqb (keys_that same test es) 0 ≡ true
  unfolding keys_that
  passes_none h = eq-eqb _ _ (each_none same same-eq same_refl (λ j. bit (passes j)) es (λ k l. none_bit (passes k) (h k l)))

  some_passes : ltb 0 (keys_that same test es) ≡ true → (k : K) × (0 < uses same k es) × (passes k ≡ true)
  unfolding keys_that
  some_passes z =
      let w = some_key same same-eq same_refl (λ j. bit (passes j)) es (above _ z) in (w.0, w.1, bit_some (passes w.0) w.2)

  passes_some : (k : K) → 0 < uses same k es → passes k ≡ true → ltb 0 (keys_that same test es) ≡ true
  passes_some k l p =
      elim (dec_lt 0 (keys_that same test es)) [
        | yes m ↦ lt-ltb 0 _ m
        | no m ↦ absurd (true≢false (sym p ∙ none_passes (eq-eqb (keys_that same test es) 0 (omega arith)) k l))
      ]

-- every sum is 0 exactly where no key used is unbalanced
module _ {K : Type 0} (same : K → K → Bool) (same-eq : (a b : K) → same a b ≡ true → a ≡ b) (same_refl : (a : K) → same a a ≡ true)
    (es : List (Use K)) where
  pub balanced : eqb (keys_that same unbalanced es) 0 ≡ true → (k : K) → signed_sum same k es ≡ pos 0
  unfolding unbalanced
  balanced z k =
      elim (dec_lt 0 (uses same k es)) [
        | yes l ↦ abs_zero (signed_sum same k es) (eqb-true _ _ (not_false _ (none_passes same same-eq same_refl unbalanced es z k l)))
        | no l ↦ unused_zero same same-eq same_refl k es (omega arith)
      ]

  pub unbalanced_none : ((k : K) → signed_sum same k es ≡ pos 0) → eqb (keys_that same unbalanced es) 0 ≡ true
  unfolding unbalanced
  unbalanced_none h = passes_none same same-eq same_refl unbalanced es (λ k l. not_true _ (eq-eqb _ _ (ap nat_abs (h k))))

-- ---- the answers

module _ (ids : List ℕ) where
  pub boundary_free_tells : Tells (boundary_free ids) (BoundaryFree ids)
  unfolding boundary_free present
  boundary_free_tells = record {
    sound = λ h. let w = both _ _ h in
        let s = some_passes same_edge edge_eq edge_refl present (chain ids) w.0 in
        record { some = (s.0, s.1); balanced = balanced same_edge edge_eq edge_refl (chain ids) w.1 };
    complete = λ h. and_true _ _ (passes_some same_edge edge_eq edge_refl present (chain ids) h.some.0 h.some.1 refl)
        (unbalanced_none same_edge edge_eq edge_refl (chain ids) h.balanced);
  }

  pub over_incident_tells : Tells (over_incident ids) (OverIncident ids)
  unfolding over_incident crowded
  over_incident_tells = record {
    sound = λ h. let s = some_passes same_edge edge_eq edge_refl crowded (chain ids) h in (s.0, above_2 _ s.2);
    complete = λ h. passes_some same_edge edge_eq edge_refl crowded (chain ids) h.0 (omega (arith, h.1)) (lt-ltb 2 _ h.1);
  }
    where
      above_2 : (n : ℕ) → ltb 2 n ≡ true → 2 < n
      above_2 n e = elim (dec_lt 2 n) [ yes l ↦ l | no l ↦ absurd (false≢true (sym (le-ltb 2 n (omega arith)) ∙ e)) ]

  -- an edge that is used is paired
  paired : eqb (keys_that same_edge unpaired (proper_edges ids)) 0 ≡ true → (e : Edge) → 0 < uses same_edge e (proper_edges ids)
      → (eqb (uses same_edge e (proper_edges ids)) 2 ≡ true) × (eqb (nat_abs (signed_sum same_edge e (proper_edges ids))) 0 ≡ true)
  unfolding unpaired
  paired z e l = both _ _ (not_false _ (none_passes same_edge edge_eq edge_refl unpaired (proper_edges ids) z e l))

  pub closed_manifold_tells : Tells (closed_manifold ids) (ClosedManifold ids)
  unfolding closed_manifold unpaired
  closed_manifold_tells = record {
    sound = λ h. let w = both _ _ h in
        record {
          long_enough = w.0;
          twice = λ e l. eqb-true _ _ (paired w.1 e l).0;
          each_way = λ e. elim (dec_lt 0 (uses same_edge e (proper_edges ids))) [
            | yes l ↦ abs_zero _ (eqb-true _ _ (paired w.1 e l).1)
            | no l ↦ unused_zero same_edge edge_eq edge_refl e (proper_edges ids) (omega arith)
          ];
        };
    complete = λ h. and_true _ _ h.long_enough
        (passes_none same_edge edge_eq edge_refl unpaired (proper_edges ids)
        (λ e l. not_true _ (and_true _ _ (eq-eqb _ _ (h.twice e l)) (eq-eqb _ _ (ap nat_abs (h.each_way e))))));
  }

  pub all_cancel_tells : Tells (all_cancel ids) (AllCancel ids)
  unfolding all_cancel
  all_cancel_tells =
      record { sound = balanced same_face face_eq face_refl (faces ids); complete = unbalanced_none same_face face_eq face_refl (faces ids) }

  pub max_abs_is_largest : LargestFaceSum ids (max_abs ids)
  unfolding max_abs largest_sum
  max_abs_is_largest = record {
    above = λ f. elim (dec_lt 0 (uses same_face f (faces ids))) [
      | yes l ↦ max_each same_face face_eq face_refl (λ g. nat_abs (signed_sum same_face g (faces ids))) (faces ids) f l
      | no l ↦ (let z : nat_abs (signed_sum same_face f (faces ids)) ≡ 0 =
          ap nat_abs (unused_zero same_face face_eq face_refl f (faces ids) (omega arith)) in omega arith)
    ];
    reached =
        λ l. let w = max_reached same_face face_eq face_refl (λ g. nat_abs (signed_sum same_face g (faces ids))) (faces ids) l in (w.0, w.2);
  }
