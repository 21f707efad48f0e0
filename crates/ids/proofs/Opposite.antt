-- Opposite lists of uses: every key is used as often, with the opposite sum. They are alike; lists put together of opposite ones, in either
-- order, are opposite; so what opposite walks give of every triangle is opposite. Assumes nothing.
use mathlib.Core.Path.{◌≡◌, refl, sym, ap, ◌∙◌}
use mathlib.Core.Bool.{Bool, true, false, not, cond}
use mathlib.Core.List.{List, [], ◌∷◌, ◌++◌, append_assoc}
use Prim.Native.Nat.{ℕ, zero, suc, ◌+◌}
use native.Mathlib.Omega.{arith}
use lib.IntN.{ℤ, pos, negsuc, nat_abs, neg_ℤ, +ℤ_comm, neg_ℤ-+ℤ}
use Rattle.ids.specs.Triangles.{Triangle, over_triangles}
use Rattle.ids.specs.Uses.{Use, bit, counting, uses, signed_sum}
use Rattle.ids.specs.Reversed.{turned_triangle, reversed}
use Rattle.ids.proofs.Uses.{uses_append, signed_append}
use Rattle.ids.proofs.Reversed.{over_reversed}
use Rattle.ids.proofs.Alike.{Alike}

neg_size : (z : ℤ) → nat_abs (neg_ℤ z) ≡ nat_abs z
neg_size (pos zero) = refl
neg_size (pos (suc n)) = refl
neg_size (negsuc n) = refl

pub record Opposite {K : Type 0} (same : K → K → Bool) (es fs : List (Use K)) : Type 0 where
  pub as_often : (k : K) → uses same k es ≡ uses same k fs
  pub negated : (k : K) → signed_sum same k es ≡ neg_ℤ (signed_sum same k fs)

module _ {K : Type 0} (same : K → K → Bool) where
  pub opposite_alike : {es fs : List (Use K)} → Opposite same es fs → Alike same es fs
  opposite_alike {es} {fs} h =
      record { as_often = h.as_often; as_large = λ k. ap nat_abs (h.negated k) ∙ neg_size (signed_sum same k fs) }

  pub none_opposite : Opposite same [] []
  unfolding uses signed_sum
  none_opposite = record { as_often = λ k. refl; negated = λ k. refl }

  -- one use of a key, and one the other way
  pub one_opposite : {d e : Use K} → d.key ≡ e.key → d.up ≡ not e.up → Opposite same (d ∷ []) (e ∷ [])
  unfolding uses signed_sum counting
  one_opposite {d} {e} same_key turned = record {
    as_often = λ k. ap (λ (j : K). bit (same k j) + 0) same_key;
    negated = λ k. rw (same_key, turned) (by_cases (same k e.key) e.up);
  }
    where
      by_cases : (mine up : Bool) → counting mine (not up) (pos 0) ≡ neg_ℤ (counting mine up (pos 0))
      by_cases false up = refl
      by_cases true true = refl
      by_cases true false = refl

  both_opposite : {es es' fs fs' : List (Use K)} → Opposite same es fs → Opposite same es' fs' → Opposite same (es ++ es') (fs ++ fs')
  both_opposite {es} {es'} {fs} {fs'} h h' = record {
    as_often = λ k. rw (uses_append same k es es', uses_append same k fs fs', h.as_often k, h'.as_often k);
    negated = λ k. rw (signed_append same k es es', signed_append same k fs fs', h.negated k, h'.negated k)
        (sym (neg_ℤ-+ℤ (signed_sum same k fs) (signed_sum same k fs')));
  }

  -- the order does not count
  crossed_opposite : {es es' fs fs' : List (Use K)} → Opposite same es fs → Opposite same es' fs' → Opposite same (es ++ es') (fs' ++ fs)
  crossed_opposite {es} {es'} {fs} {fs'} h h' =
      let w = both_opposite h h' in
      record {
        as_often = λ k. w.as_often k ∙ omega (arith, uses_append same k fs fs', uses_append same k fs' fs);
        negated = λ k. w.negated k ∙ ap neg_ℤ (signed_append same k fs fs' ∙ +ℤ_comm (signed_sum same k fs) (signed_sum same k fs')
            ∙ sym (signed_append same k fs' fs));
      }

  -- three steps, and the steps back
  pub back_opposite : {p q r p' q' r' : List (Use K)} → Opposite same p' p → Opposite same q' q → Opposite same r' r
      → Opposite same (r' ++ (q' ++ p')) (p ++ (q ++ r))
  back_opposite hp hq hr = rw append_assoc at (crossed_opposite hr (crossed_opposite hq hp))

  -- opposite where they are asked for
  pub cond_opposite : {es fs : List (Use K)} (b : Bool) → (b ≡ true → Opposite same es fs) → Opposite same (cond b es []) (cond b fs [])
  cond_opposite true h = h refl
  cond_opposite false h = none_opposite

  -- ---- over triangles

  over_opposite : (f g : Triangle → List (Use K)) → ((t : Triangle) → Opposite same (f t) (g t)) → (ids : List ℕ)
      → Opposite same (over_triangles f ids) (over_triangles g ids)
  unfolding over_triangles
  over_opposite f g h [] = none_opposite
  over_opposite f g h (a ∷ []) = none_opposite
  over_opposite f g h (a ∷ b ∷ []) = none_opposite
  over_opposite f g h (a ∷ b ∷ c ∷ ids) = both_opposite (h (record { a = a; b = b; c = c })) (over_opposite f g h ids)

  -- where turning a triangle turns its uses, reversing ids turns them all
  pub reversed_opposite : (f : Triangle → List (Use K)) → ((t : Triangle) → Opposite same (f (turned_triangle t)) (f t)) → (ids : List ℕ)
      → Opposite same (over_triangles f (reversed ids)) (over_triangles f ids)
  reversed_opposite f h ids = rw (over_reversed f ids) (over_opposite (λ t. f (turned_triangle t)) f h ids)
