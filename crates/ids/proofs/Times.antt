-- Two lists in which each key stands as often are equally long; and how often a key stands among those of a list that pass a test.
-- Assumes nothing.
use mathlib.Core.Path.{◌≡◌, refl, ap, ◌∙◌}
use mathlib.Core.Bool.{Bool, true, false, cond}
use mathlib.Core.List.{List, [], ◌∷◌}
use Prim.Native.Nat.{◌+◌, ◌*◌, ◌<◌}
use native.Mathlib.Omega.{arith}
use lib.ListN.{length}
use Rattle.ids.specs.Uses.{bit, sum_by, times}

-- those that pass
unfoldable pub passing : {K : Type 0} → (K → Bool) → List K → List K
passing p [] = []
passing p (k ∷ ks) = cond (p k) (k ∷ passing p ks) (passing p ks)

-- how many pass, as a sum
pub passing_length : {K : Type 0} (p : K → Bool) (ks : List K) → length (passing p ks) ≡ sum_by (λ k. bit (p k)) ks
unfolding sum_by bit passing
passing_length p [] = refl
passing_length p (k ∷ ks) = go (p k) (passing_length p ks)
  where
    go : (b : Bool) → length (passing p ks) ≡ sum_by (λ j. bit (p j)) ks
        → length (cond b (k ∷ passing p ks) (passing p ks)) ≡ bit b + sum_by (λ j. bit (p j)) ks
    go true ih = omega (arith, ih)
    go false ih = omega (arith, ih)

pub ones_length : {K : Type 0} (p : K → Bool) (ks : List K) → ((k : K) → p k ≡ true) → sum_by (λ k. bit (p k)) ks ≡ length ks
unfolding sum_by bit
ones_length p [] h = refl
ones_length p (k ∷ ks) h = let one : bit (p k) ≡ 1 = rw (h k) refl in omega (arith, one, ones_length p ks h)

module _ {K : Type 0} (same : K → K → Bool) (same-eq : (a b : K) → same a b ≡ true → a ≡ b) (same_refl : (a : K) → same a a ≡ true) where
  -- a key that passes stands as often among those that pass, and one that does not never
  pub passing_times : (p : K → Bool) (k : K) (ks : List K) → times same k (passing p ks) ≡ bit (p k) * times same k ks
  unfolding sum_by bit passing
  passing_times p k [] = omega arith
  passing_times p k (j ∷ ks) = go (same k j) refl (p j) refl (passing_times p k ks)
    where
      go : (s : Bool) → same k j ≡ s → (q : Bool) → p j ≡ q → times same k (passing p ks) ≡ bit (p k) * times same k ks
          → times same k (cond q (j ∷ passing p ks) (passing p ks)) ≡ bit (p k) * (bit s + times same k ks)
      go true hs true hq ih = let one : bit (p k) ≡ 1 = ap bit (ap p (same-eq k j hs) ∙ hq) in rw (hs, one) (omega (arith, rw one at ih))
      go true hs false hq ih = let none : bit (p k) ≡ 0 = ap bit (ap p (same-eq k j hs) ∙ hq) in rw none (omega (arith, rw none at ih))
      go false hs true hq ih = rw hs (omega (arith, ih))
      go false hs false hq ih = omega (arith, ih)

  -- x taken off once
  without : K → List K → List K
  without x [] = []
  without x (j ∷ ks) = cond (same x j) ks (j ∷ without x ks)

  without_length : (x : K) (ks : List K) → 0 < times same x ks → length ks ≡ 1 + length (without x ks)
  unfolding sum_by bit without
  without_length x [] l = absurd (omega arith)
  without_length x (j ∷ ks) l = go (same x j) refl (without_length x ks)
    where
      go : (s : Bool) → same x j ≡ s → (0 < times same x ks → length ks ≡ 1 + length (without x ks))
          → length (j ∷ ks) ≡ 1 + length (cond s ks (j ∷ without x ks))
      go true h ih = omega arith
      go false h ih = omega (arith, ih (omega (arith, l, ap bit h)))

  without_times : (x k : K) (ks : List K) → 0 < times same x ks → times same k ks ≡ bit (same k x) + times same k (without x ks)
  unfolding sum_by bit without
  without_times x k [] l = absurd (omega arith)
  without_times x k (j ∷ ks) l = go (same x j) refl (without_times x k ks)
    where
      go : (s : Bool) → same x j ≡ s → (0 < times same x ks → times same k ks ≡ bit (same k x) + times same k (without x ks))
          → bit (same k j) + times same k ks ≡ bit (same k x) + times same k (cond s ks (j ∷ without x ks))
      go true h ih = rw (same-eq x j h)
      go false h ih = omega (arith, ih (omega (arith, l, ap bit h)))

  -- as often, so as long
  pub same_length : (ks js : List K) → ((k : K) → times same k ks ≡ times same k js) → length ks ≡ length js
  unfolding sum_by bit
  same_length [] [] h = refl
  same_length [] (j ∷ js) h = absurd (omega (arith, h j, ap bit (same_refl j)))
  same_length (k ∷ ks) js h =
      let some : 0 < times same k js = omega (arith, h k, ap bit (same_refl k)) in
      omega (arith, without_length k js some, same_length ks (without k js) (λ i. omega (arith, h i, without_times k i js some)))
