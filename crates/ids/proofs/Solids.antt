-- The numbers below n that pass a test: which they are, and that each stands there once. Assumes nothing.
use mathlib.Core.Path.{◌≡◌, refl, sym, ap, ◌∙◌}
use mathlib.Core.Bool.{Bool, true, false, cond, ◌||◌, true≢false, false≢true}
use mathlib.Core.List.{◌∷◌}
use Prim.Native.Nat.{ℕ, zero, suc, ◌≤◌, ◌<◌}
use native.Mathlib.Omega.{arith}
use native.Mathlib.Decide.{ℕ_discrete}
use borrow.Author.Tests.{eq-eqb, ne_eqb, eqb-true}
use lib.Dec.{eqb}
use Rattle.ids.specs.Uses.{bit, sum_by, times}
use Rattle.ids.specs.Pieces.{any, those}
use Rattle.ids.specs.Classes.{mem}

module _ (p : ℕ → Bool) where
  pub those_mem : (n x : ℕ) → mem x (those p n) ≡ true → (x < n) × (p x ≡ true)
  unfolding those any
  those_mem zero x h = absurd (false≢true h)
  those_mem (suc n) x h = go (p n) refl h (those_mem n x)
    where
      go : (b : Bool) → p n ≡ b → mem x (cond b (n ∷ those p n) (those p n)) ≡ true
          → (mem x (those p n) ≡ true → (x < n) × (p x ≡ true)) → (x < suc n) × (p x ≡ true)
      go false e h ih = let r = ih h in (omega (arith, r.0), r.1)
      go true e h ih = first (eqb x n) refl h
        where
          first : (c : Bool) → eqb x n ≡ c → c || mem x (those p n) ≡ true → (x < suc n) × (p x ≡ true)
          first true q h = let r : x ≡ n = eqb-true x n q in (omega arith, ap p r ∙ e)
          first false q h = let r = ih h in (omega (arith, r.0), r.1)

  pub mem_those : (n x : ℕ) → x < n → p x ≡ true → mem x (those p n) ≡ true
  unfolding those any
  mem_those zero x l h = absurd (omega arith)
  mem_those (suc n) x l h = go (p n) refl (ℕ_discrete x n) (λ q. mem_those n x q h)
    where
      go : (b : Bool) → p n ≡ b → Dec (x ≡ n) → (x < n → mem x (those p n) ≡ true) → mem x (cond b (n ∷ those p n) (those p n)) ≡ true
      go true e (yes q) ih = rw (eq-eqb x n q)
      go true e (no q) ih = rw (ne_eqb x n q) (ih (omega arith))
      go false e (yes q) ih = absurd (true≢false (sym h ∙ ap p q ∙ e))
      go false e (no q) ih = ih (omega arith)

  those_past : (n x : ℕ) → n ≤ x → times eqb x (those p n) ≡ 0
  unfolding those sum_by bit
  those_past zero x l = refl
  those_past (suc n) x l = go (p n) (those_past n x (omega arith))
    where
      go : (b : Bool) → times eqb x (those p n) ≡ 0 → times eqb x (cond b (n ∷ those p n) (those p n)) ≡ 0
      go false ih = ih
      go true ih = rw (ne_eqb x n (omega arith)) (omega arith)

  pub those_once : (n x : ℕ) → times eqb x (those p n) ≤ 1
  unfolding those sum_by bit
  those_once zero x = omega arith
  those_once (suc n) x = go (p n) (those_once n x) (ℕ_discrete x n)
    where
      go : (b : Bool) → times eqb x (those p n) ≤ 1 → Dec (x ≡ n) → times eqb x (cond b (n ∷ those p n) (those p n)) ≤ 1
      go false ih d = ih
      go true ih (yes e) = rw (eq-eqb x n e) (omega (arith, those_past n x (omega arith)))
      go true ih (no e) = rw (ne_eqb x n e) (omega arith)
