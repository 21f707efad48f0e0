-- What is painted adds up: nothing more, the same in other words, one after the other, and what one byte says after a store. Assumes
-- nothing.
use mathlib.Core.Path.{◌≡◌, refl, ◌∙◌}
use mathlib.Core.Bool.{Bool, true, false, ◌||◌}
use mathlib.Core.List.{List}
use Prim.Native.Nat.{ℕ, ◌<◌, max}
use native.Mathlib.Omega.{arith}
use native.Mathlib.Decide.{ℕ_discrete}
use lib.Dec.{eqb}
use lib.ListN.{length, get_or, set, length-set}
use lib.Seq.{get_or-set_same, get_or-set_other}
use borrow.Author.Tests.{eq-eqb, ne_eqb}
use Rattle.paint.specs.inner.Painted.{only_if, Adds}

-- ---- numbers that are there only if something holds

pub only_or : (a b : Bool) (n : ℕ) → max (only_if a n) (only_if b n) ≡ only_if (a || b) n
only_or true true n = omega arith
only_or true false n = omega arith
only_or false b n = omega arith

pub only_same : (b : Bool) (n m : ℕ) → (b ≡ true → n ≡ m) → only_if b n ≡ only_if b m
only_same true n m e = e refl
only_same false n m e = refl

-- ---- what is added

-- nothing more is said
pub adds_none : (t : List ℕ) (h : ℕ → ℕ) → ((k : ℕ) → h k ≡ 0) → Adds t t h
adds_none t h e = record { long = refl; says = λ k l. omega (arith, e k) }

-- the same in other words
pub adds_same : {s t : List ℕ} {h : ℕ → ℕ} (h' : ℕ → ℕ) → Adds s t h → ((k : ℕ) → h k ≡ h' k) → Adds s t h'
adds_same h' a e = record { long = a.long; says = λ k l. omega (arith, a.says k l, e k) }

-- one after the other
pub adds_both : {s t u : List ℕ} {h h' : ℕ → ℕ} → Adds s t h → Adds t u h' → Adds s u (λ k. max (h k) (h' k))
adds_both a b =
    record { long = b.long ∙ a.long; says = λ k l. omega (arith, a.says k l, b.says k (omega (arith, l, a.long))) }

-- byte k says n now, or what it said where that is greater
pub adds_one : (t : List ℕ) (k n : ℕ) → k < length t → Adds t (set t k (max (get_or t k 0) n)) (λ i. only_if (eqb i k) n)
adds_one t k n lk = record { long = length-set t k _; says = λ i l. go i (ℕ_discrete i k) }
  where
    go : (i : ℕ) → Dec (i ≡ k) → get_or (set t k (max (get_or t k 0) n)) i 0 ≡ max (get_or t i 0) (only_if (eqb i k) n)
    go i (yes e) = rw (e, eq-eqb k k refl) (get_or-set_same t k _ 0 lk)
    go i (no e) = rw (ne_eqb i k e) (omega (arith, get_or-set_other t k i (max (get_or t k 0) n) 0 e))
