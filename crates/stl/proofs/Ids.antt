-- Each id is its place: so it is with those of the triangles, one behind the other, and with those that are put. Assumes nothing.
use mathlib.Core.Path.{◌≡◌, refl, sym, subst, ◌∙◌}
use mathlib.Core.List.{List}
use Prim.Native.Nat.{ℕ, zero, suc, ◌+◌, ◌*◌, ◌/◌, ◌%◌, ◌<◌}
use native.Mathlib.Omega.{arith}
use native.Mathlib.Decide.{ℕ_discrete}
use lib.ListN.{length, get_or, set}
use lib.Seq.{get_or-set_same, get_or-set_other, ext_get_or}
use Rattle.stl.specs.Stl.{ids_at, ids_to}
use Rattle.stl.proofs.OverNumbers.{order_length, order_at}

pub ids_length : (n : ℕ) → length (ids_to n) ≡ 3 * n
ids_length n = order_length ids_at 3 n (λ t l. refl)

id_at : (t k : ℕ) → k < 3 → get_or (ids_at t) k 0 ≡ 3 * t + k
id_at t zero l = omega arith
id_at t (suc zero) l = refl
id_at t (suc (suc zero)) l = refl
id_at t (suc (suc (suc k))) l = absurd (omega arith)

pub each_id : (n t k : ℕ) → t < n → k < 3 → get_or (ids_to n) (3 * t + k) 0 ≡ 3 * t + k
each_id n t k lt lk = order_at ids_at 3 0 n (λ t l. refl) t k lt lk ∙ id_at t k lk

id_is : (n i : ℕ) → i < 3 * n → get_or (ids_to n) i 0 ≡ i
id_is n i l =
    let e : 3 * (i / 3) + i % 3 ≡ i = omega arith in
    subst (λ (k : ℕ). get_or (ids_to n) k 0 ≡ k) e (each_id n (i / 3) (i % 3) (omega arith) (omega arith))

-- ---- ids that are put

-- the first i of them are their places
abbrev pub Numbered : ℕ → List ℕ → Type 0
Numbered i l = (j : ℕ) → j < i → get_or l j 0 ≡ j

pub numbered_next : (l : List ℕ) (i : ℕ) → i < length l → Numbered i l → Numbered (i + 1) (set l i i)
numbered_next l i inside n j lt = elim (ℕ_discrete j i) [
  | yes e ↦ subst (λ (k : ℕ). get_or (set l i i) k 0 ≡ k) (sym e) (get_or-set_same l i i 0 inside)
  | no ne ↦ get_or-set_other l i j i 0 ne ∙ n j (omega arith)
]

pub numbered_all : (l : List ℕ) → length l % 3 ≡ 0 → Numbered (length l) l → l ≡ ids_to (length l / 3)
numbered_all l whole n =
    let n3 : 3 * (length l / 3) ≡ length l = omega arith in
    ext_get_or 0 l (ids_to (length l / 3)) (sym n3 ∙ sym (ids_length (length l / 3)))
    (λ i lt. n i lt ∙ sym (id_is (length l / 3) i (omega arith)))
