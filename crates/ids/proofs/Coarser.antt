-- A coarser test makes no more groups: a coarse group holds every fine group that it meets, so at least one fine group's first element;
-- and no element is in two coarse groups. Assumes nothing.
use mathlib.Core.Path.{◌≡◌, refl}
use mathlib.Core.Bool.{Bool, true}
use mathlib.Core.List.{List, [], ◌∷◌}
use Prim.Native.Nat.{ℕ, ◌+◌, ◌≤◌, ◌<◌}
use native.Mathlib.Omega.{arith}
use native.Mathlib.Decide.{dec_lt}
use lib.Dec.{eqb}
use lib.ListN.{length}
use Rattle.ids.specs.Uses.{bit, sum_by, times}
use Rattle.ids.specs.Pieces.{any, groups}
use Rattle.ids.specs.Classes.{mem, Each}
use Rattle.ids.proofs.Groups.{Group, One, total, are_groups, groups_one, in_or_out, part_mem, mem_times, times_mem, bit_true}
use Rattle.ids.proofs.Groups.{or_left, each_map}
use Rattle.ids.proofs.Same.{eqb_refl}

-- ---- sums

sum_none : (l : List ℕ) → sum_by (λ x. 0) l ≡ 0
unfolding sum_by
sum_none [] = refl
sum_none (x ∷ l) = omega (arith, sum_none l)

sum_plus : (v w : ℕ → ℕ) (l : List ℕ) → sum_by (λ x. v x + w x) l ≡ sum_by v l + sum_by w l
unfolding sum_by
sum_plus v w [] = omega arith
sum_plus v w (x ∷ l) = omega (arith, sum_plus v w l)

at_least_one : (w : ℕ → ℕ) (gs : List (List ℕ)) → Each (λ g. 0 < sum_by w g) gs → length gs ≤ sum_by (sum_by w) gs
unfolding sum_by
at_least_one w [] e = omega arith
at_least_one w (g ∷ gs) e = omega (arith, e.0, at_least_one w gs e.1)

-- ---- first elements

-- the first element, 0 of none
unfoldable first : List ℕ → ℕ
first [] = 0
first (x ∷ l) = x

first_in : (x : ℕ) (l : List ℕ) → mem x l ≡ true → mem (first l) l ≡ true
unfolding first any
first_in x [] h = h
first_in x (y ∷ l) h = or_left (eqb y y) _ (eqb_refl y)

-- how many of the groups have x for their first element
unfoldable firsts : List (List ℕ) → ℕ → ℕ
firsts gs x = sum_by (λ g. bit (eqb (first g) x)) gs

firsts_next : (g : List ℕ) (gs : List (List ℕ)) (l : List ℕ) → sum_by (firsts (g ∷ gs)) l ≡ times eqb (first g) l + sum_by (firsts gs) l
unfolding firsts sum_by
firsts_next g gs l = sum_plus (λ x. bit (eqb (first g) x)) (firsts gs) l

-- in a list that has each element once, no more than there are groups
firsts_below : (l : List ℕ) → ((x : ℕ) → times eqb x l ≤ 1) → (gs : List (List ℕ)) → sum_by (firsts gs) l ≤ length gs
unfolding firsts sum_by
firsts_below l once [] = omega (arith, sum_none l)
firsts_below l once (g ∷ gs) = omega (arith, firsts_next g gs l, once (first g), firsts_below l once gs)

-- some, in a list that holds each of the groups that it meets, and meets one
firsts_met : (l : List ℕ) (x : ℕ) → mem x l ≡ true → (gs : List (List ℕ)) → Each (One (λ y. bit (mem y l))) gs
    → 0 < sum_by (times eqb x) gs → 0 < sum_by (firsts gs) l
unfolding sum_by
firsts_met l x m [] e h = absurd (omega arith)
firsts_met l x m (g ∷ gs) e h = elim (dec_lt 0 (times eqb x g)) [
  | yes here ↦ omega (arith, firsts_next g gs l, times_mem (first g) l (held (mem_times x g here)))
  | no away ↦ omega (arith, firsts_next g gs l, firsts_met l x m gs e.1 (omega arith))
]
  where
    held : mem x g ≡ true → mem (first g) l ≡ true
    held q = bit_true (mem (first g) l) (mem x l) (e.0 (first g) x (first_in x g q) q) m

-- ---- groups by two tests

module _ (fine coarse : ℕ → ℕ → Bool) (finer : (x y : ℕ) → fine x y ≡ true → coarse x y ≡ true)
    (fine-both : (x y : ℕ) → fine x y ≡ true → fine y x ≡ true) (coarse-both : (x y : ℕ) → coarse x y ≡ true → coarse y x ≡ true)
    (ts : List ℕ) where
  -- a coarse group has the first element of a fine one
  has_first : (g : List ℕ) → Group coarse ts g → 0 < sum_by (firsts (groups fine ts)) g
  has_first g k =
      let x = k.some.0 in
      let m = k.some.1 in
      let here = times_mem x ts (part_mem g ts k.part x m) in
      let held = groups_one fine fine-both (λ y. bit (mem y g)) ts
      (λ y z my mz j. in_or_out coarse coarse-both ts g k y z my mz (finer y z j)) in
      firsts_met g x m (groups fine ts) held (omega (arith, here, total (λ y. bit (eqb x y)) fine ts))

  -- so there are no more coarse groups than fine ones
  pub coarser_no_more : ((x : ℕ) → times eqb x ts ≤ 1) → length (groups coarse ts) ≤ length (groups fine ts)
  coarser_no_more once = omega (
    arith,
    at_least_one (firsts (groups fine ts)) (groups coarse ts) (each_map (groups coarse ts) has_first (are_groups coarse coarse-both ts)),
    total (firsts (groups fine ts)) coarse ts,
    firsts_below ts once (groups fine ts),
  )
