-- The keys of a list of uses are those that are used: a sum over them is 0 where it is 0 for every key used, and above 0 only where it is
-- for one. Assumes nothing.
use mathlib.Core.Path.{◌≡◌, refl, sym, ap, ◌∙◌}
use mathlib.Core.Bool.{Bool, true, false}
use mathlib.Core.List.{List, [], ◌∷◌}
use Prim.Native.Nat.{ℕ, ◌+◌, ◌≤◌, ◌<◌, max}
use native.Mathlib.Omega.{arith}
use native.Mathlib.Nat.{zero-add}
use native.Mathlib.Decide.{dec_lt, dec_le}
use borrow.Author.Tests.{lt-ltb, le-ltb}
use lib.Dec.{ltb}
use lib.IntN.{pos}
use Rattle.ids.specs.Uses.{Use, bit, sum_by, max_by, counting, uses, signed_sum, keys}

module _ {K : Type 0} (same : K → K → Bool) (same-eq : (a b : K) → same a b ≡ true → a ≡ b) (same_refl : (a : K) → same a a ≡ true) where
  -- what holds of the keys, by whether the first is used behind
  keys_old : (e : Use K) (es : List (Use K)) → 0 < uses same e.key es → keys same (e ∷ es) ≡ keys same es
  unfolding keys
  keys_old e es l = rw (lt-ltb 0 (uses same e.key es) l)

  keys_new : (e : Use K) (es : List (Use K)) → uses same e.key es ≤ 0 → keys same (e ∷ es) ≡ e.key ∷ keys same es
  unfolding keys
  keys_new e es l = rw (le-ltb 0 (uses same e.key es) l)

  -- a key of e ∷ es is e's or one of es
  used_cases : {P : Type 0} (k : K) (e : Use K) (es : List (Use K)) → 0 < uses same k (e ∷ es) → (k ≡ e.key → P)
      → (0 < uses same k es → P) → P
  unfolding uses bit
  used_cases {P} k e es l f g = go (same k e.key) refl
    where
      go : (t : Bool) → same k e.key ≡ t → P
      go true h = f (same-eq k e.key h)
      go false h = g (omega (arith, l, ap bit h))

  used_first : (e : Use K) (es : List (Use K)) → 0 < uses same e.key (e ∷ es)
  unfolding uses bit
  used_first e es = rw (same_refl e.key) (omega arith)

  used_behind : (k : K) (e : Use K) (es : List (Use K)) → 0 < uses same k es → 0 < uses same k (e ∷ es)
  unfolding uses
  used_behind k e es l = omega arith

  module _ (Q : K → ℕ) where
    -- a sum over the keys that is 0 is 0 at every key used
    pub none_each : (es : List (Use K)) → sum_by Q (keys same es) ≡ 0 → (k : K) → 0 < uses same k es → Q k ≡ 0
    unfolding keys uses sum_by
    none_each [] z k l = absurd (omega arith)
    none_each (e ∷ es) z k l = go (dec_lt 0 (uses same e.key es)) (λ y. none_each es y k) (none_each es)
      where
        go : Dec (0 < uses same e.key es) → (sum_by Q (keys same es) ≡ 0 → 0 < uses same k es → Q k ≡ 0)
            → (sum_by Q (keys same es) ≡ 0 → (j : K) → 0 < uses same j es → Q j ≡ 0) → Q k ≡ 0
        go (yes old) ih all =
            let y : sum_by Q (keys same es) ≡ 0 = rw (keys_old e es old) at z in
            used_cases k e es l (λ q. ap Q q ∙ all y e.key old) (ih y)
        go (no new) ih all =
            let y : Q e.key + sum_by Q (keys same es) ≡ 0 = rw (keys_new e es (omega arith)) at z in
            used_cases k e es l (λ q. ap Q q ∙ omega (arith, y)) (ih (omega (arith, y)))

    pub each_none : (es : List (Use K)) → ((k : K) → 0 < uses same k es → Q k ≡ 0) → sum_by Q (keys same es) ≡ 0
    unfolding keys sum_by
    each_none [] h = refl
    each_none (e ∷ es) h = go (dec_lt 0 (uses same e.key es)) (each_none es (λ k l. h k (used_behind k e es l)))
      where
        go : Dec (0 < uses same e.key es) → sum_by Q (keys same es) ≡ 0 → sum_by Q (keys same (e ∷ es)) ≡ 0
        go (yes old) ih = rw (keys_old e es old) ih
        go (no new) ih = rw (keys_new e es (omega arith)) (omega (arith, h e.key (used_first e es), ih))

    -- the largest over the keys is at least what each key used has, and some key used has it
    pub max_each : (es : List (Use K)) (k : K) → 0 < uses same k es → Q k ≤ max_by Q (keys same es)
    unfolding keys uses max_by
    max_each [] k l = absurd (omega arith)
    max_each (e ∷ es) k l = go (dec_lt 0 (uses same e.key es)) (max_each es)
      where
        go : Dec (0 < uses same e.key es) → ((j : K) → 0 < uses same j es → Q j ≤ max_by Q (keys same es))
            → Q k ≤ max_by Q (keys same (e ∷ es))
        go (yes old) ih = rw (keys_old e es old) (used_cases k e es l (λ q. omega (arith, ap Q q, ih e.key old)) (ih k))
        go (no new) ih = rw (keys_new e es (omega arith)) (used_cases k e es l (λ q. omega (arith, ap Q q)) (λ m. omega (arith, ih k m)))

    pub max_reached : (es : List (Use K)) → 0 < max_by Q (keys same es) → (k : K) × (0 < uses same k es) × (Q k ≡ max_by Q (keys same es))
    unfolding keys max_by
    max_reached [] l = absurd (omega arith)
    max_reached (e ∷ es) l = go (dec_lt 0 (uses same e.key es)) (max_reached es)
      where
        go : Dec (0 < uses same e.key es) → (0 < max_by Q (keys same es)
            → (k : K) × (0 < uses same k es) × (Q k ≡ max_by Q (keys same es)))
            → (k : K) × (0 < uses same k (e ∷ es)) × (Q k ≡ max_by Q (keys same (e ∷ es)))
        go (yes old) ih =
            let m : 0 < max_by Q (keys same es) = rw (keys_old e es old) at l in
            let w = ih m in
            (w.0, used_behind w.0 e es w.1, rw (keys_old e es old) w.2)
        go (no new) ih =
            let m : 0 < max (Q e.key) (max_by Q (keys same es)) = rw (keys_new e es (omega arith)) at l in
            elim (dec_le (max_by Q (keys same es)) (Q e.key)) [
              | yes b ↦ (e.key, used_first e es, rw (keys_new e es (omega arith)) (omega arith))
              | no b ↦ (let w = ih (omega arith) in
                  (w.0, used_behind w.0 e es w.1, rw (keys_new e es (omega arith)) (omega (arith, w.2))))
            ]

    -- a sum over the keys that is above 0 is so at some key used
    pub some_key : (es : List (Use K)) → 0 < sum_by Q (keys same es) → (k : K) × (0 < uses same k es) × (0 < Q k)
    unfolding keys sum_by
    some_key [] l = absurd (omega arith)
    some_key (e ∷ es) l = go (dec_lt 0 (uses same e.key es)) (some_key es)
      where
        go : Dec (0 < uses same e.key es) → (0 < sum_by Q (keys same es) → (k : K) × (0 < uses same k es) × (0 < Q k))
            → (k : K) × (0 < uses same k (e ∷ es)) × (0 < Q k)
        go (yes old) ih = let w = ih (rw (keys_old e es old) at l) in (w.0, used_behind w.0 e es w.1, w.2)
        go (no new) ih =
            let m : 0 < Q e.key + sum_by Q (keys same es) = rw (keys_new e es (omega arith)) at l in
            elim (dec_lt 0 (Q e.key)) [
              | yes b ↦ (e.key, used_first e es, b)
              | no b ↦ (let w = ih (omega arith) in (w.0, used_behind w.0 e es w.1, w.2))
            ]

  -- a key that is not used has the sum 0
  pub unused_zero : (k : K) (es : List (Use K)) → uses same k es ≡ 0 → signed_sum same k es ≡ pos 0
  unfolding uses signed_sum bit counting
  unused_zero k [] z = refl
  unused_zero k (e ∷ es) z = go (same k e.key) refl (unused_zero k es)
    where
      go : (t : Bool) → same k e.key ≡ t → (uses same k es ≡ 0 → signed_sum same k es ≡ pos 0) → signed_sum same k (e ∷ es) ≡ pos 0
      go true h ih = absurd (omega (arith, z, ap bit h))
      go false h ih = rw h (ih (omega (arith, z)))

  -- each key that is used stands among the keys once, and no other does
  pub keys_once : (k : K) (es : List (Use K)) → sum_by (λ j. bit (same k j)) (keys same es) ≡ bit (ltb 0 (uses same k es))
  unfolding keys uses sum_by bit
  keys_once k [] = refl
  keys_once k (e ∷ es) = go (dec_lt 0 (uses same e.key es)) (same k e.key) refl (keys_once k es)
    where
      go : Dec (0 < uses same e.key es) → (t : Bool) → same k e.key ≡ t
          → sum_by (λ j. bit (same k j)) (keys same es) ≡ bit (ltb 0 (uses same k es))
          → sum_by (λ j. bit (same k j)) (keys same (e ∷ es)) ≡ bit (ltb 0 (bit (same k e.key) + uses same k es))
      go (yes old) true h ih =
          let used : 0 < uses same k es = rw (same-eq k e.key h) old in
          rw (keys_old e es old) (ih ∙ ap bit (lt-ltb 0 (uses same k es) used
          ∙ sym (lt-ltb 0 (bit (same k e.key) + uses same k es) (omega arith))))
      go (yes old) false h ih = rw (keys_old e es old, h, zero-add) ih
      go (no new) true h ih =
          let unused : uses same k es ≤ 0 = rw (same-eq k e.key h) (omega arith) in
          rw (keys_new e es (omega arith), h) (ap (λ (x : ℕ). 1 + x) (ih ∙ ap bit (le-ltb 0 (uses same k es) unused))
          ∙ sym (ap bit (lt-ltb 0 (1 + uses same k es) (omega arith))))
      go (no new) false h ih = rw (keys_new e es (omega arith), h, zero-add, zero-add) ih
