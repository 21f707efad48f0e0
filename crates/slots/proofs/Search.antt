-- A search for a key, from slot to slot: every slot that was passed holds another key, and it ends, since some slot is free. Assumes
-- nothing.
use mathlib.Core.Path.{◌≡◌, sym, ap, ◌∙◌}
use mathlib.Core.Logic.{◌≢◌}
use mathlib.Core.List.{List}
use Prim.Native.Nat.{ℕ, ◌+◌, ◌-◌, ◌*◌, ◌<◌}
use native.Mathlib.Omega.{arith}
use lib.ListN.{get_or}
use Rattle.table.specs.inner.Rows.{dist, next_row, Passed}
use Rattle.table.proofs.Search.{dist_here, dist_below, next_below, goes_on}
use Rattle.slots.specs.declared.Code.{Code}
use Rattle.slots.specs.inner.Forms.{Form}
use Rattle.slots.specs.inner.Slots.{mark_in, entry_key, held_key, Searchable, Ends}

module _ (form : Form) (n : ℕ) (t : List ℕ) (start : ℕ) (k : Code) where
  -- the search has come to slot r
  pub record At (r : ℕ) : Type 0 where
    pub within : r < 2 * n
    pub passed : Passed (2 * n) start (held_key form n t) (mark_in form t) k r

  pub at_start : start < 2 * n → At start
  at_start l = record { within = l; passed = λ j b d. absurd (omega (arith, dist_here (2 * n) start l)) }

  -- its mark
  module _ (r s : ℕ) (a : At r) (marked : s ≡ form.mark (get_or t r 0)) where
    -- it ends there if the slot is free
    pub ends_free : s ≡ 0 → Ends form n t start k r × (mark_in form t r ≡ 0)
    unfolding mark_in
    ends_free free = (
      record { within = a.within; holds = λ used. absurd (omega arith); passed = a.passed },
      sym marked ∙ free,
    )

    -- or if its entry has the key
    module _ (used : s ≢ 0) where
      mark_is : mark_in form t r ≡ s
      unfolding mark_in
      mark_is = sym marked

      held_is : held_key form n t r ≡ entry_key form n t (s - 1)
      held_is = ap (λ (m : ℕ). entry_key form n t (m - 1)) mark_is

      pub ends_held : entry_key form n t (s - 1) ≡ k → (x : ℕ) × Ends form n t start k x × (mark_in form t x ≡ s - 1 + 1)
      ends_held is = (
        r,
        record { within = a.within; holds = λ used. held_is ∙ is; passed = a.passed },
        omega (arith, mark_is),
      )

      -- else it goes on
      module _ (l : start < 2 * n) (can : Searchable form n t) where
        pub entry_below : s - 1 < n
        entry_below = omega (arith, mark_is, can.within r a.within)

        module _ (ne : entry_key form n t (s - 1) ≢ k) where
          on : (dist (2 * n) start (next_row (2 * n) r) ≡ dist (2 * n) start r + 1)
              × Passed (2 * n) start (held_key form n t) (mark_in form t) k (next_row (2 * n) r)
          on = goes_on (2 * n) start l (held_key form n t) (mark_in form t) k r a.within a.passed (omega (arith, mark_is))
              (λ z. ne (sym held_is ∙ z)) can.free

          pub at_next : At (next_row (2 * n) r)
          at_next = record { within = next_below (2 * n) start l r a.within; passed = on.1 }

          pub nearer : 2 * n - dist (2 * n) start (next_row (2 * n) r) < 2 * n - dist (2 * n) start r
          nearer = omega (arith, on.0, dist_below (2 * n) start l r a.within)
