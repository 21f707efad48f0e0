-- A table with no entry, one that can be searched, and one with an entry more. Assumes nothing.
use mathlib.Core.Path.{◌≡◌, ap, ◌∙◌}
use mathlib.Core.Logic.{◌≢◌}
use mathlib.Core.List.{List}
use Prim.Native.Nat.{ℕ, ◌+◌, ◌-◌, ◌*◌, ◌≤◌, ◌<◌}
use native.Mathlib.Omega.{arith}
use native.Mathlib.Decide.{ℕ_discrete}
use Rattle.table.specs.inner.Rows.{Found}
use Rattle.table.proofs.Search.{other, Written, spread_step}
use Rattle.table.proofs.Used.{used_none, used_few, used_more}
use Rattle.slots.specs.declared.Code.{Code}
use Rattle.slots.specs.inner.Forms.{Form}
use Rattle.slots.specs.inner.Slots.{mark_in, entry_key, held, held_key, code_home, HasWords, Entries, Searchable, Claimed}
use Rattle.slots.proofs.Codes.{home_in_lem}

module _ (n : ℕ) (mark : ℕ → ℕ) (key : ℕ → Code) where
  pub entries_none : ((r : ℕ) → r < 2 * n → mark r ≡ 0) → Entries n mark key 0
  entries_none z = record {
    spread = record { one = λ i j l p. absurd (omega (arith, z i l)); reach = λ i j l p. absurd (omega (arith, z i l)) };
    few = omega (arith, used_none mark (2 * n) z);
    within = λ r l. omega (arith, z r l);
  }

  -- numbers that are left out do no harm
  pub entries_past : (e f : ℕ) → e ≤ f → Entries n mark key e → Entries n mark key f
  entries_past e f l m = record { spread = m.spread; few = omega (arith, m.few); within = λ r b. omega (arith, m.within r b) }

  -- no slot but the one that a search for k found holds it
  pub others : (e : ℕ) → Entries n mark key e → (k : Code) (r : ℕ) → Found (2 * n) (code_home n k) (held mark key) mark k r
      → (i : ℕ) → i < 2 * n → 0 < mark i → i ≢ r → held mark key i ≢ k
  others e m k r f = other (2 * n) (code_home n) (held mark key) mark k r (home_in_lem n k (omega (arith, f.within))) m.spread f

module _ (form : Form) (n : ℕ) (t : List ℕ) (e : ℕ) (m : Entries n (mark_in form t) (entry_key form n t) e) where
  pub entries_searchable : e < n → HasWords form n t → Searchable form n t
  entries_searchable l words = record {
    words = words;
    within = λ r b. omega (arith, m.within r b);
    free = used_few (mark_in form t) (2 * n) (omega (arith, m.few));
  }

  -- the slot r that a search for k found, and that was free, is given to the entry v
  module _ (k : Code) (r : ℕ) (f : Found (2 * n) (code_home n k) (held_key form n t) (mark_in form t) k r)
      (v : ℕ) (w : List ℕ) (next : e ≤ v) (c : Claimed form n r v k t w) where
    pub held_now : held_key form n w r ≡ k
    held_now = let s : mark_in form w r - 1 ≡ v = omega (arith, c.mark_at) in ap (entry_key form n w) s ∙ c.key_at

    -- another used slot is of another entry, whose key stands as before
    pub held_kept : (i : ℕ) → i < 2 * n → i ≢ r → 0 < mark_in form t i → held_key form n w i ≡ held_key form n t i
    held_kept i l ne p =
        ap (λ (x : ℕ). entry_key form n w (x - 1)) (c.mark_off i l ne)
        ∙ c.key_off (mark_in form t i - 1) (λ z. omega (arith, m.within i l))

    written : Written (2 * n) r k (held_key form n t) (held_key form n w) (mark_in form t) (mark_in form w)
    written = record { key_at = held_now; mark_at = omega (arith, c.mark_at); key_off = held_kept; mark_off = c.mark_off }

    pub entries_claimed : Entries n (mark_in form w) (entry_key form n w) (v + 1)
    entries_claimed = record {
      spread =
          spread_step (2 * n) (code_home n) (held_key form n t) (mark_in form t) k r (home_in_lem n k (omega (arith, f.within)))
          m.spread f (held_key form n w) (mark_in form w) written;
      few =
          omega (arith, m.few, used_more (mark_in form t) (mark_in form w) (2 * n) r f.within c.mark_off (omega (arith, c.mark_at)));
      within = λ i l. elim (ℕ_discrete i r) [
        | yes q ↦ rw q (omega (arith, c.mark_at))
        | no q ↦ omega (arith, c.mark_off i l q, m.within i l)
      ];
    }
