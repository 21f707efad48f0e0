-- What one vertex more does to the table: it finds the slot of its cell, or a free one, which is then its own, and becomes the vertex
-- that the slot names. Assumes nothing.
use mathlib.Core.Path.{◌≡◌, refl, sym, ap, ◌∙◌}
use mathlib.Core.Logic.{◌≢◌}
use mathlib.Core.List.{List}
use Prim.Native.Nat.{ℕ, ◌+◌, ◌-◌, ◌*◌, ◌<◌}
use native.Mathlib.Omega.{arith}
use native.Mathlib.Decide.{ℕ_discrete}
use lib.Ieee.{Float}
use lib.ListN.{length}
use Rattle.table.specs.inner.Rows.{Found}
use Rattle.slots.specs.declared.Code.{Code}
use Rattle.slots.specs.inner.Forms.{wide}
use Rattle.slots.specs.inner.Slots.{mark_in, entry_key, held_key, code_home, Searchable, Claimed}
use Rattle.slots.proofs.Entries.{entries_none, entries_past, entries_searchable, entries_claimed, others, held_now, held_kept}
use Rattle.vertices.specs.Vertices.{vertex_count}
use Rattle.cells.specs.Cells.{named}
use Rattle.cells.specs.inner.Table.{vertex_code, name_in, Celled, Welds, Weldable}
use Rattle.cells.proofs.Names.{known_name, new_name}
use Rattle.cells.proofs.Words.{noted, marks_noted, keys_noted, name_noted_at, name_noted_off}

-- ---- an empty table, and one with room

pub welds_none : (n : ℕ) (vs : List Float) (inv : Float) (t : List ℕ) → ((r : ℕ) → r < 2 * n → mark_in wide t r ≡ 0) → Welds n vs inv t 0
welds_none n vs inv t z = record {
  celled = record {
    entries = entries_none n (mark_in wide t) (entry_key wide n t) z;
    holds = λ r l p. absurd (omega (arith, z r l));
    names = λ r l p. absurd (omega (arith, z r l));
    has = λ j l. absurd (omega arith);
  };
  sent = λ j l. absurd (omega arith);
}

pub welds_searchable : (vs : List Float) (inv : Float) (t : List ℕ) (v : ℕ) → v < vertex_count vs → Weldable vs inv t v
    → Searchable wide (vertex_count vs) t
welds_searchable vs inv t v l w = entries_searchable wide (vertex_count vs) t v w.welds.celled.entries l (
    record { small = omega (arith, w.few); long = omega (arith, w.words) })

-- ---- one vertex more

module _ (n : ℕ) (vs : List Float) (inv : Float) (t : List ℕ) (v r : ℕ) (lv : v < n) (m : Welds n vs inv t v)
    (f : Found (2 * n) (code_home n (vertex_code vs inv v)) (held_key wide n t) (mark_in wide t) (vertex_code vs inv v) r) where
  abbrev k : Code
  k = vertex_code vs inv v

  abbrev was : Celled n vs inv (mark_in wide t) (entry_key wide n t) v
  was = m.celled

  -- the vertex's word is written
  send : (u : List ℕ) (name : ℕ) → v < length u → Celled n vs inv (mark_in wide u) (entry_key wide n u) (v + 1) → named vs inv v ≡ name
      → ((i : ℕ) → i < v → name_in u i ≡ name_in t i) → Welds n vs inv (noted u v name) (v + 1)
  send u name fits now is kept = record {
    celled = rw (marks_noted u v name fits, keys_noted u v name fits n lv) now;
    sent = λ j l. elim (ℕ_discrete j v) [
      | yes q ↦ rw q (name_noted_at u v name fits ∙ sym is)
      | no q ↦ (let b : j < v = omega arith in name_noted_off u v name fits j q ∙ kept j b ∙ m.sent j b)
    ];
  }

  -- the slot was free: no vertex before v has its cell
  module _ (u : List ℕ) (free : mark_in wide t r ≡ 0) (c : Claimed wide n r v k t u) where
    is_own : named vs inv v ≡ v
    is_own = new_name vs inv v (λ j l z.
        let b = was.has j l in
        let ne : b.0 ≢ r = (λ q. omega (arith, b.2, free, ap (mark_in wide t) q)) in
        others n (mark_in wide t) (entry_key wide n t) v was.entries k r f b.0 b.1 b.2 ne (b.3 ∙ z))

    here : held_key wide n u r ≡ k
    here = held_now wide n t v was.entries k r f v u (omega arith) c

    there : (i : ℕ) → i < 2 * n → i ≢ r → 0 < mark_in wide t i → held_key wide n u i ≡ held_key wide n t i
    there = held_kept wide n t v was.entries k r f v u (omega arith) c

    own : mark_in wide u r - 1 ≡ v
    own = omega (arith, c.mark_at)

    -- another slot that is used was so before
    before : (i : ℕ) → i < 2 * n → i ≢ r → 0 < mark_in wide u i → 0 < mark_in wide t i
    before i l ne p = rw (c.mark_off i l ne) at p

    celled_new : Celled n vs inv (mark_in wide u) (entry_key wide n u) (v + 1)
    celled_new = record {
      entries = entries_claimed wide n t v was.entries k r f v u (omega arith) c;
      holds = λ i l p. elim (ℕ_discrete i r) [
        | yes q ↦ rw q (here ∙ ap (vertex_code vs inv) (sym own))
        | no q ↦ (
            let u : 0 < mark_in wide t i = before i l q p in
            there i l q u ∙ was.holds i l u ∙ ap (λ (x : ℕ). vertex_code vs inv (x - 1)) (sym (c.mark_off i l q))
            )
      ];
      names = λ i l p. elim (ℕ_discrete i r) [
        | yes q ↦ rw (q, own) is_own
        | no q ↦ rw (c.mark_off i l q) (was.names i l (before i l q p))
      ];
      has = λ j l. elim (ℕ_discrete j v) [
        | yes q ↦ (r, f.within, omega (arith, c.mark_at), rw q here)
        | no q ↦ (
            let b = was.has j (omega arith) in
            let ne : b.0 ≢ r = (λ z. omega (arith, b.2, free, ap (mark_in wide t) z)) in
            (b.0, b.1, omega (arith, c.mark_off b.0 b.1 ne, b.2), there b.0 b.1 ne b.2 ∙ b.3)
            )
      ];
    }

    pub welds_new : v < length u → Welds n vs inv (noted u v v) (v + 1)
    unfolding name_in
    welds_new fits = send u v fits celled_new is_own (λ i l. c.upper i (omega arith))

  -- the slot holds the cell: its vertex names it
  pub welds_known : (name : ℕ) → mark_in wide t r ≡ name + 1 → v < length t → Welds n vs inv (noted t v name) (v + 1)
  welds_known name told fits =
      let used : 0 < mark_in wide t r = omega arith in
      let of : mark_in wide t r - 1 ≡ name = omega arith in
      let alike : vertex_code vs inv name ≡ k = rw of at (sym (was.holds r f.within used) ∙ f.holds used) in
      let own : named vs inv name ≡ name = rw of at (was.names r f.within used) in
      let below : name < v = omega (arith, was.entries.within r f.within) in
      send t name fits (
      record {
        entries = entries_past n (mark_in wide t) (entry_key wide n t) v (v + 1) (omega arith) was.entries;
        holds = was.holds;
        names = was.names;
        has = λ j l. elim (ℕ_discrete j v) [ yes q ↦ (r, f.within, used, rw q (f.holds used)) | no q ↦ was.has j (omega arith) ];
      }
      ) (known_name vs inv name v own (omega arith) alike) (λ i l. refl)
