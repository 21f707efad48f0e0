-- What one triangle more does to the index and the floats: its key has a row, which grows, or gets the next one. Assumes nothing.
use Rattle.std.proofs.Common.{◌≡◌, ℕ, ◌+◌, ◌-◌, ◌*◌, ◌<◌, ◌≤◌, ◌≢◌, List, [], ◌∷◌, ◌++◌, length, drop, replicate, sym, refl, ap, ◌∙◌, arith, length-append}
use native.Mathlib.Decide.{ℕ_discrete}
use lib.Ieee.{Float}
use lib.ListN.{get_or-replicate}
use Rattle.table.specs.inner.Rows.{Found}
use Rattle.slots.specs.inner.Forms.{narrow}
use Rattle.slots.specs.inner.Slots.{mark_in, entry_key, held_key, code_home, Searchable, Claimed}
use Rattle.slots.proofs.Entries.{entries_none, entries_searchable, entries_claimed, others}
use Rattle.rows.specs.Rows.{flatten}
use Rattle.surfaces.specs.declared.Key.{Key}
use Rattle.surfaces.specs.Surfaces.{Bucket, add_area, rows}
use Rattle.surfaces.specs.inner.Index.{key_at, key_code, Gathered, with_row, Ready, AddsArea}
use Rattle.surfaces.proofs.Codes.{code_one}
use Rattle.surfaces.proofs.Buckets.{fresh, put_new, row_more, with_area, key_front, key_last, known_length, known_keys, known_floats}

-- ---- an empty index, and one with room

pub gathered_none : (m : ℕ) (s : List Float) → Gathered m s (replicate (5 * m) 0) s []
unfolding flatten rows mark_in
gathered_none m s =
    let t : List ℕ = replicate (5 * m) 0 in
    let z : (r : ℕ) → r < 2 * m → mark_in narrow t r ≡ 0 = (λ r l. get_or-replicate (5 * m) r 0 0 (omega arith)) in
    record {
      entries = entries_none m (mark_in narrow t) (entry_key narrow m t) z;
      holds = λ j l. absurd (omega arith);
      has = λ j l. absurd (omega arith);
      filled = refl;
    }

pub ready_searchable : (m n : ℕ) (t : List ℕ) (u : List Float) → Ready m n t u → Searchable narrow m t
ready_searchable m n t u c =
    let w = c.means in
    entries_searchable narrow m t (length w.1) w.3.entries (omega (arith, w.2, c.left)) (
    record { small = c.small; long = omega (arith, c.words) })

-- ---- one triangle more

module _ (m : ℕ) (s : List Float) (t : List ℕ) (u : List Float) (bs : List Bucket) (k : Key) (a : Float) (r : ℕ) (g : Gathered m s t u bs)
    (f : Found (2 * m) (code_home m (key_code k)) (held_key narrow m t) (mark_in narrow t) (key_code k) r) where
  -- a row whose slot is not r has another key
  not_here : (j : ℕ) (l : j < length bs) → mark_in narrow t r ≢ j + 1 → key_at bs j ≢ k
  not_here j l ne e =
      let b = g.has j l in
      let row : mark_in narrow t b.0 - 1 ≡ j = omega (arith, b.2) in
      others m (mark_in narrow t) (entry_key narrow m t) (length bs) g.entries (key_code k) r f b.0 b.1 (omega (arith, b.2))
      (λ q. ne (ap (mark_in narrow t) (sym q) ∙ b.2)) (ap (entry_key narrow m t) row ∙ g.holds j l ∙ ap key_code e)

  -- the slot was free: no row has the key
  module _ (free : mark_in narrow t r ≡ 0) where
    abbrev more : List Bucket
    more = bs ++ fresh k a ∷ []

    more_is : add_area k a bs ≡ more
    more_is = put_new k a bs (λ j l. not_here j l (omega arith))

    long : length more ≡ length bs + 1
    long = length-append bs (fresh k a ∷ [])

    pub length_new : length bs + 1 ≡ length (add_area k a bs)
    length_new = rw more_is (sym long)

    module _ (w : List ℕ) (c : Claimed narrow m r (length bs) (key_code k) t w) (room : 4 * length bs + 4 ≤ length u) where
      holds_now : (j : ℕ) → j < length bs + 1 → Dec (j ≡ length bs) → entry_key narrow m w j ≡ key_code (key_at more j)
      holds_now j l (yes e) = rw e (c.key_at ∙ ap key_code (sym (key_last bs (fresh k a))))
      holds_now j l (no ne) =
          let b : j < length bs = omega arith in
          c.key_off j ne ∙ g.holds j b ∙ ap key_code (sym (key_front bs (fresh k a ∷ []) j b))

      has_now : (j : ℕ) → j < length bs + 1 → Dec (j ≡ length bs) → (i : ℕ) × (i < 2 * m) × (mark_in narrow w i ≡ j + 1)
      has_now j l (yes e) = (r, f.within, c.mark_at ∙ ap (λ (x : ℕ). x + 1) (sym e))
      has_now j l (no ne) =
          let b = g.has j (omega arith) in
          (b.0, b.1, c.mark_off b.0 b.1 (λ q. omega (arith, b.2, free, ap (mark_in narrow t) q)) ∙ b.2)

      pub gathered_new : Gathered m s w (with_row u (length bs) k a) (add_area k a bs)
      gathered_new = rw more_is (
          record {
            entries = rw long (entries_claimed narrow m t (length bs) g.entries (key_code k) r f (length bs) w (omega arith) c);
            holds = λ j l. holds_now j (omega (arith, long)) (ℕ_discrete j (length bs));
            has = λ j l. has_now j (omega (arith, long)) (ℕ_discrete j (length bs));
            filled = rw g.filled (row_more k a bs s (omega (arith, ap length g.filled)));
          })

  -- the slot holds the key: its row grows
  module _ (used : 0 < mark_in narrow t r) where
    abbrev row : ℕ
    row = mark_in narrow t r - 1

    below : row < length bs
    below = omega (arith, g.entries.within r f.within)

    here : key_at bs row ≡ k
    here = code_one (key_at bs row) k (sym (g.holds row below) ∙ f.holds used)

    same_length : length (add_area k a bs) ≡ length bs
    same_length = known_length k a bs row below here

    pub gathered_known : Gathered m s t (with_area u row a) (add_area k a bs)
    gathered_known = record {
      entries = rw same_length g.entries;
      holds = λ j l. g.holds j (omega (arith, same_length)) ∙ ap key_code (sym (known_keys k a bs row below here j));
      has = λ j l. g.has j (omega (arith, same_length));
      filled =
          rw g.filled (known_floats k a bs row below here (λ i l. not_here i (omega (arith, below)) (omega arith))
          (drop (4 * length bs) s) ∙ ap (λ (n : ℕ). flatten (rows (add_area k a bs)) ++ drop (4 * n) s) (sym same_length));
    }

-- ---- the same, whatever rows the index and the floats meant

module _ (m n : ℕ) (k : Key) (a : Float) (t : List ℕ) (u v : List Float) (r : ℕ) (ready : Ready m n t u)
    (f : Found (2 * m) (code_home m (key_code k)) (held_key narrow m t) (mark_in narrow t) (key_code k) r) where
  pub adds_new : (w : List ℕ) → mark_in narrow t r ≡ 0 → Claimed narrow m r n (key_code k) t w → v ≡ with_row u n k a
      → AddsArea m n k a t w u v (n + 1)
  adds_new w free c e = record {
    adds = λ s bs is g. (
      ap (λ (x : ℕ). x + 1) (sym is) ∙ length_new m s t u bs k a r g f free,
      rw (e, ← is) (gathered_new m s t u bs k a r g f free w (rw is c) (omega (arith, ready.room, ready.left))),
    );
  }

  pub adds_known : (j : ℕ) → mark_in narrow t r ≡ j + 1 → v ≡ with_area u j a → AddsArea m n k a t t u v n
  adds_known j told e =
      let used : 0 < mark_in narrow t r = omega arith in
      let row : mark_in narrow t r - 1 ≡ j = omega arith in
      record {
        adds = λ s bs is g. (
          sym is ∙ sym (same_length m s t u bs k a r g f used),
          rw (e, ← row) (gathered_known m s t u bs k a r g f used),
        );
      }
