-- How often an edge is used each way, at most: the bound of lists put together. With it a table that has room still has room after a
-- step. Assumes nothing.
use mathlib.Core.Path.{◌≡◌}
use mathlib.Core.List.{List, [], ◌∷◌, ◌++◌, append_assoc}
use Prim.Native.Nat.{ℕ, ◌+◌, ◌-◌, ◌≤◌, ◌<◌}
use native.Mathlib.Omega.{arith}
use native.Mathlib.Decide.{dec_lt}
use lib.ListN.{length, length-append}
use Rattle.ids.specs.Uses.{Use}
use Rattle.ids.specs.EdgeChain.{Edge, same_edge}
use Rattle.ids.proofs.Uses.{uses_append}
use Rattle.table.specs.inner.Rows.{Free}
use Rattle.table.specs.inner.Table.{ups}
use Rattle.table.proofs.Search.{has_free}
use Rattle.table.proofs.Sums.{ups_le, uses_le}
use Rattle.steps.specs.inner.Rows.{edge_at, edge_word, edge_uses, UsesWithin, EdgeRoom, EdgesFit, EdgesAdded}
use Rattle.table.proofs.Counts.{Roomy}

pub ups_append : (k : Edge) (es fs : List (Use Edge)) → ups same_edge k (es ++ fs) ≡ ups same_edge k es + ups same_edge k fs
unfolding ups
ups_append k [] fs = omega arith
ups_append k (e ∷ es) fs = omega (arith, ups_append k es fs)

-- no list uses an edge more often than it is long
pub within_length : (m : ℕ) (es : List (Use Edge)) → length es ≤ m → UsesWithin m es
within_length m es l k = (omega (arith, ups_le same_edge k es, uses_le same_edge k es), omega (arith, uses_le same_edge k es))

pub within_le : (m o : ℕ) (es : List (Use Edge)) → m ≤ o → UsesWithin m es → UsesWithin o es
within_le m o es l w k = (omega (arith, (w k).0), omega (arith, (w k).1))

pub within_append : (m o : ℕ) (es fs : List (Use Edge)) → UsesWithin m es → UsesWithin o fs → UsesWithin (m + o) (es ++ fs)
within_append m o es fs v w k =
    (omega (arith, ups_append k es fs, (v k).0, (w k).0), omega (arith, ups_append k es fs, uses_append same_edge k es fs, (v k).1, (w k).1))

-- ---- room

pub room_free : (n : ℕ) (t : List ℕ) → EdgeRoom n t 1 → Free n (edge_uses t)
room_free n t w = has_free (edge_uses t) n (omega (arith, w.rows_left, w.means.rows.total))

pub room_word : (n : ℕ) (t : List ℕ) → EdgeRoom n t 1 → (i : ℕ) → i < n → Roomy (edge_word t i)
room_word n t w i l =
    elim (dec_lt 0 (edge_uses t i)) [
      | yes p ↦ (let b = w.counts_left (edge_at t i) in
          let up = w.means.rows.upped i l p in
          record { ups_left = omega (arith, b.0); downs_left = omega (arith, w.means.rows.counted i l p, b.1) })
      | no p ↦ record { ups_left = omega (arith, w.means.rows.blank i l (omega arith)); downs_left = omega arith }
    ]

-- room for more is room for less
fit_less : {n : ℕ} {t : List ℕ} {k m : ℕ} → m ≤ k → EdgesFit n k t → EdgesFit n m t
fit_less {k = k} {m = m} l w = record {
  space = w.space;
  room = record {
    so_far = w.room.so_far;
    rows_left = omega (arith, w.room.rows_left);
    counts_left = within_le (65535 - k) (65535 - m) w.room.so_far (omega arith) w.room.counts_left;
    means = w.room.means;
  };
}

-- after the uses fs there is room for so many fewer
fit_after : {n : ℕ} {t u : List ℕ} {k m : ℕ} {fs : List (Use Edge)}
    → length fs + m ≤ k → k ≤ 65535 → EdgesFit n k t → length u ≡ length t → EdgesAdded n t u fs → EdgesFit n m u
fit_after {k = k} {m = m} {fs = fs} l small w long added =
    let es = w.room.so_far in
    let own = within_length (length fs) fs (omega arith) in
    record {
      space = record { most = w.space.most; fits = omega (arith, w.space.fits) };
      room = record {
        so_far = es ++ fs;
        rows_left = omega (arith, length-append es fs, w.room.rows_left);
        counts_left = within_le (65535 - k + length fs) (65535 - m) (es ++ fs) (omega arith)
            (within_append (65535 - k) (length fs) es fs w.room.counts_left own);
        means = added.adds es w.room.means;
      };
    }

-- ---- three steps, one after the other, of one use at most each: there is room for all

pub first_fits : {n : ℕ} {t : List ℕ} → EdgesFit n 3 t → EdgesFit n 1 t
first_fits fit = fit_less (omega arith) fit

module _ {n : ℕ} {t u : List ℕ} {es : List (Use Edge)} (fit : EdgesFit n 3 t) (one : length es ≤ 1) (long : length u ≡ length t)
    (first : EdgesAdded n t u es) where
  second : EdgesFit n 2 u
  second = fit_after (omega arith) (omega arith) fit long first

  pub second_fits : EdgesFit n 1 u
  second_fits = fit_less (omega arith) second

  module _ {v : List ℕ} {fs : List (Use Edge)} (two : length fs ≤ 1) (long' : length v ≡ length u) (next : EdgesAdded n u v fs) where
    pub third_fits : EdgesFit n 1 v
    third_fits = fit_after (omega arith) (omega arith) second long' next

pub three_added : {n : ℕ} {t u v w : List ℕ} {es fs gs : List (Use Edge)}
    → EdgesAdded n t u es → EdgesAdded n u v fs → EdgesAdded n v w gs → EdgesAdded n t w (es ++ (fs ++ gs))
three_added a b c = record { adds = λ ds m. simp append_assoc at (c.adds _ (b.adds _ (a.adds ds m))) }
