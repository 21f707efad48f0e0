-- A row of the table that is written, and what the table means then. Assumes nothing.
use mathlib.Core.Path.{◌≡◌, ap, ◌∙◌}
use mathlib.Core.Logic.{◌≢◌}
use mathlib.Core.Bool.{Bool, cond}
use mathlib.Core.List.{List, [], ◌∷◌, ◌++◌}
use Prim.Native.Nat.{ℕ, ◌+◌, ◌*◌, ◌<◌, min, max}
use native.Mathlib.Omega.{arith}
use lib.Dec.{ltb}
use lib.ListN.{length, get_or, set, length-set}
use lib.Seq.{get_or-set_same, get_or-set_other}
use Rattle.ids.specs.Uses.{Use}
use Rattle.ids.specs.EdgeChain.{Edge, same_edge, step}
use Rattle.table.specs.inner.Rows.{home_row, Found}
use Rattle.table.specs.inner.Counts.{uses_in, ups_in}
use Rattle.table.proofs.Search.{home_below}
use Rattle.table.proofs.Probe as probe
use Rattle.table.proofs.Probe.{Bumped}
use Rattle.steps.specs.inner.Rows.{EdgeTable, EdgeRows, EdgesFit, EdgesAdded, edge_home, edge_hash, edge_at, edge_word, edge_uses, edge_ups}
use Rattle.steps.specs.inner.Rows.{put_edge}
use Rattle.ids.proofs.Same.{edge_eq, edge_refl}
use Rattle.table.proofs.Counts.{weigh, Roomy, more_fits, more_uses, more_ups}
use Rattle.steps.proofs.Within.{room_word}

-- a row that is written
module _ (t : List ℕ) (r a b w : ℕ) where
  abbrev l₁ : List ℕ
  l₁ = set t (3 * r) a

  abbrev l₂ : List ℕ
  l₂ = set l₁ (3 * r + 1) b

  -- a word of another row
  put_off : (x : ℕ) → x ≢ 3 * r → x ≢ 3 * r + 1 → x ≢ 3 * r + 2 → get_or (put_edge t r a b w) x 0 ≡ get_or t x 0
  put_off x n₀ n₁ n₂ = get_or-set_other l₂ (3 * r + 2) x w 0 n₂ ∙ get_or-set_other l₁ (3 * r + 1) x b 0 n₁ ∙ get_or-set_other t (3 * r) x a 0 n₀

  module _ (fits : 3 * r + 2 < length t) where
    put_0 : get_or (put_edge t r a b w) (3 * r) 0 ≡ a
    put_0 =
        get_or-set_other l₂ (3 * r + 2) (3 * r) w 0 (omega arith) ∙ get_or-set_other l₁ (3 * r + 1) (3 * r) b 0 (omega arith)
        ∙ get_or-set_same t (3 * r) a 0 (omega arith)

    put_1 : get_or (put_edge t r a b w) (3 * r + 1) 0 ≡ b
    put_1 = get_or-set_other l₂ (3 * r + 2) (3 * r + 1) w 0 (omega arith) ∙ get_or-set_same l₁ (3 * r + 1) b 0 (simp length-set (omega arith))

    put_2 : get_or (put_edge t r a b w) (3 * r + 2) 0 ≡ w
    put_2 = get_or-set_same l₂ (3 * r + 2) w 0 (simp length-set (omega arith))

-- the row counts one use more, and the others are as they were
put_bumped : (t : List ℕ) (r a b : ℕ) (up : Bool) → 3 * r + 2 < length t → Roomy (edge_word t r)
    → Bumped r (record { low = a; high = b }) up (edge_at t) (edge_at (put_edge t r a b (edge_word t r + weigh up)))
    (edge_uses t) (edge_uses (put_edge t r a b (edge_word t r + weigh up))) (edge_ups t) (edge_ups (put_edge t r a b (edge_word t r + weigh up)))
put_bumped t r a b up fits room =
    let w : ℕ = edge_word t r + weigh up in
    record {
      key_at = λ i. record { low = put_0 t r a b w fits i; high = put_1 t r a b w fits i };
      cnt_at = ap uses_in (put_2 t r a b w fits) ∙ more_uses (edge_word t r) room up;
      up_at = ap ups_in (put_2 t r a b w fits) ∙ more_ups (edge_word t r) room up;
      key_off = λ x ne i. record {
        low = put_off t r a b w (3 * x) (omega arith) (omega arith) (omega arith) i;
        high = put_off t r a b w (3 * x + 1) (omega arith) (omega arith) (omega arith) i;
      };
      cnt_off = λ x ne. ap uses_in (put_off t r a b w (3 * x + 2) (omega arith) (omega arith) (omega arith));
      up_off = λ x ne. ap ups_in (put_off t r a b w (3 * x + 2) (omega arith) (omega arith) (omega arith));
    }

-- a search starts within the table
home_in_lem : (n : ℕ) (k : Edge) → 0 < n → edge_home n k < n
unfolding edge_home edge_hash
home_in_lem n k pos = home_below n (edge_hash k) pos (omega arith)

-- the table after one more use, counted in the row that the search found
added : (n : ℕ) (t : List ℕ) (es : List (Use Edge)) (r : ℕ) (x : Use Edge) → EdgeRows n t → Roomy (edge_word t r)
    → EdgeTable n t es → Found n (edge_home n x.key) (edge_at t) (edge_uses t) x.key r
    → EdgeTable n (put_edge t r x.key.low x.key.high (edge_word t r + weigh x.up)) (es ++ x ∷ [])
added n t es r x space room m f =
    probe.step same_edge edge_eq edge_refl n (edge_home n) (edge_at t) (edge_uses t) (edge_ups t) es x r
    (home_in_lem n x.key (omega (arith, f.within))) m f _ _ _
    (put_bumped t r x.key.low x.key.high x.up (omega (arith, f.within, space.fits)) room)

-- ---- a step from u to v, by what the functions that `walk` calls ensured

pub record Reached (n : ℕ) (t : List ℕ) (u v low high hash start r by : ℕ) : Type 0 where
  pub lower : low ≡ min u v
  pub higher : high ≡ max u v
  pub hashed : hash ≡ edge_hash (record { low = low; high = high })
  pub homed : start ≡ home_row n hash
  pub found : Found n start (edge_at t) (edge_uses t) (record { low = low; high = high }) r
  pub weighed : by ≡ cond (ltb u v) 65536 1

module _ {n : ℕ} {t : List ℕ} {u v low high hash start r by : ℕ} (fit : EdgesFit n 1 t) (w : Reached n t u v low high hash start r by) where
  room : Roomy (edge_word t r)
  room = room_word n t fit.room r w.found.within

  pub bump_fits : (r < 131072) × (3 * r + 2 < length t) × (edge_word t r + by < 4294967296)
  bump_fits =
      let within = w.found.within in
      (omega (arith, fit.space.most), omega (arith, fit.space.fits), rw w.weighed (more_fits (edge_word t r) room (ltb u v)))

  pub walked : EdgesAdded n t (put_edge t r low high (edge_word t r + by)) (step u v ∷ [])
  unfolding step edge_home
  walked =
      let found = rw (w.homed, w.hashed, w.lower, w.higher) at w.found in
      record { adds = λ es m. rw (w.lower, w.higher, w.weighed) (added n t es r (step u v) fit.space room m found) }
