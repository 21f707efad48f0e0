-- A loop over the triangles that counts their edges: the table means the uses of the triangles before i, no more than i of them, and no
-- edge more than i / 3 times each way. So there is always room for three more. Assumes nothing.
use mathlib.Core.Path.{◌≡◌, refl}
use mathlib.Core.List.{List, [], ◌++◌}
use Prim.Native.Nat.{ℕ, ◌+◌, ◌/◌, ◌≤◌, ◌<◌}
use native.Mathlib.Omega.{arith}
use lib.ListN.{length, drop, length-append}
use Rattle.ids.specs.Triangles.{Triangle, over_triangles}
use Rattle.ids.specs.Uses.{Use}
use Rattle.ids.specs.EdgeChain.{Edge}
use Rattle.ids.proofs.Triangles.{triangle_at, turn, turned}
use Rattle.steps.specs.inner.Rows.{EdgeTable, UsesWithin, EdgesFit}
use Rattle.steps.proofs.Within.{within_length, within_le, within_append}
use Rattle.edges.specs.inner.Gather.{EdgesToCome, TriangleAdded}

-- the table t of n rows after the triangles of the first i ids
pub record Gathering (edges : Triangle → List (Use Edge)) (ids : List ℕ) (n : ℕ) (t : List ℕ) (i : ℕ) : Type 0 where
  pub so_far : List (Use Edge)
  pub with_rest : so_far ++ over_triangles edges (drop i ids) ≡ over_triangles edges ids
  pub few : length so_far ≤ i
  pub within : UsesWithin (i / 3) so_far
  pub means : EdgeTable n t so_far

pub gathering_none : {edges : Triangle → List (Use Edge)} {ids : List ℕ} {n : ℕ} {t : List ℕ} → EdgesToCome ids n t → Gathering edges ids n t 0
gathering_none m = record { so_far = []; with_rest = refl; few = omega arith; within = within_length 0 [] (omega arith); means = m.empty }

module _ {edges : Triangle → List (Use Edge)} {ids : List ℕ} {n : ℕ} {t : List ℕ} {i : ℕ} (g : Gathering edges ids n t i) where
  module _ (more : i + 2 < length ids) where
    pub gathering_fits : {t₀ : List ℕ} → EdgesToCome ids n t₀ → length t ≡ length t₀ → EdgesFit n 3 t
    gathering_fits come long = record {
      space = record { most = come.space.most; fits = omega (arith, come.space.fits) };
      room = record {
        so_far = g.so_far;
        rows_left = omega (arith, g.few, come.rows);
        counts_left = within_le (i / 3) 65532 g.so_far (omega (arith, come.few)) g.within;
        means = g.means;
      };
    }

    pub gathering_next : {u : List ℕ} → TriangleAdded n t u (edges (triangle_at ids i)) → Gathering edges ids n u (i + 3)
    gathering_next m =
        let fs = edges (triangle_at ids i) in
        let both = within_append (i / 3) 1 g.so_far fs g.within m.within in
        record {
          so_far = g.so_far ++ fs;
          with_rest = turn edges ids i g.so_far g.with_rest more;
          few = rw length-append (omega (arith, g.few, m.few));
          within = within_le (i / 3 + 1) ((i + 3) / 3) (g.so_far ++ fs) (omega arith) both;
          means = m.added.adds g.so_far g.means;
        }

  pub gathering_last : length ids ≤ i + 2 → EdgeTable n t (over_triangles edges ids)
  gathering_last done = rw (← turned edges ids i g.so_far g.with_rest done) g.means
