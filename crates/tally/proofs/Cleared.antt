-- A part whose first words were cleared is an empty table of edges, or of faces. Assumes nothing.
use mathlib.Core.Path.{◌≡◌, ap, ◌∙◌}
use mathlib.Core.List.{List}
use Prim.Native.Nat.{ℕ, ◌+◌, ◌*◌, ◌/◌, ◌≤◌, ◌<◌}
use native.Mathlib.Omega.{arith}
use lib.ListN.{length, get_or, drop, replicate, length-replicate, get_or-replicate, get_or-append}
use Rattle.ids.specs.Triangles.{triangle_count}
use Rattle.ids.specs.Lent.{cleared, most_entries}
use Rattle.edges.specs.inner.Gather.{EdgesToCome}
use Rattle.faces.specs.inner.Rows.{FacesToCome}
use Rattle.edges.proofs.Tally as edge-tables
use Rattle.faces.proofs.Rows as face-tables

cleared_zero : (k : ℕ) (t u : List ℕ) → u ≡ cleared k t → (x : ℕ) → x < k → get_or u x 0 ≡ 0
unfolding cleared
cleared_zero k t u is x l =
    ap (λ (v : List ℕ). get_or v x 0) is ∙ get_or-append (replicate k 0) (drop k t) 0 x (rw length-replicate l)
    ∙ get_or-replicate {A = ℕ} k x 0 0 l

-- w is the part as it was lent, u as it is cleared
module _ (ids w u : List ℕ) (few : length ids ≤ most_entries) (same : length u ≡ length w) where
  -- 4 words an id are more than the rows take
  pub empty_edges : (n : ℕ) → 4 * length ids ≤ length w → n ≡ length ids * 4 / 3 → u ≡ cleared (4 * length ids) w → EdgesToCome ids n u
  empty_edges n fits rows is = record {
    few = few;
    rows = omega arith;
    space = record { most = omega arith; fits = omega arith };
    empty = edge-tables.empty_table n u (λ j l. cleared_zero (4 * length ids) w u is (3 * j + 2) (omega arith));
  }

  pub empty_faces : 4 * triangle_count ids ≤ length w → u ≡ cleared (2 * (2 * triangle_count ids)) w
      → FacesToCome ids (2 * triangle_count ids) u
  empty_faces fits is = record {
    few = few;
    rows = omega arith;
    space = record { most = omega arith; fits = omega arith };
    empty = face-tables.empty_table ids (2 * triangle_count ids) u (λ l. omega arith)
        (cleared_zero (2 * (2 * triangle_count ids)) w u is);
  }
