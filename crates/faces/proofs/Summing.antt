-- A loop over the triangles that counts their faces: the table means the uses of the first t, no more than t of them, so there is always
-- room for one more. Assumes nothing.
use mathlib.Core.Path.{◌≡◌, refl}
use mathlib.Core.List.{List, [], ◌++◌}
use Prim.Native.Nat.{ℕ, ◌+◌, ◌*◌, ◌≤◌, ◌<◌}
use native.Mathlib.Omega.{arith}
use lib.ListN.{length, drop}
use Rattle.ids.specs.Triangles.{triangle, triangle_count}
use Rattle.ids.specs.Uses.{Use}
use Rattle.ids.specs.FaceNet.{Face, face, faces}
use Rattle.faces.specs.inner.Rows.{FaceTable, FaceToAdd, FacesToCome, FacesAdded}
use Rattle.faces.proofs.Turns.{length_next, next_turn, last_turn}

-- the table of n rows after the first t triangles
pub record Summing (ids : List ℕ) (n : ℕ) (table : List ℕ) (t : ℕ) : Type 0 where
  pub so_far : List (Use Face)
  pub few : length so_far ≤ t
  pub with_rest : so_far ++ faces (drop (3 * t) ids) ≡ faces ids
  pub means : FaceTable ids n table so_far

pub summing_none : {ids : List ℕ} {n : ℕ} {table : List ℕ} → FacesToCome ids n table → Summing ids n table 0
summing_none m = record { so_far = []; few = omega arith; with_rest = refl; means = m.empty }

module _ {ids : List ℕ} {n : ℕ} {table : List ℕ} {t : ℕ} (s : Summing ids n table t) where
  module _ (more : t < triangle_count ids) where
    pub summing_fits : {table₀ : List ℕ} → FacesToCome ids n table₀ → length table ≡ length table₀ → FaceToAdd ids n table t
    summing_fits come long = record {
      of = record { few = come.few; here = more };
      space = record { most = come.space.most; fits = omega (arith, come.space.fits) };
      room = record {
        so_far = s.so_far;
        rows_left = omega (arith, s.few, come.rows);
        counts_left = omega (arith, s.few, come.few);
        means = s.means;
      };
    }

    pub summing_next : {after : List ℕ} → FacesAdded ids n table after (face (triangle ids t)) → Summing ids n after (t + 1)
    summing_next m = record {
      so_far = s.so_far ++ face (triangle ids t);
      few = omega (arith, s.few, length_next s.so_far (triangle ids t));
      with_rest = next_turn ids t s.so_far s.with_rest more;
      means = m.adds s.so_far s.means;
    }

  pub summing_last : triangle_count ids ≤ t → FaceTable ids n table (faces ids)
  summing_last done = rw (← last_turn ids t s.so_far s.with_rest done) s.means
