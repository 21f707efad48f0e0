-- All ids by a table of all vertices: the weld. Assumes nothing.
use Rattle.std.proofs.Common.{◌≡◌, ℕ, ◌+◌, ◌/◌, ◌<◌, ◌≤◌, true, false, cond, ltb, List, [], ◌∷◌, length, take, map, refl, ap, ◌∙◌, arith, length-take-le, get_or-take, le-ltb}
use native.Mathlib.Decide.{dec_lt}
use lib.Ieee.{Float}
use Rattle.ids.specs.Lent.{cleared}
use Rattle.table.proofs.Cleared.{front_zero}
use Rattle.vertices.specs.Vertices.{vertex_count}
use Rattle.cells.specs.Cells.{named}
use Rattle.slots.specs.inner.Forms.{wide}
use Rattle.slots.specs.inner.Slots.{mark_in}
use Rattle.cells.specs.inner.Table.{name_in, Welds}
use Rattle.weld.specs.Weld.{weld_id, weld_all, inverse, unwelded, welded}
use Rattle.weld.specs.inner.Mapped.{id_by}

-- ---- all ids by a table of all vertices: the weld

mapped_weld : (vs : List Float) (inv : Float) (names ids : List ℕ) → length names ≡ vertex_count vs
    → ((j : ℕ) → j < vertex_count vs → name_in names j ≡ named vs inv j) → map (id_by names) ids ≡ weld_all vs inv ids
unfolding weld_all id_by weld_id
mapped_weld vs inv names [] long h = refl
mapped_weld vs inv names (x ∷ ids) long h = λ i. here i ∷ mapped_weld vs inv names ids long h i
  where
    here : cond (ltb x (length names)) (name_in names x) x ≡ cond (ltb x (vertex_count vs)) (named vs inv x) x
    here = rw long (elim (dec_lt x (vertex_count vs)) [
      | yes a ↦ rw (h x a)
      | no a ↦ rw (le-ltb x (vertex_count vs) (omega arith))
    ])

-- by the names in front of a table g
pub welds_all : (vs : List Float) (inv : Float) (g ids : List ℕ) → vertex_count vs ≤ length g → Welds (vertex_count vs) vs inv g (vertex_count vs)
    → map (id_by (take (vertex_count vs) g)) ids ≡ weld_all vs inv ids
unfolding name_in
welds_all vs inv g ids l w =
    let n : ℕ = vertex_count vs in
    mapped_weld vs inv (take n g) ids (length-take-le n g l) (λ j b. ap (λ (x : ℕ). x / 65536) (get_or-take n g j 0 b) ∙ w.sent j b)

-- the slots are free where the first k words are cleared
pub slots_cleared : (k : ℕ) (t z : List ℕ) → z ≡ cleared k t → (r : ℕ) → r < k → mark_in wide z r ≡ 0
unfolding mark_in
slots_cleared k t z e r l = omega (arith, front_zero k (r + 1) t z e r l (omega arith), get_or-take (r + 1) z r 0 (omega arith))

-- ---- whether there is one
pub welded_not : (vs : List Float) (ids : List ℕ) (ε : Float) → unwelded vs ε ≡ true → ids ≡ welded vs ids ε
unfolding welded
welded_not vs ids ε e = rw e

pub welded_so : (vs : List Float) (ids : List ℕ) (ε : Float) → unwelded vs ε ≡ false → weld_all vs (inverse ε) ids ≡ welded vs ids ε
unfolding welded
welded_so vs ids ε e = rw e
