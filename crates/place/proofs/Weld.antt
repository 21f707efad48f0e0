-- Two vertices share a weld cell just where they did before the move, so every vertex keeps its name, and the welded ids are the same.
-- Assumes nothing.
use mathlib.Core.Path.{◌≡◌, refl, sym, ◌∙◌}
use mathlib.Core.Bool.{Bool, true, false, cond}
use mathlib.Core.List.{List, [], ◌∷◌}
use Prim.Native.Nat.{ℕ, zero, suc, ◌+◌, ◌*◌, ◌<◌}
use native.Mathlib.Omega.{arith}
use lib.Dec.{T, ltb, ltb→lt, lit<}
use lib.IntN.{ℤ, ◌+ℤ◌}
use lib.ListN.{length}
use lib.Ieee.{Float}
use Rattle.ieee.proofs.Integers.Order.{eq_whole, eq_moved}
use Rattle.vertices.specs.Vertices.{vertex_count, coordinate}
use Rattle.cells.specs.Cells.{cell_of, cell_at, same_cell, first_that, named}
use Rattle.ieee.specs.SameInteger.{same_integer}
use Rattle.weld.specs.Weld.{epsilon_of, inverse, weld_id, weld_all, unwelded, welded}
use Rattle.refusals.specs.Refusals.{unit_fits}
use Rattle.qto.specs.Full.{distance}
use Rattle.place.specs.Moved.{Moved, unit_enough}
use Rattle.place.proofs.Shifted.{Shifted}
use Rattle.place.proofs.Vertices.{along, coordinate_shifted}
use Rattle.place.proofs.Cells.{same_cell_lem}

-- tests that agree find the same number first
same_first : (test test' : ℕ → Bool) (n j : ℕ) → ((i : ℕ) → i < j + n → test' i ≡ test i) → first_that test' n j ≡ first_that test n j
unfolding first_that
same_first test test' zero j h = refl
same_first test test' (suc n) j h = rw (h j (omega arith), same_first test test' n (suc j) (λ i g. h i (omega arith)))

module _ (u : Float) (enough : T (unit_enough u)) (fits : T (unit_fits u)) where
  abbrev inv : Float
  inv = inverse (epsilon_of distance u)

  -- both coordinates are moved, so they are one number just where they were
  same_sharing : (d : ℤ) (x y x' y' : Float) → Shifted d x x' → Shifted d y y'
      → same_integer (cell_of inv x') (cell_of inv y') ≡ same_integer (cell_of inv x) (cell_of inv y)
  same_sharing d x y x' y' p q =
      same_cell_lem u x' y' (p.at +ℤ d) (q.at +ℤ d) enough fits p.second q.second p.second_most q.second_most
      ∙ sym (eq_whole x' y' (p.at +ℤ d) (q.at +ℤ d) p.second q.second)
      ∙ eq_moved x y x' y' p.at q.at d p.first q.first p.second q.second
      ∙ eq_whole x y p.at q.at p.first q.first
      ∙ sym (same_cell_lem u x y p.at q.at enough fits p.first q.first p.first_most q.first_most)

  module _ (dx dy dz : ℤ) (vs vs' : List Float) (m : Moved dx dy dz vs vs') where
    on_axis : (axis i j : ℕ) → axis < 3 → 3 * i + 2 < length vs → 3 * j + 2 < length vs
        → same_integer (cell_of inv (coordinate vs' axis i)) (cell_of inv (coordinate vs' axis j))
        ≡ same_integer (cell_of inv (coordinate vs axis i)) (cell_of inv (coordinate vs axis j))
    on_axis axis i j h k l =
        same_sharing (along dx dy dz axis) (coordinate vs axis i) (coordinate vs axis j) (coordinate vs' axis i) (coordinate vs' axis j)
        (coordinate_shifted dx dy dz vs vs' m i axis h k) (coordinate_shifted dx dy dz vs vs' m j axis h l)

    same_cells : (i j : ℕ) → 3 * i + 2 < length vs → 3 * j + 2 < length vs
        → same_cell (cell_at vs' inv i) (cell_at vs' inv j) ≡ same_cell (cell_at vs inv i) (cell_at vs inv j)
    unfolding same_cell cell_at
    same_cells i j k l = rw (on_axis 0 i j (lit< tt) k l, on_axis 1 i j (lit< tt) k l, on_axis 2 i j (lit< tt) k l)

    same_name : (v : ℕ) → 3 * v + 2 < length vs → named vs' inv v ≡ named vs inv v
    unfolding named
    same_name v l =
        same_first (λ j. same_cell (cell_at vs inv j) (cell_at vs inv v)) (λ j. same_cell (cell_at vs' inv j) (cell_at vs' inv v)) v 0
        (λ j h. same_cells j v (omega arith) l)

    same_id : (i : ℕ) → weld_id vs' inv i ≡ weld_id vs inv i
    unfolding weld_id
    same_id i = rw m.lengths (go (ltb i (vertex_count vs)) (ltb→lt _ _))
      where
        go : (b : Bool) → (T b → i < vertex_count vs) → cond b (named vs' inv i) i ≡ cond b (named vs inv i) i
        go false h = refl
        go true h = let l : i < vertex_count vs = h tt in same_name i (omega arith)

    same_ids : (ids : List ℕ) → weld_all vs' inv ids ≡ weld_all vs inv ids
    unfolding weld_all
    same_ids [] = refl
    same_ids (i ∷ ids) = rw (same_id i, same_ids ids)

    pub same_welded : (ids : List ℕ) → welded vs' ids (epsilon_of distance u) ≡ welded vs ids (epsilon_of distance u)
    unfolding welded unwelded
    same_welded ids = rw (m.lengths, same_ids ids)
