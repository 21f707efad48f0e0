-- What the premise says of single floats: none is refused, and every coordinate of every vertex is moved. Assumes nothing.
use mathlib.Core.Path.{◌≡◌, sym, ◌∙◌}
use mathlib.Core.List.{List, [], ◌∷◌}
use Prim.Native.Nat.{ℕ, zero, suc, ◌+◌, ◌*◌, ◌<◌}
use native.Mathlib.Omega.{arith}
use lib.Dec.{T}
use lib.IntN.{ℤ}
use lib.ListN.{length, get_or}
use lib.Ieee.{Float, nan}
use lib.Ieee.Bits.{is_true}
use lib.Ieee.Fits.{and_i, and_l, and_r}
use Rattle.vertices.specs.Vertices.{coordinate}
use Rattle.sums.specs.Fine.{fine, all_fine}
use Rattle.place.specs.Moved.{is_whole, whole_of, all_whole, Further, Moved}
use Rattle.place.proofs.Shifted.{Shifted, shifted_of, whole_tells, whole_fine}

-- ---- floats that are whole

-- none of them is refused, nor one that is left over
all_fine_lem : (vs : List Float) → T (all_whole vs) → T (all_fine vs)
unfolding all_whole all_fine
all_fine_lem [] h = tt
all_fine_lem (x ∷ vs) h =
    let t = whole_tells x (and_l (is_whole x) (all_whole vs) h) in
    and_i (fine x) (all_fine vs) (whole_fine x (whole_of x) t.is t.most) (all_fine_lem vs (and_r (is_whole x) (all_whole vs) h))

-- so refusal 4 does not see the move
pub fine_stays : (dx dy dz : ℤ) (vs vs' : List Float) → Moved dx dy dz vs vs' → all_fine vs' ≡ all_fine vs
fine_stays dx dy dz vs vs' m = is_true (all_fine vs') (all_fine_lem vs' m.after) ∙ sym (is_true (all_fine vs) (all_fine_lem vs m.before))

-- ---- vertices that are moved

each_whole : (vs : List Float) → T (all_whole vs) → (k : ℕ) → k < length vs → T (is_whole (get_or vs k nan))
unfolding all_whole
each_whole [] h k l = absurd (omega arith)
each_whole (x ∷ vs) h zero l = and_l (is_whole x) (all_whole vs) h
each_whole (x ∷ vs) h (suc k) l = each_whole vs (and_r (is_whole x) (all_whole vs) h) k (omega arith)

-- the move on an axis
abbrev pub along : ℤ → ℤ → ℤ → ℕ → ℤ
along dx dy dz zero = dx
along dx dy dz (suc zero) = dy
along dx dy dz (suc (suc k)) = dz

further : (dx dy dz : ℤ) (vs vs' : List Float) → Moved dx dy dz vs vs' → (axis : ℕ) → axis < 3 → Further (along dx dy dz axis) axis vs vs'
further dx dy dz vs vs' m zero h = m.x
further dx dy dz vs vs' m (suc zero) h = m.y
further dx dy dz vs vs' m (suc (suc zero)) h = m.z
further dx dy dz vs vs' m (suc (suc (suc k))) h = absurd (omega arith)

pub coordinate_shifted : (dx dy dz : ℤ) (vs vs' : List Float) → Moved dx dy dz vs vs' → (v axis : ℕ) → axis < 3 → 3 * v + 2 < length vs
    → Shifted (along dx dy dz axis) (coordinate vs axis v) (coordinate vs' axis v)
coordinate_shifted dx dy dz vs vs' m v axis h l =
    shifted_of (along dx dy dz axis) (coordinate vs axis v) (coordinate vs' axis v) (each_whole vs m.before (3 * v + axis) (omega arith))
    (each_whole vs' m.after (3 * v + axis) (omega (arith, m.lengths))) (further dx dy dz vs vs' m axis h v (omega arith))
