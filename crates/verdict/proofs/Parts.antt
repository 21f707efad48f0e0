-- Where the ids stand in the lent area: behind a part that starts in the middle, and behind what was written into such a part. Assumes
-- nothing.
use mathlib.Core.Path.{◌≡◌, refl, ap, ◌∙◌}
use mathlib.Core.Bool.{Bool}
use mathlib.Core.List.{List, [], ◌++◌}
use Prim.Native.Nat.{ℕ, ◌+◌, ◌-◌, ◌*◌, ◌/◌, ◌≤◌}
use native.Mathlib.Omega.{arith}
use Rattle.std.specs.Prelude.{Option}
use borrow.Rule.Slice.PartMut.{post_of, Post-is}
use lib.ListN.{length, take, drop, length-drop, drop_of_length-le}
use lib.Seq.{length-take-le, drop_at, drop-append-add}
use Rattle.ids.proofs.Triangles.{append_none}
use Rattle.verdict.specs.inner.Steps.{chained}
use Rattle.verdict.specs.declared.Quality.{Quality}

-- the part from `front` on was written: what stands behind a place in it
pub behind_place : (at front n : ℕ) (w ys : List ℕ) → front ≤ at → front ≤ length w → n ≡ length w - front
    → drop at (take front w ++ (ys ++ post_of front n w)) ≡ drop (at - front) ys
behind_place at front n w ys l k is =
    let none : post_of front (length w - front) w ≡ [] = Post-is front (length w) w k ∙ drop_of_length-le w {i = length w} (omega arith) in
    let place : at ≡ length (take front w) + (at - front) = omega (arith, length-take-le front w k) in
    rw (is, none, append_none) (ap (λ (p : ℕ). drop p (take front w ++ ys)) place ∙ drop-append-add (take front w) ys (at - front))

-- the first m words of a part
pub part_long : (m n front : ℕ) (w : List ℕ) → m ≤ n → n + front ≤ length w → length (take m (take n (drop front w))) ≡ m
part_long m n front w l k =
    length-take-le m (take n (drop front w)) (omega (arith, length-take-le n (drop front w) (omega (arith, length-drop front w))))

-- it was written as m words z and then the ids
behind_written : (front m : ℕ) (w ys z ids : List ℕ) → front ≤ length w → length z ≡ m → ys ≡ z ++ ids
    → drop (front + m) (take front w ++ (ys ++ post_of front (length w - front) w)) ≡ ids
behind_written front m w ys z ids l lz is =
    behind_place (front + m) front (length w - front) w ys (omega arith) l refl ∙ ap (drop (front + m - front)) is
    ∙ drop_at z ids (front + m - front) (omega arith)

-- so by the lengths that the verdict's functions have, for i given ids and v vertices: edge and face part in front, then 8 words a vertex,
-- then the ids
module _ (i v : ℕ) (w ys : List ℕ) (near : Bool) (said : Option Quality) (long : length w ≡ 5 * i + 4 * (i / 3) + 8 * v) where
  abbrev front : ℕ
  front = 4 * i + 4 * (i / 3)

  -- what is behind them in the area, once ys is written from `front` on
  abbrev behind : List ℕ
  behind = drop (front + 8 * v) (take front w ++ (ys ++ post_of front (length w - front) w))

  pub asked_behind : (z ids : List ℕ) {asked : List ℕ} → length z ≡ 8 * v → ys ≡ z ++ ids → asked ≡ behind → said ≡ chained asked near
      → said ≡ chained ids near
  asked_behind z ids lz is at told =
      told ∙ ap (λ (l : List ℕ). chained l near) (at ∙ behind_written front (8 * v) w ys z ids (omega arith) lz is)

  -- as the given ids are laid: the words in front of them stay
  pub laid_behind : (ids : List ℕ) {asked : List ℕ} → ys ≡ take (8 * v) (take (length w - front) (drop front w)) ++ ids → asked ≡ behind
      → said ≡ chained asked near → said ≡ chained ids near
  laid_behind ids is at told =
      asked_behind (take (8 * v) (take (length w - front) (drop front w))) ids
      (part_long (8 * v) (length w - front) front w (omega arith) (omega arith)) is at told
