-- A triangle of a list of ids that is not too long; and a routine on ids over just the words that it needs: what it is lent, and what it
-- leaves.
use Rattle.std.specs.Prelude.{◌≡◌, List, ℕ, ◌≤◌, ◌<◌, length, replicate}
use Rattle.ids.specs.Triangles.{triangle_count}
use Rattle.ids.specs.Lent.{most_entries}

pub record TriangleOf (ids : List ℕ) (t : ℕ) : Type 0 where
  pub few : length ids ≤ most_entries
  pub here : t < triangle_count ids

pub record Lends (needed : ℕ) (ids part : List ℕ) : Type 0 where
  pub few : length ids ≤ most_entries
  pub long : length part ≡ needed

-- r is the answer, and the words are zero
pub record Leaves {A : Type 0} (needed : ℕ) (answer r : A) (after : List ℕ) : Type 0 where
  pub answers : r ≡ answer
  pub zeros : after ≡ replicate needed 0
