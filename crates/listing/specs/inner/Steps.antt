-- The test of the areas, with what it leaves to the code.
use Rattle.std.specs.Prelude.{◌≡◌, ℕ, ◌+◌, ◌*◌, ◌≤◌, Bool, false}
use Rattle.listing.specs.Lists.{head_bytes, text_areas_short}

-- r is whether areas of s floats and t bytes are too short for n rows; where they are not, both have room
pub record Short (n s t : ℕ) (r : Bool) : Type 0 where
  pub is : r ≡ text_areas_short n s t
  pub room : r ≡ false → (4 * n ≤ s) × (head_bytes + 36 * n ≤ t)
