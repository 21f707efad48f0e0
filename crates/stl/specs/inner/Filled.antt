-- What filling the two areas supposes and gives.
use Rattle.std.specs.Prelude.{◌≡◌, ℕ, ◌*◌, ◌≤◌, List, Float, Ok}
use Rattle.stl.specs.Stl.{stl_length}
use Rattle.stl.specs.Reading.{corners_later, ids_later}

-- n triangles lie within b bytes, find room in areas of v floats and w ids, and their ids are words
pub record RoomFor (n b v w : ℕ) : Type 0 where
  pub inside : stl_length n ≤ b
  pub floats_room : 9 * n ≤ v
  pub ids_room : 3 * n ≤ w
  pub ids_fit : 3 * n ≤ 4294967296

pub record Filled (bytes : List ℕ) (n : ℕ) (vs : List Float) (ids : List ℕ) (vs' : List Float) (ids' : List ℕ) : Type 0 where
  pub floats : vs' ≡ corners_later (Ok n) bytes vs
  pub ids_later_lem : ids' ≡ ids_later (Ok n) ids
