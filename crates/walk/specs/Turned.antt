-- The glove (02, A9): a triangle with its last two ids swapped counts as it did. (`turned_alike`)
use Rattle.std.specs.Prelude.{◌≡◌, List, Float}
use Rattle.ids.specs.Triangles.{Triangle}
use Rattle.ids.specs.Reversed.{turned_triangle}
use Rattle.walk.specs.Counts.{is_out_of_range, is_sliver, is_used}

-- for any floats and any origin
pub record TurnedAlike (vs o : List Float) (t : Triangle) : Type 0 where
  pub out_of_range : is_out_of_range vs (turned_triangle t) ≡ is_out_of_range vs t
  pub sliver : is_sliver vs o (turned_triangle t) ≡ is_sliver vs o t
  pub used : is_used vs o (turned_triangle t) ≡ is_used vs o t
