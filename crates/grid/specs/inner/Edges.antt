-- Where a point that is not outside a triangle lies: on an edge if one of the three values is zero, else inside.
use Rattle.std.specs.Prelude.{Bool, cond}
use Rattle.grid.specs.declared.Place.{Place}

abbrev pub edge_if : Bool → Place
edge_if zero = cond zero Place.OnEdge Place.Inside
