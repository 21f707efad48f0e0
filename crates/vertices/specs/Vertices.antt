-- Vertices are the complete triples of a list of floats, one for each axis. An id is in range when it names one (01, Triangles).
use Rattle.std.specs.Prelude.{ℕ, ◌+◌, ◌*◌, ◌/◌, Bool, ◌&&◌, List, ltb, length, get_or, Float}
use Rattle.std.specs.Float.{nan}
use Rattle.ids.specs.Triangles.{Triangle}
use Rattle.vertices.specs.declared.Axis.{Axis}

-- 0 for x, 1 for y, 2 for z
abbrev pub axis_number : Axis → ℕ
axis_number Axis.X = 0
axis_number Axis.Y = 1
axis_number Axis.Z = 2

-- how many there are
abbrev pub vertex_count : List Float → ℕ
vertex_count vs = length vs / 3

-- a coordinate of vertex v: axes 0, 1 and 2 are x, y and z
abbrev pub coordinate : List Float → ℕ → ℕ → Float
coordinate vs axis v = get_or vs (3 * v + axis) nan

-- an id i is in range when 3i + 2 < F
unfoldable pub in_range : List Float → ℕ → Bool
in_range vs i = ltb (3 * i + 2) (length vs)

-- and a triangle when its three ids are
unfoldable pub corners_in_range : List Float → Triangle → Bool
corners_in_range vs t = in_range vs t.a && (in_range vs t.b && in_range vs t.c)
