-- How much area `compute` asks for (01, row 3 of the table of refusals), by the numbers of floats and ids.
use Rattle.std.specs.Prelude.{ℕ, ◌+◌, ◌*◌, ◌/◌}

-- work words for f floats and i ids: for edges 4i, for faces 4⌊i/3⌋, for the weld 8⌊f/3⌋, and for ids i
abbrev pub work_words : ℕ → ℕ → ℕ
work_words f i = 5 * i + 4 * (i / 3) + 8 * (f / 3)

-- floats of surface area for i ids
abbrev pub surface_floats : ℕ → ℕ
surface_floats i = 4 * (i / 3)

-- bytes of raster
abbrev pub raster_bytes : ℕ
raster_bytes = 65536
