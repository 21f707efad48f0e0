-- The listing of document 01 with 02's counts (A1), line by line, and the line of a refusal.
use Rattle.std.specs.Prelude.{ℕ, List, [], ◌++◌, ◌∷◌, Option, Some, None, Float}
use Rattle.ids.specs.Uses.{bit}
use Rattle.rows.specs.declared.PlanarSurface.{PlanarSurface}
use Rattle.record.specs.declared.MeshQto.{MeshQto}
use Rattle.record.specs.Names.{quality_name, method_name, profile_name}
use Rattle.spelling.specs.Text.{codes, bits, decimal, line}

unfoldable pub trust_lines : MeshQto → List ℕ
trust_lines q =
    line "quality " (codes (quality_name q.mesh_quality))
    ++ (line "reliable " (decimal (bit q.volume_reliable))
    ++ (line "method " (codes (method_name q.volume_method))
    ++ line "profile " (codes (profile_name q.profile_invalid))))

unfoldable pub number_lines : MeshQto → List ℕ
number_lines q =
    line "volume " (bits q.volume_m3)
    ++ (line "aabb " (bits q.aabb_volume_m3)
    ++ (line "surface " (bits q.surface_area_m2)
    ++ (line "top " (bits q.area_top_m2)
    ++ (line "bottom " (bits q.area_bottom_m2)
    ++ (line "side " (bits q.area_side_m2)
    ++ (line "inclined " (bits q.area_inclined_m2)
    ++ (line "largest " (bits q.largest_surface_m2)
    ++ (line "smallest " (bits q.smallest_surface_m2)
    ++ line "best " (bits q.volume_best_m3)))))))))

-- none, or bits
unfoldable pub prism_text : Option Float → List ℕ
prism_text None = codes "none"
prism_text (Some p) = bits p

-- 02's counts of triangles
unfoldable pub triangle_lines : MeshQto → List ℕ
triangle_lines q =
    line "used " (decimal q.triangles_used)
    ++ (line "range " (decimal q.triangles_out_of_range)
    ++ line "sliver " (decimal q.triangles_sliver))

unfoldable pub count_lines : MeshQto → ℕ → List ℕ
count_lines q pieces = line "pieces " (decimal pieces) ++ (triangle_lines q ++ line "surfaces " (decimal q.surface_count))

-- each surface row is area, nx, ny, nz
unfoldable pub row_line : PlanarSurface → List ℕ
row_line r = bits r.area ++ (codes " " ++ (bits r.nx ++ (codes " " ++ (bits r.ny ++ (codes " " ++ (bits r.nz ++ codes "\n"))))))

unfoldable pub row_lines : List PlanarSurface → List ℕ
row_lines [] = []
row_lines (r ∷ rs) = row_line r ++ row_lines rs

-- the lines above the rows
unfoldable pub head_lines : MeshQto → ℕ → List ℕ
head_lines q pieces =
    trust_lines q
    ++ (number_lines q
    ++ (line "prism " (prism_text q.volume_prism_bound_m3)
    ++ count_lines q pieces))

-- of a record, its surface rows and the number of pieces
unfoldable pub listing_of : MeshQto → List PlanarSurface → ℕ → List ℕ
listing_of q rows pieces = head_lines q pieces ++ row_lines rows

-- `refused N`
unfoldable pub refused_line : ℕ → List ℕ
refused_line n = line "refused " (decimal n)
