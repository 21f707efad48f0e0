-- The cube's text, by computing: its file, its record, its rows and its pieces, and then the listing of these. Assumes nothing.
use Rattle.std.specs.Prelude.{Ok}
use mathlib.Core.Path.{◌≡◌, refl}
use lib.Ieee.{binary32, add, climb, div, eq, is_nan, le, lt, mul, neg, odd, of_bits, of_fields, of_int, round, size as numberSize, span, sub}
use lib.Ieee.{sum, to_signed, units}
use Rattle.ieee.specs.Integral.{integral}
use Rattle.ieee.specs.Magnitude.{magnitude}
use Rattle.ieee.specs.Order.{greatest, least}
use Rattle.ieee.specs.Root.{closest_root, digits, floor_root, root, root_round}
use Rattle.ieee.specs.Rounded.{rounded}
use Rattle.ids.specs.EdgeChain.{around, boundary_free, chain, crowded, enough, over_incident, present, same_edge, step, unbalanced}
use Rattle.ids.specs.Pieces.{any, apart, groups, has_edge, pieces, share_edge, solid, solids, those, touched}
use Rattle.ids.specs.Triangles.{distinct, over_triangles, triangle}
use Rattle.ids.specs.Uses.{bit, counting, keys, keys_that, max_by, signed_sum, sum_by, uses}
use Rattle.vertices.specs.Vertices.{corners_in_range, in_range}
use Rattle.ieee.specs.Single.{extent}
use Rattle.sums.specs.Box.{box_to, box_volume, highest, lowest}
use Rattle.sums.specs.Facet.{facet_of, normal, part, part_of, rebased, size, tetra}
use Rattle.sums.specs.Fine.{all_fine}
use Rattle.sums.specs.Totals.{on_slope, slope_of, totals_to, with_facet, with_part}
use Rattle.ieee.specs.SameInteger.{same_integer}
use Rattle.rows.specs.Rows.{inserted, largest, least_above, precedes, scaled, smallest, sorted}
use Rattle.surfaces.specs.Surfaces.{add_area, normal_key, rows, same_key, tenths}
use Rattle.walk.specs.Walk.{buckets_to, with_surface}
use Rattle.walk.specs.Counts.{counts_of, how_many, is_out_of_range, is_sliver, is_used}
use Rattle.verdict.specs.Verdict.{by_chain, by_faces, near_zero, quality, too_large}
use Rattle.volume.specs.Best.{best_of}
use Rattle.record.specs.Flags.{if_clip, if_invalid}
use Rattle.record.specs.Numbers.{profile_at}
use Rattle.refusals.specs.declared.Check.{Check}
use Rattle.sums.specs.Editions.{edition_known, thresholds_of}
use Rattle.refusals.specs.Refusals.{check_of, unit_fits}
use Rattle.qto.specs.Full.{best, buckets, measures, measures_from, record_by, record_from, record_of, surface_of, surface_rows, totals, verdict}
use Rattle.qto.specs.Full.{volume_of}
use Rattle.words.specs.Words.{u16_at, u32_at, words_in, floats_of, bytes_of, all_bytes}
use Rattle.meshfile.specs.Format.{File, ended, ending_of, file_of, front_of, ids_in, length_fits, unit_in, vertices_in}
use Rattle.meshfile.specs.Written.{plain_file, chunk_of}
use Rattle.listing.specs.Cube.{cube_record, cube_rows, CubeLines}
use Rattle.listing.proofs.Cube.{cube_lines}
use Rattle.program.specs.Program.{named_edition, listed, mesh_text, text_at, text_for, text_of}
use Rattle.program.specs.Cube.{cube_file, CubePrinted}

cube_file_lem : file_of (plain_file cube_file) ≡ Ok cube_file
unfolding cube_file plain_file chunk_of all_bytes bytes_of file_of front_of u16_at u32_at words_in length_fits unit_in vertices_in ids_in ended ending_of
cube_file_lem = refl

cube_passes : check_of (floats_of cube_file.vertices) cube_file.ids (of_bits binary32 cube_file.unit) named_edition 13824 65536 2048
    ≡ Ok Check.Full
unfolding cube_file floats_of check_of unit_fits edition_known all_fine magnitude le lt eq of_bits of_fields
cube_passes = refl

cube_record_lem : record_of (floats_of cube_file.vertices) cube_file.ids (of_bits binary32 cube_file.unit) (thresholds_of named_edition)
    ≡ cube_record
unfolding thresholds_of
    cube_file floats_of cube_record record_of record_by record_from verdict measures measures_from volume_of surface_of totals totals_to
    with_part with_facet on_slope slope_of part part_of corners_in_range in_range rebased normal size tetra facet_of triangle box_to lowest
    highest box_volume extent quality too_large near_zero by_chain by_faces boundary_free over_incident enough chain step around same_edge
    present unbalanced crowded keys_that keys counting uses signed_sum bit sum_by max_by distinct over_triangles best best_of buckets
    surface_rows buckets_to with_surface tenths normal_key same_key same_integer add_area rows precedes inserted sorted scaled largest least_above
    smallest least greatest magnitude integral rounded root_round closest_root floor_root digits root add sub mul div lt le eq neg sum
    round units odd numberSize climb span is_nan of_bits of_fields of_int to_signed counts_of how_many is_out_of_range is_sliver is_used
cube_record_lem = refl

cube_rows_lem : surface_rows (floats_of cube_file.vertices) cube_file.ids (of_bits binary32 cube_file.unit) ≡ cube_rows
unfolding cube_file floats_of cube_rows surface_rows buckets buckets_to with_surface part part_of corners_in_range in_range rebased normal
    size tetra facet_of triangle box_to lowest highest tenths normal_key same_key same_integer add_area rows precedes inserted sorted scaled least
    greatest integral rounded root_round closest_root floor_root digits root add sub mul div lt le eq neg sum round units odd
    numberSize climb span is_nan of_bits of_fields of_int to_signed
cube_rows_lem = refl

cube_pieces : pieces share_edge cube_file.ids ≡ 1
unfolding cube_file pieces groups apart touched any has_edge same_edge share_edge those solid solids distinct triangle
cube_pieces = refl

pub cube_printed : CubePrinted
unfolding CubeLines cube_file text_of text_for mesh_text text_at listed if_clip if_invalid profile_at
cube_printed = rw (cube_file_lem, cube_passes, cube_record_lem, cube_rows_lem, cube_pieces) cube_lines
