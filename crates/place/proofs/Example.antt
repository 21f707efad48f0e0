-- Integers in the range, moved within it, meet the premise; so does a mesh with a real move, which is closed by computing. Assumes nothing.
use mathlib.Core.Logic.{◌≢◌}
use mathlib.Core.Path.{◌≡◌, refl, sym, ◌∙◌, ap}
use mathlib.Core.List.{List, [], ◌∷◌}
use Prim.Native.Nat.{ℕ, zero, suc, ◌+◌, ◌*◌, ◌≤◌, ◌<◌}
use native.Mathlib.Omega.{arith}
use lib.Dec.{T, leb, leb→le, lit<, lit≤}
use lib.IntN.{ℤ, pos, negsuc, nat_abs, ◌+ℤ◌}
use lib.ListN.{length}
use lib.Ieee.{Float, binary32, add, climb, div, eq, is_nan, le, lt, mul, neg, odd, of_bits, of_fields, of_int, round, size as numberSize, span}
use lib.Ieee.{sub, sum, to_signed, units}
use lib.Ieee.Fits.{and_i, and_l, and_r}
use Rattle.ieee.specs.Integral.{integral}
use Rattle.ieee.specs.Magnitude.{magnitude}
use Rattle.ieee.specs.Order.{least, greatest}
use Rattle.ieee.specs.Root.{closest_root, digits, floor_root, root, root_round}
use Rattle.ieee.specs.Rounded.{rounded}
use Rattle.ieee.proofs.Integers.Floats.{of_int_whole, to_signed_whole}
use Rattle.ids.specs.EdgeChain.{around, boundary_free, chain, crowded, enough, over_incident, present, same_edge, step, unbalanced}
use Rattle.ids.specs.Examples.{tetrahedron}
use Rattle.ids.specs.Triangles.{distinct, over_triangles, triangle}
use Rattle.ids.specs.Uses.{bit, counting, keys, keys_that, largest_sum, max_by, signed_sum, sum_by, uses}
use Rattle.ieee.specs.Single.{extent}
use Rattle.vertices.specs.Vertices.{corners_in_range, in_range}
use Rattle.sums.specs.Editions.{thresholds1}
use Rattle.sums.specs.Box.{box, box_to, box_volume, highest, lowest}
use Rattle.sums.specs.Facet.{facet_of, normal, part, part_of, rebased, size, tetra}
use Rattle.sums.specs.Totals.{on_slope, slope_of, totals_to, with_facet, with_part}
use Rattle.cells.specs.Cells.{Cell, cell_at, cell_of}
use Rattle.weld.specs.Weld.{epsilon_of, inverse}
use Rattle.verdict.specs.declared.Quality.{Quality}
use Rattle.verdict.specs.Verdict.{by_chain, by_faces, near_zero, quality, too_large}
use Rattle.qto.specs.Full.{distance, measures, measures_from, record_by, record_from, record_of, totals, verdict, volume_of}
use Rattle.place.specs.Moved.{is_whole, whole_of, all_whole, Further, Moved, millimetre}
use Rattle.place.specs.Example.{Point, shift, integers, floats, integers_fit, IntegersMeet, corner_points, here, there, RealMove}
use Rattle.place.proofs.Shifted.{in_i64, whole_told}
use Rattle.place.proofs.Vertices.{along}

of_integer : (z : ℤ) → nat_abs z ≤ 16777216 → whole_of (of_int binary32 z) ≡ z
of_integer z l = to_signed_whole 63 (of_int binary32 z) z (in_i64 (nat_abs z) l) (of_int_whole binary32 z l)

moved_integer : (d z : ℤ) → nat_abs z ≤ 16777216 → nat_abs (z +ℤ d) ≤ 16777216
    → whole_of (of_int binary32 (z +ℤ d)) ≡ whole_of (of_int binary32 z) +ℤ d
moved_integer d z l l' = of_integer (z +ℤ d) l' ∙ sym (ap (λ (i : ℤ). i +ℤ d) (of_integer z l))

-- ---- a list of integers in range

first_within : (z : ℤ) (zs : List ℤ) → T (integers_fit (z ∷ zs)) → nat_abs z ≤ 16777216
unfolding integers_fit
first_within z zs h = leb→le (nat_abs z) 16777216 (and_l (leb (nat_abs z) 16777216) (integers_fit zs) h)

rest_within : (z : ℤ) (zs : List ℤ) → T (integers_fit (z ∷ zs)) → T (integers_fit zs)
unfolding integers_fit
rest_within z zs h = and_r (leb (nat_abs z) 16777216) (integers_fit zs) h

all_whole_lem : (zs : List ℤ) → T (integers_fit zs) → T (all_whole (floats zs))
unfolding floats all_whole
all_whole_lem [] h = tt
all_whole_lem (z ∷ zs) h =
    let l = first_within z zs h in
    and_i (is_whole (of_int binary32 z)) (all_whole (floats zs)) (whole_told (of_int binary32 z) z (of_int_whole binary32 z l) l)
    (all_whole_lem zs (rest_within z zs h))

same_number : (zs : List ℤ) → length (floats zs) ≡ length zs
unfolding floats
same_number [] = refl
same_number (z ∷ zs) = ap suc (same_number zs)

-- ---- vertices of integers, and what is left over

module _ (dx dy dz : ℤ) (left left' : List ℤ) where
  abbrev one : List Point → List ℤ
  one ps = integers ps left

  abbrev other : List Point → List ℤ
  other ps = integers (shift dx dy dz ps) left'

  as_many : length left' ≡ length left → (ps : List Point) → length (other ps) ≡ length (one ps)
  unfolding integers shift
  as_many e [] = e
  as_many e (p ∷ ps) = ap (λ n. suc (suc (suc n))) (as_many e ps)

  further : length left ≤ 2 → (ps : List Point) → T (integers_fit (one ps)) → T (integers_fit (other ps)) → (axis : ℕ) → axis < 3
      → Further (along dx dy dz axis) axis (floats (one ps)) (floats (other ps))
  unfolding integers shift floats
  further small [] h k axis a v l = absurd (omega (arith, same_number left))
  further small (p ∷ ps) h k zero a zero l = moved_integer dx p.x (first_within _ _ h) (first_within _ _ k)
  further small (p ∷ ps) h k (suc zero) a zero l =
      moved_integer dy p.y (first_within _ _ (rest_within _ _ h)) (first_within _ _ (rest_within _ _ k))
  further small (p ∷ ps) h k (suc (suc zero)) a zero l =
      moved_integer dz p.z (first_within _ _ (rest_within _ _ (rest_within _ _ h)))
      (first_within _ _ (rest_within _ _ (rest_within _ _ k)))
  further small (p ∷ ps) h k (suc (suc (suc axis))) a zero l = absurd (omega arith)
  further small (p ∷ ps) h k axis a (suc v) l =
      let e : 3 * suc v + axis ≡ suc (suc (suc (3 * v + axis))) = omega arith in
      rw e
      (further small ps (rest_within _ _ (rest_within _ _ (rest_within _ _ h)))
      (rest_within _ _ (rest_within _ _ (rest_within _ _ k))) axis a v (omega arith))

pub integers_meet : IntegersMeet
integers_meet dx dy dz ps left left' small same h k =
    record {
      lengths =
          same_number (integers (shift dx dy dz ps) left') ∙ as_many dx dy dz left left' same ps ∙ sym (same_number (integers ps left));
      before = all_whole_lem (integers ps left) h;
      after = all_whole_lem (integers (shift dx dy dz ps) left') k;
      x = further dx dy dz left left' small ps h k 0 (lit< tt);
      y = further dx dy dz left left' small ps h k 1 (lit< tt);
      z = further dx dy dz left left' small ps h k 2 (lit< tt);
    }

moved_there : Moved (pos 16777214) (negsuc 16777215) (negsuc 6) (floats here) (floats there)
unfolding integers_fit integers shift
moved_there = integers_meet (pos 16777214) (negsuc 16777215) (negsuc 6) corner_points (pos 1 ∷ []) (negsuc 4 ∷ []) (lit≤ tt) refl tt tt

closed_here : (record_of (floats here) tetrahedron millimetre thresholds1).mesh_quality ≡ Quality.Closed
unfolding integers floats tetrahedron record_of record_by record_from verdict measures measures_from volume_of totals totals_to with_part
    with_facet on_slope slope_of part part_of corners_in_range in_range rebased normal size tetra facet_of triangle box_to lowest highest
    box_volume extent quality too_large near_zero by_chain by_faces boundary_free over_incident enough chain step around same_edge present
    unbalanced crowded keys_that largest_sum keys counting uses signed_sum bit sum_by max_by distinct over_triangles least greatest
    magnitude rounded root_round closest_root floor_root digits root add sub mul div lt le eq neg sum round units odd numberSize climb
    span is_nan of_bits of_fields of_int
closed_here = refl

-- the lowest x is 16,777,214 there and 0 here; it is that of vertex 0, whose cell has the numbers 167,772,150 and 0
corner_shows : (box (floats there)).xmin ≢ (box (floats here)).xmin
unfolding integers floats shift box_to lowest least lt is_nan of_int round units odd numberSize climb span to_signed
corner_shows e = let n : ◌≡◌ {A = ℕ} 16777214 0 = ap (λ (x : Float). nat_abs (whole_of x)) e in absurd (omega arith)

cell_shows : cell_at (floats there) (inverse (epsilon_of distance millimetre)) 0 ≢ cell_at (floats here)
    (inverse (epsilon_of distance millimetre)) 0
unfolding integers floats shift greatest lt is_nan of_int of_bits of_fields round units odd numberSize climb span to_signed cell_at cell_of
    epsilon_of div mul integral
cell_shows e = let n : ◌≡◌ {A = ℕ} 167772150 0 = ap (λ (c : Cell). nat_abs c.x) e in absurd (omega arith)

pub real_move : RealMove
unfolding le of_bits
real_move = record { moved = moved_there; unit = tt; closed = closed_here; corner_shows = corner_shows; cell_shows = cell_shows }
