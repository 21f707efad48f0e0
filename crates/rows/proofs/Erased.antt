-- Areas stand where they stood when normals are turned (02, A9): rows of equal area may change places, and no others. For rows whose
-- normals are wiped out are sorted by their areas alone, before or after the wiping. Assumes nothing.
use mathlib.Core.Path.{◌≡◌, refl, sym, ap, ◌∙◌}
use mathlib.Core.Bool.{Bool, true, false}
use mathlib.Core.List.{List, [], ◌∷◌}
use Prim.Native.Nat.{suc}
use lib.Dec.{T}
use lib.Ieee.{Float, inf, lt, fits, of_bits}
use lib.ListN.{length}
use Rattle.ieee.specs.Single.{nought}
use Rattle.rows.specs.declared.PlanarSurface.{PlanarSurface}
use Rattle.rows.specs.Rows.{then_by, precedes, sorted, largest, less_above, least_above, smallest}
use Rattle.rows.specs.Plain.{plain_float, all_plain}
use Rattle.rows.specs.Sorting.{all_single}
use Rattle.rows.specs.Opposite.{opposite_rows, areas_of}
use Rattle.rows.proofs.Mapped.{RowByRow, mapped_sorted, with_normal, normals_plain, normals_single}
use Rattle.rows.proofs.Opposite.{opposite_plain, opposite_single}

-- ---- the normals wiped out

abbrev erased : PlanarSurface → PlanarSurface
erased = with_normal (λ x. nought)

unfoldable erased_rows : List PlanarSurface → List PlanarSurface
erased_rows [] = []
erased_rows (r ∷ l) = erased r ∷ erased_rows l

erased_rows_lem : RowByRow erased erased_rows
unfolding erased_rows
erased_rows_lem = record { none = refl; next = λ r l. refl }

first_alone : (less more rest : Bool) → then_by less more rest ≡ false → then_by less more false ≡ false
first_alone true more rest h = h
first_alone false true rest h = refl
first_alone false false rest h = refl

erased_behind : (r s : PlanarSurface) → precedes r s ≡ false → precedes (erased r) (erased s) ≡ false
unfolding precedes lt of_bits
erased_behind r s h = first_alone (lt s.area r.area) (lt r.area s.area) _ h

erased_sorted : (l : List PlanarSurface) → T (all_plain l) → T (all_single l) → erased_rows (sorted l) ≡ sorted (erased_rows l)
unfolding plain_float fits of_bits
erased_sorted l a f =
    mapped_sorted erased_rows_lem l (normals_plain (λ x. nought) erased_rows_lem (λ x t. tt) l a)
    (normals_single (λ x. nought) erased_rows_lem (λ x t. tt) l f) erased_behind a

erased_opposites : (l : List PlanarSurface) → erased_rows (opposite_rows l) ≡ erased_rows l
unfolding erased_rows opposite_rows
erased_opposites [] = refl
erased_opposites (r ∷ l) = ap (λ (m : List PlanarSurface). erased r ∷ m) (erased_opposites l)

-- ---- the areas

areas_erased : (l : List PlanarSurface) → areas_of (erased_rows l) ≡ areas_of l
unfolding erased_rows areas_of
areas_erased [] = refl
areas_erased (r ∷ l) = ap (λ (m : List Float). r.area ∷ m) (areas_erased l)

areas_sorted : (l : List PlanarSurface) → T (all_plain l) → T (all_single l) → areas_of (sorted l) ≡ areas_of (sorted (erased_rows l))
areas_sorted l a f = sym (areas_erased (sorted l)) ∙ ap areas_of (erased_sorted l a f)

pub opposite_areas : (l : List PlanarSurface) → T (all_plain l) → T (all_single l) → areas_of (sorted (opposite_rows l)) ≡ areas_of (sorted l)
opposite_areas l a f =
    areas_sorted (opposite_rows l) (opposite_plain l a) (opposite_single l f)
    ∙ ap (λ (m : List PlanarSurface). areas_of (sorted m)) (erased_opposites l) ∙ sym (areas_sorted l a f)

-- ---- what goes by the areas alone

length_areas : (l : List PlanarSurface) → length (areas_of l) ≡ length l
unfolding areas_of
length_areas [] = refl
length_areas (r ∷ l) = ap suc (length_areas l)

first_of : List Float → Float
first_of [] = nought
first_of (a ∷ l) = a

largest_areas : (l : List PlanarSurface) → first_of (areas_of l) ≡ largest l
unfolding first_of areas_of largest
largest_areas [] = refl
largest_areas (r ∷ l) = refl

least_of : Float → List Float → Float
least_of m [] = m
least_of m (a ∷ l) = least_of (less_above m a) l

least_areas : (m : Float) (l : List PlanarSurface) → least_of m (areas_of l) ≡ least_above m l
unfolding least_of areas_of least_above
least_areas m [] = refl
least_areas m (r ∷ l) = least_areas (less_above m r.area) l

module _ (l m : List PlanarSurface) (same : areas_of l ≡ areas_of m) where
  pub same_length : length l ≡ length m
  same_length = sym (length_areas l) ∙ ap length same ∙ length_areas m

  pub same_largest : largest l ≡ largest m
  same_largest = sym (largest_areas l) ∙ ap first_of same ∙ largest_areas m

  pub same_smallest : smallest l ≡ smallest m
  unfolding smallest
  same_smallest =
      let least : least_above (inf false) l ≡ least_above (inf false) m = (
      sym (least_areas (inf false) l) ∙ ap (least_of (inf false)) same ∙ least_areas (inf false) m
      ) in
      rw least
