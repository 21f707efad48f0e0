-- What the rows are worth: each key has one row, its area is the sum of the areas of its triangles in their order, and there is a row for
-- each key of a used triangle and no other. On a mesh that passes refusal 4 every row can be put in order.
use mathlib.Core.Path.{◌≡◌, refl, ◌∙◌, ap}
use mathlib.Core.Bool.{false, Bool, true, ◌&&◌, ◌||◌}
use Prim.Native.Nat.{ℕ, zero, suc}
use mathlib.Core.List.{List, [], ◌∷◌}
use lib.Dec.{T}
use lib.IntN.{ℤ}
use lib.Ieee.{Float, nan, inf, fin, binary32, fits, of_int}
use lib.Ieee.Fits.{div-fits, mul-fits}
use lib.Ieee.Positive.{positive}
use Rattle.ieee.specs.Single.{◌⊗◌, nought}
use Rattle.ids.specs.Triangles.{triangle}
use Rattle.sums.specs.declared.triangle.Facet.{Facet}
use Rattle.sums.specs.Box.{box, origin}
use Rattle.sums.specs.Facet.{Part, out_of_range, sliver, used, part}
use Rattle.sums.specs.inner.Plus.{plus}
use Rattle.sums.specs.Fine.{all_fine}
use Rattle.sums.proofs.AreaLaws.{part_plus}
use Rattle.sums.proofs.Plus.{plus_add, plus_mul, plus_zero}
use Rattle.rows.specs.Rows.{scaled}
use Rattle.rows.specs.Plain.{plain_float, plain_row, all_plain}
use Rattle.rows.specs.Sorting.{all_single}
use Rattle.surfaces.specs.declared.Key.{Key}
use Rattle.surfaces.specs.Surfaces.{Bucket, normal_key, ten, tenth, rows}
use Rattle.surfaces.specs.Keys.{area_for, has_key, Apart, AllAreas}
use Rattle.surfaces.proofs.Keys.{area_put, has_put, apart_put, put_all}
use Rattle.surfaces.proofs.Plain.{tenth_plain}
use Rattle.walk.specs.Walk.{with_surface, buckets_to}
use Rattle.walk.specs.Worth.{sum_with, sum_for, has_part, key_among}

-- ---- the keys and their areas

area_with_lem : (k : Key) (bs : List Bucket) (p : Part) → area_for k (with_surface bs p) ≡ sum_with k (area_for k bs) p
unfolding with_surface sum_with
area_with_lem k bs out_of_range = refl
area_with_lem k bs sliver = refl
area_with_lem k bs (used f) = area_put k (normal_key f.nx f.ny f.nz) f.area32 bs

pub buckets_sums : (vs o : List Float) (ids : List ℕ) (k : Key) (n : ℕ) → area_for k (buckets_to vs o ids n) ≡ sum_for vs o ids k n
unfolding buckets_to sum_for area_for
buckets_sums vs o ids k zero = refl
buckets_sums vs o ids k (suc n) =
    area_with_lem k (buckets_to vs o ids n) (part vs o (triangle ids n))
    ∙ ap (λ (s : Float). sum_with k s (part vs o (triangle ids n))) (buckets_sums vs o ids k n)

has_with : (k : Key) (bs : List Bucket) (p : Part) → has_key k (with_surface bs p) ≡ (has_part k p || has_key k bs)
unfolding with_surface has_part
has_with k bs out_of_range = refl
has_with k bs sliver = refl
has_with k bs (used f) = has_put (normal_key f.nx f.ny f.nz) k f.area32 bs

pub buckets_keys : (vs o : List Float) (ids : List ℕ) (k : Key) (n : ℕ) → has_key k (buckets_to vs o ids n) ≡ key_among vs o ids k n
unfolding buckets_to key_among has_key
buckets_keys vs o ids k zero = refl
buckets_keys vs o ids k (suc n) =
    has_with k (buckets_to vs o ids n) (part vs o (triangle ids n))
    ∙ ap (λ (b : Bool). has_part k (part vs o (triangle ids n)) || b) (buckets_keys vs o ids k n)

apart_with : (bs : List Bucket) (p : Part) → Apart bs → Apart (with_surface bs p)
unfolding with_surface
apart_with bs out_of_range h = h
apart_with bs sliver h = h
apart_with bs (used f) h = apart_put (normal_key f.nx f.ny f.nz) f.area32 bs h

pub buckets_apart : (vs o : List Float) (ids : List ℕ) (n : ℕ) → Apart (buckets_to vs o ids n)
unfolding buckets_to Apart
buckets_apart vs o ids zero = tt
buckets_apart vs o ids (suc n) = apart_with (buckets_to vs o ids n) (part vs o (triangle ids n)) (buckets_apart vs o ids n)

-- ---- rows that can be put in order

abbrev Plus : Float → Type 0
Plus x = T (plus x)

plus_with : (bs : List Bucket) (p : Part) → ((f : Facet) → p ≡ used f → Plus f.area32) → AllAreas Plus bs
    → AllAreas Plus (with_surface bs p)
unfolding with_surface
plus_with bs out_of_range g h = h
plus_with bs sliver g h = h
plus_with bs (used f) g h =
    let a = g f refl in
    put_all Plus Plus (λ x p. p) (normal_key f.nx f.ny f.nz) f.area32 (λ x p. plus_add binary32 x f.area32 p a)
    (plus_add binary32 nought f.area32 (plus_zero binary32) a) bs h

buckets_plus : (vs : List Float) (ids : List ℕ) → T (all_fine vs) → (n : ℕ) → AllAreas Plus (buckets_to vs (origin (box vs)) ids n)
unfolding buckets_to AllAreas
buckets_plus vs ids fine zero = tt
buckets_plus vs ids fine (suc n) =
    plus_with (buckets_to vs (origin (box vs)) ids n) (part vs (origin (box vs)) (triangle ids n))
    (λ f e. part_plus vs (triangle ids n) f fine e) (buckets_plus vs ids fine n)

plus_plain : (x : Float) → T (plus x) → T (plain_float x)
unfolding plain_float
plus_plain nan h = absurd h
plus_plain (inf s) h = tt
plus_plain (fin s zero e) h = h
plus_plain (fin s (suc m) e) h = tt

five : (p q r s t : Bool) → T p → T q → T r → T s → T t → T ((p && (q && (r && s))) && t)
five true true true true true hp hq hr hs ht = tt
five false q r s t hp hq hr hs ht = elim hp [ ]
five true false r s t hp hq hr hs ht = elim hq [ ]
five true true false s t hp hq hr hs ht = elim hr [ ]
five true true true false t hp hq hr hs ht = elim hs [ ]
five true true true true false hp hq hr hs ht = elim ht [ ]

rows_plain : (by : Float) → T (positive by) → (bs : List Bucket) → AllAreas Plus bs → T (all_plain (scaled by (rows bs)))
unfolding all_plain plain_row scaled rows AllAreas
rows_plain by h [] a = tt
rows_plain by h (b ∷ bs) a =
    five (plain_float (b.area ⊗ by)) (plain_float (tenth b.key.x)) (plain_float (tenth b.key.y)) (plain_float (tenth b.key.z))
    (all_plain (scaled by (rows bs)))
    (plus_plain (b.area ⊗ by) (plus_mul binary32 b.area by a.0 h)) (tenth_plain b.key.x) (tenth_plain b.key.y)
    (tenth_plain b.key.z) (rows_plain by h bs a.1)

pub buckets_plain : (vs : List Float) (ids : List ℕ) (by : Float) (n : ℕ) → T (all_fine vs) → T (positive by)
    → T (all_plain (scaled by (rows (buckets_to vs (origin (box vs)) ids n))))
buckets_plain vs ids by n fine h = rows_plain by h (buckets_to vs (origin (box vs)) ids n) (buckets_plus vs ids fine n)

-- and every float of a row is of binary32: an operation made it
pub rows_single : (by : Float) (bs : List Bucket) → T (all_single (scaled by (rows bs)))
unfolding all_single scaled rows
rows_single by [] = tt
rows_single by (b ∷ bs) =
    let one : (z : ℤ) → T (fits binary32 (tenth z)) = λ z. div-fits binary32 (of_int binary32 z) ten in
    five (fits binary32 (b.area ⊗ by)) (fits binary32 (tenth b.key.x)) (fits binary32 (tenth b.key.y))
    (fits binary32 (tenth b.key.z)) (all_single (scaled by (rows bs)))
    (mul-fits binary32 b.area by) (one b.key.x) (one b.key.y) (one b.key.z) (rows_single by bs)
