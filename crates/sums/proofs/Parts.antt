-- A triangle's part by what is prepared of it and by what its corners are found to be. Assumes nothing.
use Rattle.std.proofs.Common.{◌≡◌, ◌*◌, ◌<◌, true, false, ◌&&◌, T, eqb, List, [], ◌∷◌, pos, sym, refl, subst, mul-pos, arith, eqb→eq, ltb→lt}
use lib.Ieee.{Float, nan, inf, fin, binary64, up, down, lt, eq, fits}
use lib.Ieee.Fits.{and_l, and_r, down_pos}
use Rattle.ieee.specs.Double.{nought64}
use Rattle.ieee.proofs.Examples.{examples}
use Rattle.ieee.proofs.Order.Differences.{zero_bits}
use Rattle.ieee.proofs.Values.OneFloat.{value_unique}
use Rattle.ids.specs.Triangles.{Triangle}
use Rattle.vertices.specs.Vertices.{vertex_count, corners_in_range}
use Rattle.vertices.proofs.Range.{corners_below}
use Rattle.sums.specs.declared.triangle.Prepared.{Prepared}
use Rattle.sums.specs.Facet.{at, dot, normal, size, tetra, facet_of, out_of_range, part_of, rebased, part}
use Rattle.sums.specs.inner.Prepared.{facet_by, part_by, HasRoot, with_root, part_in, no_triangle}

-- ---- on its way

-- above zero, equal floats are one
above : (x y : Float) → T (fits binary64 x) → T (fits binary64 y) → T (eq x y) → T (lt (fin false 0 (pos 0)) x) → x ≡ y
unfolding eq lt
above nan y F G e l = absurd e
above (inf s) nan F G e l = absurd e
above (inf s) (fin t n d) F G e l = absurd e
above (inf true) (inf t) F G e l = absurd l
above (inf false) (inf true) F G e l = absurd e
above (inf false) (inf false) F G e l = refl
above (fin s m d) nan F G e l = absurd e
above (fin s m d) (inf t) F G e l = absurd e
above (fin true m d) (fin t n g) F G e l = absurd l
above (fin false m d) (fin true n g) F G e l =
    let none : m * up d * down g ≡ 0 = eqb→eq _ _ (and_r (eqb (m * up d * down g) (n * up g * down d)) _ e) in
    let more : 0 < m * up d = omega (arith, ltb→lt (0 * up (pos 0) * down d) (m * up d * down (pos 0)) l) in
    let some : 0 < m * up d * down g = mul-pos more (down_pos g) in
    absurd (omega arith)
above (fin false m d) (fin false n g) F G e l =
    let same : m * up d * down g ≡ n * up g * down d = eqb→eq _ _ (and_l (eqb (m * up d * down g) (n * up g * down d)) _ e) in
    value_unique binary64 (fin false m d) (fin false n g) false (m * up d * down g) (down d * down g)
    (mul-pos (down_pos d) (down_pos g)) F G
    (refl, omega arith) (refl, rw same (omega arith))

pub equal_above : (x y : Float) → T (fits binary64 x) → T (fits binary64 y) → T (eq x y && lt nought64 x) → x ≡ y
equal_above x y F G h =
    let l = and_r (eq x y) (lt nought64 x) h in
    above x y F G (and_l (eq x y) (lt nought64 x) h) (subst (λ (z : Float). T (lt z x)) (zero_bits binary64) l)

-- by the cross product n and its square d
pub crossed_corners : (t : List (List Float)) (n : List Float) (d l v : Float) → n ≡ normal t → d ≡ dot n n → v ≡ tetra t
    → part_in (record { in_range = true; square = d; length = l; nx = at n 0; ny = at n 1; nz = at n 2; volume = v }) ≡ part_of t
unfolding with_root part_by facet_by part_of facet_of size
crossed_corners t n d l v n_is d-is v-is = rw (d-is, n_is, v-is)

pub no_part : part_by no_triangle ≡ out_of_range
unfolding part_by
no_part = refl

pub no_part_yet : part_in no_triangle ≡ out_of_range
unfolding with_root part_by
no_part_yet = refl

-- the root of 0 is 0
pub no_length : HasRoot no_triangle
no_length = rw (zero_bits binary64) (sym examples.root_0)

pub has_root : (r : Prepared) → HasRoot (with_root r)
unfolding with_root
has_root r = refl

-- ---- by the corners
pub part_out : (vs o : List Float) (t : Triangle) → corners_in_range vs t ≡ false → out_of_range ≡ part vs o t
unfolding part
part_out vs o t e = rw e

pub part_in_lem : (vs o : List Float) (t : Triangle) (p q r : List Float) → corners_in_range vs t ≡ true
    → p ≡ rebased vs o t.a → q ≡ rebased vs o t.b → r ≡ rebased vs o t.c → part_of (p ∷ q ∷ r ∷ []) ≡ part vs o t
unfolding part
part_in_lem vs o t p q r e at_a at_b at_c = rw (e, at_a, at_b, at_c)

-- the corners of a triangle in range are vertices
pub record Corners (vs : List Float) (t : Triangle) : Type 0 where
  pub a : t.a < vertex_count vs
  pub b : t.b < vertex_count vs
  pub c : t.c < vertex_count vs

pub corners_are : (vs : List Float) (t : Triangle) → corners_in_range vs t ≡ true → Corners vs t
corners_are vs t e =
    let below = corners_below vs t e in
    record { a = omega (arith, below.0); b = omega (arith, below.1); c = omega (arith, below.2) }
