-- `precedes` puts plain rows in a strict order: one way only, and what is behind is behind all further ones; two rows of binary32 of which
-- neither precedes the other are one. Assumes nothing.
use mathlib.Core.Path.{◌≡◌, refl, sym, ap, ◌∙◌, subst}
use mathlib.Core.Bool.{Bool, true, false, not, ◌&&◌, ◌||◌, beq, false≢true}
use Prim.Native.Nat.{ℕ, zero, suc, ◌*◌}
use native.Mathlib.Nat.{mul-pos}
use native.Mathlib.Omega.{arith}
use lib.Dec.{T, eqb, eqb→eq}
use lib.IntN.{ℤ}
use lib.Ieee.{Float, nan, inf, fin, up, down, binary32, lt, eq, le, is_nan, fits}
use lib.Ieee.Bits.{is_true}
use lib.Ieee.Fits.{and_l, and_r, up_pos, down_pos}
use Rattle.ieee.proofs.Order.Comparison.{eq_not_lt, le_lt_trans, le_of_not_lt, le_trans, lt_asym, lt_le_trans, lt_not_le}
use Rattle.ieee.proofs.Values.OneFloat.{value_unique}
use Rattle.rows.specs.declared.PlanarSurface.{PlanarSurface}
use Rattle.rows.specs.Rows.{then_by, precedes}
use Rattle.rows.specs.Plain.{plain_float, plain_row}
use Rattle.rows.specs.Sorting.{single_row}

-- ---- by the first alone, or by the rest

pub then_first : (less more rest : Bool) → (less || more) ≡ true → less ≡ then_by less more rest
then_first true more rest e = refl
then_first false true rest e = refl
then_first false false rest e = absurd (false≢true e)

pub then_rest : (less more rest : Bool) → (less || more) ≡ false → rest ≡ then_by less more rest
then_rest true more rest e = absurd (false≢true (sym e))
then_rest false true rest e = absurd (false≢true (sym e))
then_rest false false rest e = refl

-- ---- one way only, for any floats

then_asym : (p q r r' : Bool) → (p ≡ true → q ≡ false) → (r ≡ true → r' ≡ false) → then_by p q r ≡ true → then_by q p r' ≡ false
then_asym true q r r' f g h = rw (f refl)
then_asym false true r r' f g h = absurd (false≢true h)
then_asym false false r r' f g h = g h

pub precedes_asym : (r s : PlanarSurface) → precedes r s ≡ true → precedes s r ≡ false
unfolding precedes
precedes_asym r s h =
    then_asym (lt s.area r.area) (lt r.area s.area) _ _ (lt_asym s.area r.area)
    (then_asym (lt r.nx s.nx) (lt s.nx r.nx) _ _ (lt_asym r.nx s.nx)
    (then_asym (lt r.ny s.ny) (lt s.ny r.ny) _ _ (lt_asym r.ny s.ny) (lt_asym r.nz s.nz))) h

pub precedes_self : (r : PlanarSurface) → precedes r r ≡ false
precedes_self r = go (precedes r r) refl
  where
    go : (b : Bool) → precedes r r ≡ b → precedes r r ≡ false
    go true h = precedes_asym r r h
    go false h = h

-- ---- what is behind is behind all further ones

-- three things by one test: is y less than x, x than y, z than y, y than z, z than x, x than z?
record Three (yx xy zy yz zx xz : Bool) : Type 0 where
  none : yx ≡ false → zy ≡ false → zx ≡ false
  first : xy ≡ true → zy ≡ false → xz ≡ true
  second : yx ≡ false → yz ≡ true → xz ≡ true

plain_number : (x : Float) → T (plain_float x) → T (not (is_nan x))
unfolding plain_float is_nan
plain_number nan h = absurd h
plain_number (inf s) h = tt
plain_number (fin s m e) h = tt

three : (x y z : Float) → T (plain_float x) → T (plain_float y) → T (plain_float z)
    → Three (lt y x) (lt x y) (lt z y) (lt y z) (lt z x) (lt x z)
three x y z a b c =
    let p = plain_number x a in
    let q = plain_number y b in
    let r = plain_number z c in
    record {
      none = λ h k. lt_not_le x z p r ∙ ap not (is_true (le x z) (le_trans x y z (le_of_not_lt x y p q h) (le_of_not_lt y z q r k)));
      first = λ h k. is_true (lt x z) (lt_le_trans x y z (subst T (sym h) tt) (le_of_not_lt y z q r k));
      second = λ h k. is_true (lt x z) (le_lt_trans x y z (le_of_not_lt x y p q h) (subst T (sym k) tt));
    }

-- the other way round
reversed : {yx xy zy yz zx xz : Bool} → Three yx xy zy yz zx xz → Three zy yz yx xy zx xz
reversed t = record { none = λ h k. t.none k h; first = λ h k. t.second k h; second = λ h k. t.first k h }

behind_then : (yx xy zy yz zx xz p q r : Bool) → Three yx xy zy yz zx xz → (p ≡ false → q ≡ false → r ≡ false)
    → then_by yx xy p ≡ false → then_by zy yz q ≡ false → then_by zx xz r ≡ false
behind_then true xy zy yz zx xz p q r t f h k = absurd (false≢true (sym h))
behind_then false xy true yz zx xz p q r t f h k = absurd (false≢true (sym k))
behind_then false true false yz zx xz p q r t f h k = rw (t.none refl refl, t.first refl refl)
behind_then false false false true zx xz p q r t f h k = rw (t.none refl refl, t.second refl refl)
behind_then false false false false zx true p q r t f h k = rw (t.none refl refl)
behind_then false false false false zx false p q r t f h k = rw (t.none refl refl) (f h k)

-- a test of floats that a row's four pass
record Each (p : Float → Bool) (r : PlanarSurface) : Type 0 where
  area : T (p r.area)
  nx : T (p r.nx)
  ny : T (p r.ny)
  nz : T (p r.nz)

each : (p : Float → Bool) (r : PlanarSurface) → T (p r.area && (p r.nx && (p r.ny && p r.nz))) → Each p r
each p r h =
    let a = p r.area in
    let x = p r.nx in
    let y = p r.ny in
    let z = p r.nz in
    let f = and_r a (x && (y && z)) h in
    let g = and_r x (y && z) f in
    record { area = and_l a (x && (y && z)) h; nx = and_l x (y && z) f; ny = and_l y z g; nz = and_r y z g }

parts : (r : PlanarSurface) → T (plain_row r) → Each plain_float r
unfolding plain_row
parts r h = each plain_float r h

floats : (r : PlanarSurface) → T (single_row r) → Each (fits binary32) r
floats r h = each (fits binary32) r h

pub behind_trans : (r s t : PlanarSurface) → T (plain_row r) → T (plain_row s) → T (plain_row t) → precedes s r ≡ false → precedes t s ≡ false
    → precedes t r ≡ false
unfolding precedes
behind_trans r s t p q o =
    let a = parts r p in
    let b = parts s q in
    let c = parts t o in
    let nx = three r.nx s.nx t.nx a.nx b.nx c.nx in
    let ny = three r.ny s.ny t.ny a.ny b.ny c.ny in
    let nz = three r.nz s.nz t.nz a.nz b.nz c.nz in
    behind_then _ _ _ _ _ _ _ _ _ (reversed (three t.area s.area r.area c.area b.area a.area))
    (behind_then _ _ _ _ _ _ _ _ _ nx (behind_then _ _ _ _ _ _ _ _ _ ny nz.none))

-- ---- where neither is less they are the same

plain_signed : (s : Bool) (m : ℕ) (e : ℤ) → T (plain_float (fin s m e)) → m ≡ 0 → s ≡ false
unfolding plain_float
plain_signed false m e h z = refl
plain_signed true zero e h z = absurd h
plain_signed true (suc m) e h z = absurd (omega arith)

no_factor : (m : ℕ) (e d : ℤ) → m * up e * down d ≡ 0 → m ≡ 0
no_factor zero e d h = refl
no_factor (suc m) e d h = let p = mul-pos (mul-pos {m = suc m} (omega arith) (up_pos e)) (down_pos d) in absurd (omega arith)

-- a zero is no minus
one_sign : (s : Bool) (m : ℕ) (e : ℤ) (t : Bool) (n : ℕ) (d : ℤ) → T (plain_float (fin s m e)) → T (plain_float (fin t n d))
    → m * up e * down d ≡ n * up d * down e → T (beq s t || eqb (m * up e * down d) 0) → t ≡ s
one_sign true m e true n d a b same h = refl
one_sign false m e false n d a b same h = refl
one_sign true m e false n d a b same h = sym (plain_signed true m e a (no_factor m e d (eqb→eq _ _ h)))
one_sign false m e true n d a b same h = plain_signed true n d b (no_factor n d e (sym same ∙ eqb→eq _ _ h))

equal : (x y : Float) → T (plain_float x) → T (plain_float y) → T (fits binary32 x) → T (fits binary32 y) → T (eq x y) → x ≡ y
unfolding eq plain_float
equal nan y a b p q h = absurd a
equal (inf s) nan a b p q h = absurd b
equal (inf s) (fin t n d) a b p q h = absurd h
equal (inf true) (inf true) a b p q h = refl
equal (inf true) (inf false) a b p q h = absurd h
equal (inf false) (inf true) a b p q h = absurd h
equal (inf false) (inf false) a b p q h = refl
equal (fin s m e) nan a b p q h = absurd b
equal (fin s m e) (inf t) a b p q h = absurd h
equal (fin s m e) (fin t n d) a b p q h =
    let size = m * up e * down d in
    let same : size ≡ n * up d * down e = eqb→eq _ _ (and_l (eqb size (n * up d * down e)) _ h) in
    let sign = one_sign s m e t n d a b same (and_r (eqb size (n * up d * down e)) _ h) in
    value_unique binary32 (fin s m e) (fin t n d) s size (down e * down d) (mul-pos (down_pos e) (down_pos d)) p q
    (refl, omega arith) (sign, rw same (omega arith))

one_float : (x y : Float) → T (plain_float x) → T (plain_float y) → T (fits binary32 x) → T (fits binary32 y) → lt x y ≡ false
    → lt y x ≡ false → x ≡ y
one_float x y a b p q h k =
    equal x y a b p q (rw (eq_not_lt x y (plain_number x a) (plain_number y b), h, k) tt)

record Even (less more rest rest' : Bool) : Type 0 where
  up : less ≡ false
  down : more ≡ false
  on : rest ≡ false
  back : rest' ≡ false

even : (p q r r' : Bool) → then_by p q r ≡ false → then_by q p r' ≡ false → Even p q r r'
even true q r r' h k = absurd (false≢true (sym h))
even false true r r' h k = absurd (false≢true (sym k))
even false false r r' h k = record { up = refl; down = refl; on = h; back = k }

pub one_row : (r s : PlanarSurface) → T (plain_row r) → T (plain_row s) → T (single_row r) → T (single_row s) → precedes r s ≡ false
    → precedes s r ≡ false → r ≡ s
unfolding precedes
one_row r s p q f g h k =
    let a = parts r p in
    let b = parts s q in
    let c = floats r f in
    let d = floats s g in
    let e = even (lt s.area r.area) (lt r.area s.area) _ _ h k in
    let e' = even (lt r.nx s.nx) (lt s.nx r.nx) _ _ e.on e.back in
    let e'' = even (lt r.ny s.ny) (lt s.ny r.ny) _ _ e'.on e'.back in
    let area = one_float r.area s.area a.area b.area c.area d.area e.down e.up in
    let nx = one_float r.nx s.nx a.nx b.nx c.nx d.nx e'.up e'.down in
    let ny = one_float r.ny s.ny a.ny b.ny c.ny d.ny e''.up e''.down in
    let nz = one_float r.nz s.nz a.nz b.nz c.nz d.nz e''.on e''.back in
    λ i. record { area = area i; nx = nx i; ny = ny i; nz = nz i }
