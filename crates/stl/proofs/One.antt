-- One answer for every list of bytes; it refuses by 3, 5 and 6 only, and a refusal writes nothing. Assumes nothing.
use mathlib.Core.Path.{◌≡◌, refl, sym, subst, ap, ◌∙◌}
use mathlib.Core.Logic.{◌⊎◌, inl, inr}
use mathlib.Core.Bool.{Bool, true, false, not, ◌||◌, cond}
use mathlib.Core.List.{List}
use Prim.Native.Nat.{ℕ, ◌*◌}
use lib.Dec.{eqb, ltb}
use lib.ListN.{length}
use Rattle.std.specs.Prelude.{Result, Ok, Err}
use Rattle.ids.specs.declared.refusal.Refusal.{Refusal}
use Rattle.stl.specs.Stl.{stl_count, stl_length, stl_of}
use Rattle.stl.specs.Reading.{in_areas, corners_later, ids_later, StlOne, StlRefuses, StlRefusesBy356, StlRefusalsWriteNothing}

pub stl_one : StlOne
stl_one most bytes vs ids r r' vs₁ vs₂ ids₁ ids₂ x y =
    let e : r ≡ r' = x.answers ∙ sym y.answers in (
      e,
      x.floats ∙ ap (λ (a : Result ℕ Refusal). corners_later a bytes vs) e ∙ sym y.floats,
      x.ids_later_lem ∙ ap (λ (a : Result ℕ Refusal). ids_later a ids) e ∙ sym y.ids_later_lem,
    )

-- ---- the refusals

-- of a file alone: 5 or 6
abbrev pub Stl56 : Result ℕ Refusal → Type 0
Stl56 (Ok n) = Unit {0}
Stl56 (Err n) = (n ≡ Refusal.File) ⊎ (n ≡ Refusal.FileTooLarge)

by_tests : (a b c : Bool) (n : ℕ)
    → Stl56 (cond a (Err Refusal.File) (cond b (Err Refusal.FileTooLarge) (cond (not c) (Err Refusal.File) (Ok n))))
by_tests true b c n = inl refl
by_tests false true c n = inr refl
by_tests false false false n = inl refl
by_tests false false true n = tt

pub stl_56 : (most : ℕ) (bytes : List ℕ) → Stl56 (stl_of most bytes)
unfolding stl_of
stl_56 most bytes =
    by_tests (ltb (length bytes) 84) (ltb most (stl_count bytes)) (eqb (length bytes) (stl_length (stl_count bytes))) (stl_count bytes)

short_3 : (b : Bool) (n : ℕ) → StlRefuses (cond b (Err Refusal.ShortArea) (Ok n))
unfolding StlRefuses
short_3 true n = inl refl
short_3 false n = tt

in_areas_lem : (r : Result ℕ Refusal) (f i : ℕ) → Stl56 r → StlRefuses (in_areas r f i)
unfolding in_areas StlRefuses
in_areas_lem (Err n) f i h = inr h
in_areas_lem (Ok n) f i h = short_3 (ltb f (9 * n) || ltb i (3 * n)) n

pub stl_refuses_by_356 : StlRefusesBy356
stl_refuses_by_356 most bytes vs ids r vs' ids' x =
    subst StlRefuses (sym x.answers) (in_areas_lem (stl_of most bytes) (length vs) (length ids) (stl_56 most bytes))

pub stl_refusals_write_nothing : StlRefusalsWriteNothing
unfolding corners_later ids_later
stl_refusals_write_nothing most bytes vs ids n vs' ids' x = (x.floats, x.ids_later_lem)
