-- The answer as a number: it has room, and there is one for every list of bytes. Assumes nothing.
use mathlib.Core.Path.{◌≡◌, refl, sym, subst, ap, ◌∙◌}
use mathlib.Core.Bool.{Bool, true, false, ◌||◌, cond}
use mathlib.Core.List.{List}
use Prim.Native.Nat.{ℕ, ◌*◌, ◌≤◌}
use native.Mathlib.Nat.{le_trans}
use lib.Dec.{ltb}
use lib.ListN.{length}
use lib.Ieee.{Float}
use Rattle.std.specs.Prelude.{Result, Ok, Err}
use Rattle.ids.specs.declared.refusal.Refusal.{Refusal}
use Rattle.stl.specs.Stl.{stl_of}
use Rattle.stl.specs.Reading.{most_large, in_areas, corners_later, ids_later, ReadsStl}
use Rattle.stl.specs.Numbers.{stl_number, ReadsStlNumbered, StlNumberedOne}
use Rattle.stl.specs.inner.FewTriangles.{FewTriangles}
use Rattle.stl.proofs.Tests.{taken_exactly}

few_by : (b : Bool) (n : ℕ) → n ≤ most_large → FewTriangles (cond b (Err Refusal.ShortArea) (Ok n))
unfolding FewTriangles
few_by true n h = tt
few_by false n h = h

few_in : (most : ℕ) (bytes : List ℕ) → most ≤ most_large → (r : Result ℕ Refusal) → stl_of most bytes ≡ r → (f i : ℕ)
    → FewTriangles (in_areas r f i)
unfolding in_areas FewTriangles
few_in most bytes h (Err n) e f i = tt
few_in most bytes h (Ok n) e f i =
    few_by (ltb f (9 * n) || ltb i (3 * n)) n (le_trans ((taken_exactly most n bytes).only_these e).few h)

module _ (most : ℕ) (bytes : List ℕ) (vs : List Float) (ids : List ℕ) (r : Result ℕ Refusal) (vs' : List Float) (ids' : List ℕ)
    (made : ReadsStl most bytes vs ids r vs' ids') where
  pub few_triangles : most ≤ most_large → FewTriangles r
  few_triangles h =
      subst FewTriangles (sym made.answers) (few_in most bytes h (stl_of most bytes) refl (length vs) (length ids))

  pub as_number : ReadsStlNumbered most bytes vs ids (stl_number r) vs' ids'
  as_number =
      record {
        number = ap stl_number made.answers;
        floats = made.floats ∙ ap (λ (a : Result ℕ Refusal). corners_later a bytes vs) made.answers;
        ids_later_lem = made.ids_later_lem ∙ ap (λ (a : Result ℕ Refusal). ids_later a ids) made.answers;
      }

pub stl_numbered_one : StlNumberedOne
stl_numbered_one most bytes vs ids k k' vs₁ vs₂ ids₁ ids₂ x y =
    (x.number ∙ sym y.number, x.floats ∙ sym y.floats, x.ids_later_lem ∙ sym y.ids_later_lem)
