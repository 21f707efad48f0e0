-- The table of refusals by its tests: the first row that applies, and what it says of a mesh and of the lent areas that none does.
use mathlib.Core.Path.{◌≡◌, refl, sym, ◌∙◌, ap}
use mathlib.Core.Bool.{Bool, true, false, not, ◌||◌, false≢true, cond}
use Prim.Native.Nat.{ℕ, ◌≤◌}
use native.Mathlib.Omega.{arith}
use mathlib.Core.List.{List}
use lib.Dec.{T, ltb}
use lib.ListN.{length}
use lib.Ieee.{Float}
use borrow.Author.Tests.{ltb-false}
use Rattle.std.specs.Prelude.{Result, Ok, Err}
use Rattle.ids.specs.declared.refusal.Refusal.{Refusal}
use Rattle.sums.specs.Editions.{edition_known}
use Rattle.sums.specs.Fine.{all_fine}
use Rattle.refusals.specs.declared.Check.{Check}
use Rattle.refusals.specs.Refusals.{areas_short, unit_fits, check_of, ZeroWhatever}
use Rattle.refusals.specs.inner.Admitted.{Admitted}
use Rattle.vertices.specs.Areas.{work_words, surface_floats, raster_bytes}
use Rattle.ids.specs.Lent.{most_entries}
use Rattle.ids.proofs.Groups.{neither}

pub not_more : (a b : ℕ) → ltb a b ≡ false → b ≤ a
not_more a b e = let h = ltb-false a b e in omega arith

pub both_small : (f i : ℕ) → (ltb most_entries f || ltb most_entries i) ≡ false → (f ≤ most_entries) × (i ≤ most_entries)
both_small f i e =
    let h = neither (ltb most_entries f) (ltb most_entries i) e in (not_more most_entries f h.0, not_more most_entries i h.1)

-- ---- none applies

is_full : Result Check Refusal → Bool
is_full (Err why) = false
is_full (Ok Check.Zero) = false
is_full (Ok Check.Full) = true

-- a row that came out full was passed over
passed : (p : Bool) (refused behind : Result Check Refusal) → is_full refused ≡ false → cond p refused behind ≡ Ok Check.Full
    → (p ≡ false) × (behind ≡ Ok Check.Full)
unfolding is_full
passed true refused behind not_full e = absurd (false≢true (sym not_full ∙ ap is_full e))
passed false refused behind not_full e = (refl, e)

not_refused : (b : Bool) → not b ≡ false → T b
not_refused true h = tt
not_refused false h = absurd (false≢true (sym h))

-- the mesh passes, and the areas are long enough
pub admitted : (vs : List Float) (ids : List ℕ) (u : Float) (e w r s : ℕ) (k : Result Check Refusal) → k ≡ Ok Check.Full
    → k ≡ check_of vs ids u e w r s
    → Admitted vs ids u e w r s
unfolding check_of is_full
admitted vs ids u e w r s k h is =
    let row1 = passed (ltb most_entries (length vs) || ltb most_entries (length ids)) _ _ refl (sym is ∙ h) in
    let zero = passed (ltb (length ids) 3 || ltb (length vs) 9) _ _ refl row1.1 in
    let row2 = passed (not (unit_fits u)) _ _ refl zero.1 in
    let row7 = passed (not (edition_known e)) _ _ refl row2.1 in
    let row3 = passed (areas_short (length vs) (length ids) w r s) _ _ refl row7.1 in
    let row4 = passed (not (all_fine vs)) _ _ refl row3.1 in
    let most = both_small (length vs) (length ids) row1.0 in
    let least = neither (ltb (length ids) 3) (ltb (length vs) 9) zero.0 in
    let areas = neither (ltb w (work_words (length vs) (length ids))) (ltb r raster_bytes || ltb s (surface_floats (length ids))) row3.0 in
    let others = neither (ltb r raster_bytes) (ltb s (surface_floats (length ids))) areas.1 in
    record {
      mesh =
          record {
            floats_most = most.0;
            ids_most = most.1;
            floats_least = not_more (length vs) 9 least.1;
            ids_least = not_more (length ids) 3 least.0;
            unit = not_refused (unit_fits u) row2.0;
            edition = not_refused (edition_known e) row7.0;
            fine = not_refused (all_fine vs) row4.0;
          };
      work = not_more w (work_words (length vs) (length ids)) areas.0;
      raster = not_more r raster_bytes others.0;
      surfaces = not_more s (surface_floats (length ids)) others.1;
    }

-- ---- the zero record

is_zero : Result Check Refusal → Bool
is_zero (Err why) = false
is_zero (Ok Check.Zero) = true
is_zero (Ok Check.Full) = false

-- no row below it gives one
never : (p : Bool) (x y : Result Check Refusal) → is_zero x ≡ false → is_zero y ≡ false → is_zero (cond p x y) ≡ false
never true x y h k = h
never false x y h k = k

-- the first two rows decide about it
zero_only : (many few : Bool) (behind behind' : Result Check Refusal) → is_zero behind ≡ false
    → cond many (Err Refusal.TooMany) (cond few (Ok Check.Zero) behind) ≡ Ok Check.Zero
    → cond many (Err Refusal.TooMany) (cond few (Ok Check.Zero) behind') ≡ Ok Check.Zero
unfolding is_zero
zero_only true is_few behind behind' h e = absurd (false≢true (ap is_zero e))
zero_only false true behind behind' h e = refl
zero_only false false behind behind' h e = absurd (false≢true (sym h ∙ ap is_zero e))

pub zero_whatever : ZeroWhatever
unfolding check_of is_zero
zero_whatever vs vs' ids ids' u u' e e' w w' r r' s s' floats same =
    rw (floats, same)
    (zero_only (ltb most_entries (length vs) || ltb most_entries (length ids)) (ltb (length ids) 3 || ltb (length vs) 9) _ _
    (never (not (unit_fits u)) _ _ refl
    (never (not (edition_known e)) _ _ refl
    (never (areas_short (length vs) (length ids) w r s) _ _ refl (never (not (all_fine vs)) (Err Refusal.Float) (Ok Check.Full) refl refl)))))
