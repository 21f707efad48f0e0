-- Order of checks (01, and 02, A6): the rows of the table are tried from the top, and the first that applies decides.
use Rattle.std.specs.Prelude.{◌≡◌, ℕ, ◌≤◌, Bool, cond, not, ◌&&◌, ◌||◌, List, T, ltb, length, Float, Result, Ok, Err}
use Rattle.std.specs.Float.{binary32}
use Rattle.std.specs.Float.Ieee.{le, of_bits}
use Rattle.ids.specs.declared.refusal.Refusal.{Refusal}
use Rattle.ids.specs.Lent.{most_entries}
use Rattle.vertices.specs.Areas.{work_words, surface_floats, raster_bytes}
use Rattle.sums.specs.Editions.{edition_known}
use Rattle.sums.specs.Fine.{all_fine}
use Rattle.refusals.specs.declared.Check.{Check}

-- a unit from 2^-20 to 16: no NaN is
unfoldable pub unit_fits : Float → Bool
unit_fits u = le (of_bits binary32 0x3580_0000) u && le u (of_bits binary32 0x4180_0000)

-- whether a work area of w words, a raster of r bytes or a surface area of s floats is too short for f floats and i ids
abbrev pub areas_short : ℕ → ℕ → ℕ → ℕ → ℕ → Bool
areas_short f i w r s = ltb w (work_words f i) || (ltb r raster_bytes || ltb s (surface_floats i))

-- what a mesh, a unit and an edition have that get a full record
pub record Passes (vs : List Float) (ids : List ℕ) (u : Float) (e : ℕ) : Type 0 where
  pub floats_most : length vs ≤ most_entries
  pub ids_most : length ids ≤ most_entries
  pub floats_least : 9 ≤ length vs
  pub ids_least : 3 ≤ length ids
  pub unit : T (unit_fits u)
  pub edition : T (edition_known e)
  pub fine : T (all_fine vs)

-- by the floats, the ids, the unit, the edition, and the lengths of work area, raster and surface area
unfoldable pub check_of : List Float → List ℕ → Float → ℕ → ℕ → ℕ → ℕ → Result Check Refusal
check_of vs ids u e w r s =
    cond (ltb most_entries (length vs) || ltb most_entries (length ids)) (Err Refusal.TooMany)
    (cond (ltb (length ids) 3 || ltb (length vs) 9) (Ok Check.Zero)
    (cond (not (unit_fits u)) (Err Refusal.Unit)
    (cond (not (edition_known e)) (Err Refusal.Edition)
    (cond (areas_short (length vs) (length ids) w r s) (Err Refusal.ShortArea)
    (cond (not (all_fine vs)) (Err Refusal.Float)
    (Ok Check.Full))))))

-- the zero record hangs on how many floats and ids there are, and on nothing else: not on unit, edition or areas (`zero_whatever`)
abbrev pub ZeroWhatever : Type 0
ZeroWhatever =
    (vs vs' : List Float) (ids ids' : List ℕ) (u u' : Float) (e e' w w' r r' s s' : ℕ) → length vs' ≡ length vs → length ids' ≡ length ids
    → check_of vs ids u e w r s ≡ Ok Check.Zero → check_of vs' ids' u' e' w' r' s' ≡ Ok Check.Zero
