-- What comes back, by whether the areas are too short; and that it is one thing only. Assumes nothing.
use mathlib.Core.Path.{◌≡◌, refl, sym, ap, ◌∙◌}
use mathlib.Core.Bool.{Bool, true, false}
use mathlib.Core.List.{List, ◌++◌}
use Prim.Native.Nat.{ℕ, ◌+◌, ◌*◌, ◌≤◌, ◌<◌}
use native.Mathlib.Nat.{zero-add}
use borrow.Author.Tests.{ltb-false, lt-ltb, le-ltb}
use lib.Dec.{ltb}
use lib.ListN.{length, drop}
use lib.Ieee.{Float}
use Rattle.std.specs.Prelude.{Result, Ok, Err}
use Rattle.ids.specs.declared.refusal.Refusal.{Refusal}
use Rattle.ids.proofs.Groups.{neither}
use Rattle.record.specs.declared.MeshQto.{MeshQto}
use Rattle.listing.specs.Listing.{refused_line}
use Rattle.listing.specs.Lists.{head_bytes, text_bytes, text_areas_short, listed_as, area_with, listing_for, Lists, ListsRefusal, ListOne}
use Rattle.listing.specs.Lists.{ListRefusalOne}
use Rattle.spelling.specs.inner.Steps.{written, PutsText}

-- ---- too short, or not

pub areas_fit : (n s t : ℕ) → text_areas_short n s t ≡ false → (4 * n ≤ s) × (head_bytes + 36 * n ≤ t)
unfolding text_bytes
areas_fit n s t h =
    let e = neither (ltb s (4 * n)) (ltb t (head_bytes + 36 * n)) h in
    (ltb-false s (4 * n) e.0, ltb-false t (head_bytes + 36 * n) e.1)

-- ---- what comes back

module _ (short : Bool) (text area : List ℕ) where
  when_short : short ≡ true → (Err Refusal.ShortArea ≡ listed_as short text) × (area ≡ area_with short text area)
  unfolding listed_as area_with
  when_short h = rw h (refl, refl)

  when_put : short ≡ false → (r : ℕ) (area' : List ℕ) → PutsText 0 text area r area'
      → (Ok r ≡ listed_as short text) × (area' ≡ area_with short text area)
  unfolding listed_as area_with written
  when_put h r area' p =
      rw h (ap Ok (p.place ∙ zero-add (length text)), p.later ∙ ap (λ (n : ℕ). text ++ drop n area) (zero-add (length text)))

module _ (q : MeshQto) (s : List Float) (pieces : ℕ) (area : List ℕ) (short : Bool)
    (is : short ≡ text_areas_short q.surface_count (length s) (length area)) where
  pub list_short : short ≡ true → Lists q s pieces area (Err Refusal.ShortArea) area
  list_short h = let w = when_short _ (listing_for q s pieces) area (sym is ∙ h) in record { answers = w.0; text = w.1 }

  pub list_put : short ≡ false → (r : ℕ) (area' : List ℕ) → PutsText 0 (listing_for q s pieces) area r area'
      → Lists q s pieces area (Ok r) area'
  list_put h r area' p = let w = when_put _ (listing_for q s pieces) area (sym is ∙ h) r area' p in record { answers = w.0; text = w.1 }

module _ (n : ℕ) (area : List ℕ) where
  pub refusal_short : length area < head_bytes → ListsRefusal n area (Err Refusal.ShortArea) area
  unfolding text_bytes
  refusal_short h = let w = when_short _ (refused_line n) area (lt-ltb (length area) head_bytes h) in record { answers = w.0; text = w.1 }

  pub refusal_put : head_bytes ≤ length area → (r : ℕ) (area' : List ℕ) → PutsText 0 (refused_line n) area r area'
      → ListsRefusal n area (Ok r) area'
  unfolding text_bytes
  refusal_put h r area' p =
      let w = when_put _ (refused_line n) area (le-ltb (length area) head_bytes h) r area' p in record { answers = w.0; text = w.1 }

-- ---- any two answers that the contract allows are equal, and so is what is left in the area

pub list_one : ListOne
list_one q s pieces area r₁ r₂ area₁ area₂ x y = (x.answers ∙ sym y.answers, x.text ∙ sym y.text)

pub list_refusal_one : ListRefusalOne
list_refusal_one n area r₁ r₂ area₁ area₂ x y = (x.answers ∙ sym y.answers, x.text ∙ sym y.text)
