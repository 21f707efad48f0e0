-- What comes back of `list` and `list_refusal`, and what they leave in the lent text area.
use Rattle.std.specs.Prelude.{◌≡◌, ℕ, ◌+◌, ◌*◌, Bool, true, false, ◌||◌, List, ◌++◌, ltb, length, take, drop, Float, Result, Ok, Err}
use Rattle.ids.specs.declared.refusal.Refusal.{Refusal}
use Rattle.rows.specs.Rows.{rows_of}
use Rattle.record.specs.declared.MeshQto.{MeshQto}
use Rattle.listing.specs.Listing.{listing_of, refused_line}

-- how many bytes of text area a listing of n rows asks for: the lines above the rows have 345 at most
abbrev pub head_bytes : ℕ
head_bytes = 352

unfoldable pub text_bytes : ℕ → ℕ
text_bytes n = head_bytes + 36 * n

-- whether a surface area of s floats or a text area of t bytes is too short for n rows
abbrev pub text_areas_short : ℕ → ℕ → ℕ → Bool
text_areas_short n s t = ltb s (4 * n) || ltb t (text_bytes n)

-- the refusal of areas that are too short, or how long the text is
unfoldable pub listed_as : Bool → List ℕ → Result ℕ Refusal
listed_as true text = Err Refusal.ShortArea
listed_as false text = Ok (length text)

-- the area holds the text first; the rest is untouched, and all of it by a refusal
unfoldable pub area_with : Bool → List ℕ → List ℕ → List ℕ
area_with true text area = area
area_with false text area = text ++ drop (length text) area

-- the text of a record whose rows stand first in a surface area s
unfoldable pub listing_for : MeshQto → List Float → ℕ → List ℕ
listing_for q s pieces = listing_of q (rows_of (take (4 * q.surface_count) s)) pieces

-- The complete contract of `list`: of a record, its surface area s, the number of pieces and a text area come the answer r and
-- the later area.
pub record Lists (q : MeshQto) (s : List Float) (pieces : ℕ) (area : List ℕ) (r : Result ℕ Refusal) (area' : List ℕ) : Type 0 where
  pub answers : r ≡ listed_as (text_areas_short q.surface_count (length s) (length area)) (listing_for q s pieces)
  pub text : area' ≡ area_with (text_areas_short q.surface_count (length s) (length area)) (listing_for q s pieces) area

-- and of `list_refusal`, of a refusal that is the number n
pub record ListsRefusal (n : ℕ) (area : List ℕ) (r : Result ℕ Refusal) (area' : List ℕ) : Type 0 where
  pub answers : r ≡ listed_as (ltb (length area) (text_bytes 0)) (refused_line n)
  pub text : area' ≡ area_with (ltb (length area) (text_bytes 0)) (refused_line n) area

-- any two answers that a contract allows are equal, and so is the later area (`list_one`, `list_refusal_one`)
abbrev pub ListOne : Type 0
ListOne = (q : MeshQto) (s : List Float) (pieces : ℕ) (area : List ℕ) (r₁ r₂ : Result ℕ Refusal) (area₁ area₂ : List ℕ)
    → Lists q s pieces area r₁ area₁ → Lists q s pieces area r₂ area₂ → (r₁ ≡ r₂) × (area₁ ≡ area₂)

abbrev pub ListRefusalOne : Type 0
ListRefusalOne = (n : ℕ) (area : List ℕ) (r₁ r₂ : Result ℕ Refusal) (area₁ area₂ : List ℕ)
    → ListsRefusal n area r₁ area₁ → ListsRefusal n area r₂ area₂ → (r₁ ≡ r₂) × (area₁ ≡ area₂)
