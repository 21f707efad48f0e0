-- Refusals of an id routine, and what it leaves in the area that it is lent: refusals 1 and 3 of document 01's table, the first by the
-- number of ids alone.
use Rattle.std.specs.Prelude.{ℕ, ◌≡◌, cond, List, ◌++◌, ltb, length, drop, replicate, Some, None, Option}
use Rattle.ids.specs.declared.refusal.Refusal.{Refusal}
use Rattle.ids.specs.declared.refusal.Refusal.TheVariants as why

-- the most floats a mesh may have, and the most ids
abbrev pub most_entries : ℕ
most_entries = 98304

-- for i ids, a routine that needs so many words, and so many lent: why it refuses, if it does
unfoldable pub refusal : ℕ → ℕ → ℕ → Option Refusal
refusal i needed lent = cond (ltb most_entries i) (Some why.TooMany) (cond (ltb lent needed) (Some why.ShortArea) None)

-- the answer, or what a refusal makes in its place
unfoldable pub unless_refused : {A : Type 0} → Option Refusal → (Refusal → A) → A → A
unless_refused None refused answer = answer
unless_refused (Some r) refused answer = refused r

-- the area with its first n words zero and the rest as it was
unfoldable pub cleared : ℕ → List ℕ → List ℕ
cleared n area = replicate n 0 ++ drop n area

-- the area afterwards: untouched by a refusal, else with zero in the words that the routine needs
unfoldable pub area_after : Option Refusal → ℕ → List ℕ → List ℕ
area_after None needed area = cleared needed area
area_after (Some r) needed area = area

-- The complete contract of an id routine that needs so many words: what it answers, and what it leaves in the area. `refused` and `answer`
-- make what the routine gives: `Err` and `Ok`, or numbers of the C interface; `r` and `after` are what it gave.
pub record Gives {A : Type 0} (needed : ℕ) (refused : Refusal → A) (answer : A) (ids area : List ℕ) (r : A) (after : List ℕ) : Type 0 where
  pub answers : r ≡ unless_refused (refusal (length ids) needed (length area)) refused answer
  pub leaves : after ≡ area_after (refusal (length ids) needed (length area)) needed area

-- ---- a contract leaves one answer and one area (`gives_one`)

-- any two answers that a contract allows are equal, and so is what is left in the area
abbrev pub OneGiven : {A : Type 0} → (List ℕ → List ℕ → A → List ℕ → Type 0) → Type 0
OneGiven {A} Given =
    (ids area : List ℕ) (r r' : A) (after after' : List ℕ) → Given ids area r after → Given ids area r' after' → (r ≡ r') × (after ≡ after')
