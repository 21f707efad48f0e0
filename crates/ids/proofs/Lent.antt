-- A contract `Gives` leaves one answer and one area; and how a routine meets it, by what it refuses. Assumes nothing.
use mathlib.Core.Path.{◌≡◌, sym, ◌∙◌}
use mathlib.Core.List.{List, []}
use Prim.Native.Nat.{ℕ, ◌≤◌}
use native.Mathlib.Omega.{arith}
use native.Mathlib.Decide.{dec_lt}
use borrow.Author.Tests.{lt-ltb, le-ltb}
use lib.ListN.{length, drop, replicate, drop_of_length-le}
use Rattle.std.specs.Prelude.{Some, None, Ok, Err, MatchResult, IsOkAnd, Option, Result}
use Rattle.ids.specs.declared.refusal.Refusal.{Refusal}
use Rattle.ids.specs.Refusal.{refused_number, answer_number}
use Rattle.ids.specs.Lent.{refusal, unless_refused, cleared, area_after, Gives, most_entries}
use Rattle.ids.proofs.Triangles.{append_none}

-- any two answers that the contract allows are equal, and so are the areas
pub gives_one : {A : Type 0} (needed : ℕ) (refused : Refusal → A) (answer : A) (ids area : List ℕ) (r r' : A) (after after' : List ℕ)
    → Gives needed refused answer ids area r after → Gives needed refused answer ids area r' after' → (r ≡ r') × (after ≡ after')
gives_one needed refused answer ids area r r' after after' g h = (g.answers ∙ sym h.answers, g.leaves ∙ sym h.leaves)

-- none is refused: there are not too many ids, and the area has the words needed
pub refusal_none : (i needed lent : ℕ) → refusal i needed lent ≡ None → (i ≤ most_entries) × (needed ≤ lent)
unfolding refusal
refusal_none i needed lent e =
    elim (dec_lt most_entries i) [
      | yes many ↦ (let no = rw (lt-ltb most_entries i many) at e in cc)
      | no few ↦ elim (dec_lt lent needed) [
        | yes short ↦ (let no = rw (le-ltb most_entries i (omega arith), lt-ltb lent needed short) at e in cc)
        | no room ↦ (omega arith, omega arith)
      ]
    ]

module _ {A : Type 0} (needed : ℕ) (refused : Refusal → A) (answer : A) (ids area : List ℕ) where
  -- a routine that refuses, and has changed nothing
  pub gives_refusal : (r : Refusal) → refusal (length ids) needed (length area) ≡ Some r
      → Gives needed refused answer ids area (refused r) area
  unfolding unless_refused area_after
  gives_refusal r e = record { answers = rw e; leaves = rw e }

  -- a routine that answers, and has cleared the words that it needs
  pub gives_answer : refusal (length ids) needed (length area) ≡ None
      → Gives needed refused answer ids area answer (cleared needed area)
  unfolding unless_refused area_after
  gives_answer none = record { answers = rw none; leaves = rw none }

-- an area that is cleared whole
pub cleared_all : (n : ℕ) (t : List ℕ) → length t ≡ n → cleared n t ≡ replicate n 0
unfolding cleared
cleared_all n t e = let none : drop n t ≡ [] = drop_of_length-le t {i = n} (omega arith) in rw (none, append_none)

-- ---- the C form of a routine: its answer as a number

number_of : {A : Type 0} (number : A → ℕ) (o : Option Refusal) (answer : A) (said : Result A Refusal) (n : Result ℕ Refusal)
    → said ≡ unless_refused o Err (Ok answer) → MatchResult said (λ x. IsOkAnd n (λ y. y ≡ number x)) (λ e. n ≡ Err e)
    → answer_number n ≡ unless_refused o refused_number (number answer)
unfolding unless_refused answer_number
number_of number None answer (Ok x) (Ok y) e m = m ∙ cc e
number_of number None answer (Ok x) (Err r) e m = absurd m
number_of number None answer (Err r) n e m = cc
number_of number (Some r) answer (Ok x) n e m = cc
number_of number (Some r) answer (Err s) (Ok y) e m = cc
number_of number (Some r) answer (Err s) (Err u) e m = cc

pub gives_number : {A : Type 0} (number : A → ℕ) {needed : ℕ} {answer : A} {ids area : List ℕ} {said : Result A Refusal} (n : Result ℕ Refusal)
    {r : ℕ} {after : List ℕ} → Gives needed Err (Ok answer) ids area said after
    → MatchResult said (λ x. IsOkAnd n (λ y. y ≡ number x)) (λ e. n ≡ Err e) → r ≡ answer_number n
    → Gives needed refused_number (number answer) ids area r after
gives_number number {needed} {answer} {ids} {area} {said} n g m is = record {
  answers = is ∙ number_of number (refusal (length ids) needed (length area)) answer said n g.answers m;
  leaves = g.leaves;
}
