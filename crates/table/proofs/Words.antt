-- A routine on ids that refuses, or answers over just the words that it needs and leaves them zero: what it gives is its contract's.
-- Assumes nothing.
use mathlib.Core.Path.{◌≡◌, refl, ap, ◌∙◌}
use mathlib.Core.List.{List, ◌++◌}
use Prim.Native.Nat.{ℕ}
use lib.ListN.{length, drop}
use Rattle.std.specs.Prelude.{Some, None, Ok, Err, IsErr, IsErrAnd, Option, Result}
use Rattle.ids.specs.declared.refusal.Refusal.{Refusal}
use Rattle.ids.specs.Lent.{refusal, unless_refused, cleared, Gives}
use Rattle.ids.proofs.Lent.{gives_refusal, gives_answer, cleared_all}
use Rattle.table.specs.inner.Words.{Leaves}

-- what `table::admit` says, of a refusal or of none
abbrev pub admission : Option Refusal → Result (Unit {0}) Refusal
admission o = unless_refused o Err (Ok tt)

none_admitted : (o : Option Refusal) → Ok tt ≡ admission o → o ≡ None
unfolding unless_refused
none_admitted None e = refl
none_admitted (Some r) e = cc

one_denied : {r : Refusal} (o : Option Refusal) → Err r ≡ admission o → o ≡ Some r
unfolding unless_refused
one_denied None e = cc
one_denied (Some s) e = cc

-- it says no, and so does the routine, with nothing changed
pub refuses : {A : Type 0} {needed : ℕ} {ids area : List ℕ} (answer : A) {r : Refusal} {said : Result A Refusal}
    → Err r ≡ admission (refusal (length ids) needed (length area)) → IsErr said × IsErrAnd said (λ e. e ≡ r)
    → Gives needed Err (Ok answer) ids area said area
refuses {A} {needed} {ids} {area} answer {r} {said} e is = go said is.1
  where
    go : (s : Result A Refusal) → IsErrAnd s (λ e. e ≡ r) → Gives needed Err (Ok answer) ids area s area
    go (Ok x) never = absurd never
    go (Err x) same =
        rw same (gives_refusal needed Err (Ok answer) ids area r (one_denied (refusal (length ids) needed (length area)) e))

-- it says yes, and the words needed were lent
pub answered : {A : Type 0} {needed : ℕ} {ids area : List ℕ} {answer r : A} {part : List ℕ}
    → Ok tt ≡ admission (refusal (length ids) needed (length area)) → Leaves needed answer r part
    → Gives needed Err (Ok answer) ids area (Ok r) (part ++ drop needed area)
unfolding cleared
answered {needed = needed} {ids = ids} {area = area} {answer = answer} e said =
    let g = gives_answer needed Err (Ok answer) ids area (none_admitted (refusal (length ids) needed (length area)) e) in
    record { answers = ap Ok said.answers ∙ g.answers; leaves = rw said.zeros g.leaves }

-- the words that were lent are cleared at the end, whatever stood there
pub leaves : {A : Type 0} {needed : ℕ} {answer r : A} (t : List ℕ) {u : List ℕ} → r ≡ answer → length t ≡ needed → u ≡ cleared needed t
    → Leaves needed answer r u
leaves {needed = needed} t e long is = record { answers = e; zeros = is ∙ cleared_all needed t long }
