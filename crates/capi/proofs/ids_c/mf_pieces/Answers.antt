-- `mf_pieces` gives the number of what `pieces` gives. Assumes nothing.
use mathlib.Core.Path.{◌≡◌, refl}
use Prim.Native.Nat.{ℕ}
use Rattle.std.specs.Prelude.{Ok, Err, MatchResult, IsOkAnd, Result}
use Rattle.ids.specs.declared.refusal.Refusal.{Refusal}
use Rattle.ids.proofs.Lent.{gives_number}
use Rattle.capi.proofs.ids_c.mf_pieces.Goals as goal

-- a number stands for itself
itself : (said : Result ℕ Refusal) → MatchResult said (λ x. IsOkAnd said (λ y. y ≡ x)) (λ why. said ≡ Err why)
itself (Ok n) = refl
itself (Err why) = refl

pub returns : goal.returns
returns c = gives_number (λ n. n) _ c.pieces.ensures (itself _) c.answer_number.ensures
