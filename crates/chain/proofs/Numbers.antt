-- A face net that was given leaves room for its number. Assumes nothing.
use mathlib.Core.Path.{◌≡◌, sym, ◌∙◌}
use mathlib.Core.List.{List}
use Prim.Native.Nat.{ℕ, ◌*◌, ◌≤◌}
use native.Mathlib.Omega.{arith}
use native.Mathlib.Decide.{dec_le}
use borrow.Author.Tests.{lt-ltb}
use lib.ListN.{length}
use Rattle.std.specs.Prelude.{Some, None, Ok, Err, Option, Result}
use Rattle.ids.specs.declared.refusal.Refusal.{Refusal}
use Rattle.ids.specs.Triangles.{triangle_count}
use Rattle.ids.specs.FaceNet.{max_abs}
use Rattle.ids.specs.Lent.{most_entries, refusal, unless_refused}
use Rattle.ids.proofs.Uses.{max_abs_below}
use Rattle.tally.specs.declared.Net.{Net}
use Rattle.chain.specs.Answers.{net_of, FaceNetGiven}

pub net_small : {ids area after : List ℕ} {r : Result Net Refusal} → FaceNetGiven ids area r after → (said : Net) → r ≡ Ok said
    → said.max_abs ≤ most_entries
unfolding refusal unless_refused
net_small {ids} {area} g said is =
    elim (dec_le (length ids) most_entries) [
      | yes few ↦ answered _ (sym g.answers ∙ is) (omega (arith, max_abs_below ids))
      | no many ↦ (let refused = rw (lt-ltb most_entries (length ids) (omega arith)) at g.answers in cc)
    ]
  where
    answered : (o : Option Refusal) → unless_refused o Err (Ok (net_of ids)) ≡ Ok said → max_abs ids ≤ most_entries → said.max_abs ≤ most_entries
    answered None e l = let same : net_of ids ≡ said = cc in rw (← same) l
    answered (Some r) e l = cc
