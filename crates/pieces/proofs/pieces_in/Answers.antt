-- `pieces::pieces_in` meets its contract. Assumes nothing.
use mathlib.Core.Path.{ap, ◌∙◌}
use mathlib.Core.List.{List}
use Prim.Native.Nat.{ℕ}
use Rattle.ids.specs.Lent.{cleared}
use Rattle.table.proofs.Words.{leaves}
use Rattle.pieces.proofs.Roots.{answers}
use Rattle.pieces.proofs.pieces_in.Goals as goal

pub returns : goal.returns
returns c =
    let u : List ℕ = c.join_all.new.work in
    let long = c.join_all.auto.work ∙ c.requires.long in
    leaves u (c.count-r.ensures ∙ answers c.args.ids.now u long c.join_all.ensures) long
    (c.clear.ensures ∙ ap (λ (m : ℕ). cleared m u) long)
