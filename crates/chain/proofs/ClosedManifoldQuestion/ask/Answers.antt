-- `ClosedManifold` asks its question, by what it means: whether there are unpaired edges or none. Assumes nothing.
use mathlib.Core.Path.{◌≡◌, ◌∙◌}
use Prim.Native.Nat.{◌<◌}
use native.Mathlib.Decide.{ℕ_discrete}
use native.Mathlib.Omega.{arith}
use borrow.Author.Tests.{lt-ltb, le-ltb, lt-leb, le-leb, eq-eqb, ne_eqb}
use Rattle.ids.specs.EdgeChain.{proper_edges, edges_that, unpaired, closed_manifold}
use Rattle.edges.proofs.Tally.{table_tally}
use Rattle.chain.proofs.ClosedManifoldQuestion.ask.Goals as goal

ruleset tests = (lt-ltb, le-ltb, lt-leb, le-leb, eq-eqb, ne_eqb)

pub returns : goal.returns
unfolding closed_manifold
returns c =
    λ ids m.
    let e : c.count-unpaired.result ≡ edges_that unpaired (proper_edges ids) = c.count-unpaired.ensures.0
    ∙ table_tally c.args.n c.args.part.now (proper_edges ids) unpaired m in
    elim (ℕ_discrete (edges_that unpaired (proper_edges ids)) 0) [
      | yes none ↦ simp (e, none)
      | no some ↦ let more : 0 < edges_that unpaired (proper_edges ids) = omega arith in simp (e, tests)
    ]
