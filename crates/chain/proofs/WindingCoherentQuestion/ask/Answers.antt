-- `WindingCoherent` asks its question, by what it means: whether there are edges, and whether fifty times the incoherent are more.
-- Assumes nothing.
use mathlib.Core.Path.{◌≡◌, ◌∙◌}
use Prim.Native.Nat.{◌*◌, ◌<◌}
use native.Mathlib.Decide.{dec_lt, dec_le}
use native.Mathlib.Omega.{arith}
use borrow.Author.Tests.{lt-ltb, le-ltb, lt-leb, le-leb}
use Rattle.ids.specs.EdgeChain.{proper_edges, edges_that, present, incoherent, winding_coherent}
use Rattle.edges.proofs.Tally.{table_tally}
use Rattle.chain.proofs.WindingCoherentQuestion.ask.Goals as goal

ruleset tests = (lt-ltb, le-ltb, lt-leb, le-leb)

pub returns : goal.returns
unfolding winding_coherent
returns c =
    λ ids m.
    let n = c.args.n in
    let t = c.args.part.now in
    let es = proper_edges ids in
    let e₀ : c.count-present.result ≡ edges_that present es = c.count-present.ensures.0 ∙ table_tally n t es present m in
    let e₁ : c.count-incoherent.result ≡ edges_that incoherent es = c.count-incoherent.ensures.0 ∙ table_tally n t es incoherent m in
    elim (dec_lt 0 (edges_that present es)) [
      | yes some ↦ elim (dec_le (50 * edges_that incoherent es) (edges_that present es)) [
        | yes few ↦ simp (e₀, e₁, tests)
        | no many ↦ let over : edges_that present es < 50 * edges_that incoherent es = omega arith in simp (e₀, e₁, tests)
      ]
      | no none ↦ let nothing : edges_that present es < 1 = omega arith in simp (e₀, e₁, tests)
    ]
