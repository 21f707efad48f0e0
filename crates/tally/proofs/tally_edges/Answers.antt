-- `tally::tally_edges` meets its contract: what the three counts say of the rows is what document 01 asks of the edges. Assumes nothing.
use mathlib.Core.Path.{◌≡◌, ◌∙◌}
use Prim.Native.Nat.{◌≤◌, ◌<◌}
use native.Mathlib.Decide.{dec_lt}
use native.Mathlib.Omega.{arith}
use borrow.Author.Tests.{lt-ltb, le-ltb, lt-leb, le-leb}
use Rattle.ids.specs.EdgeChain.{chain, edges_that, present, unbalanced, crowded, boundary_free, over_incident}
use Rattle.edges.proofs.Tally.{table_tally}
use Rattle.tally.proofs.tally_edges.Goals as goal

-- boundary-free by cases: there is an edge or there is none
ruleset tests = (lt-ltb, le-ltb, lt-leb, le-leb)

pub returns : goal.returns
unfolding boundary_free over_incident
returns c =
    λ ids m.
    let n = c.args.n in
    let t = c.args.part.now in
    let s = c.survey_rows-s in
    let e₀ : s.result.present ≡ edges_that present (chain ids) = s.ensures.0 ∙ table_tally n t (chain ids) present m in
    let e₁ : s.result.unbalanced ≡ edges_that unbalanced (chain ids) = s.ensures.1 ∙ table_tally n t (chain ids) unbalanced m in
    let e₂ : s.result.crowded ≡ edges_that crowded (chain ids) = s.ensures.2 ∙ table_tally n t (chain ids) crowded m in
    let least : 0 ≤ edges_that present (chain ids) = omega arith in (
      elim (dec_lt 0 (edges_that present (chain ids))) [
        | yes some ↦ simp (e₀, e₁, tests)
        | no none ↦ let nothing : edges_that present (chain ids) < 1 = omega arith in simp (e₀, e₁, tests)
      ],
      rw e₂,
    )
