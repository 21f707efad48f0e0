-- `sides::find` meets its contract, by the law of a turn: each row passed is used by another edge. Assumes nothing.
use mathlib.Core.Path.{◌≡◌, sym, ap, ◌∙◌}
use mathlib.Core.List.{List}
use Prim.Native.Nat.{ℕ, ◌-◌, ◌<◌}
use native.Mathlib.Omega.{arith}
use Rattle.ids.specs.EdgeChain.{same_edge}
use Rattle.ids.proofs.Same.{edge_eq, edge_refl, same_ne}
use Rattle.forest.specs.inner.Words.{held_in}
use Rattle.sides.specs.inner.Sides.{side_edge, slot_edge}
use Rattle.sides.proofs.Search.{seek_first, seek_within, seek_ends, seek_on}
use Rattle.sides.proofs.find.Goals as goal

pub loop-init : goal.loop-init
loop-init c = seek_first c.requires.1 c.requires.0.limited.0

pub slot-s-requires : goal.slot-s-requires
slot-s-requires c = seek_within c.loop.invariant c.loop-test.true

pub returns-then-s-eq0 : goal.returns-then-s-eq0
returns-then-s-eq0 c =
    seek_ends c.loop.invariant c.loop-test.true (λ u. absurd (omega (arith, c.slot-s.ensures, c.if-s-eq0.true)))

pub is_edge-requires : goal.is_edge-requires
is_edge-requires c =
    let within = c.requires.0.sides c.loop.r (seek_within c.loop.invariant c.loop-test.true) in
    record {
      few = c.requires.0.sized.few;
      here = omega (arith, within, c.slot-s.ensures, c.if-s-eq0.false, c.requires.0.sized.long);
    }

-- the edge of the side that row r holds
here : {s : ℕ} (ids work : List ℕ) (r : ℕ) → s ≡ held_in work r → side_edge ids (s - 1) ≡ slot_edge ids (held_in work) r
here ids work r e = ap (λ (x : ℕ). side_edge ids (x - 1)) e

pub returns-then-is_edge : goal.returns-then-is_edge
returns-then-is_edge c =
    let same = edge_eq c.args.edge _ (sym c.is_edge.ensures ∙ c.if-is_edge.true) in
    seek_ends c.loop.invariant c.loop-test.true (λ u. sym (here _ _ c.loop.r c.slot-s.ensures) ∙ sym same)

pub next-r-requires : goal.next-r-requires
next-r-requires c =
    let sized = c.requires.0.sized in (seek_within c.loop.invariant c.loop-test.true, omega (arith, sized.few, sized.long))

pub loop-preserved : goal.loop-preserved
loop-preserved c =
    let used : 0 < held_in c.args.work.now c.loop.r = omega (arith, c.slot-s.ensures, c.if-s-eq0.false) in
    let other = same_ne same_edge edge_refl c.args.edge _ (sym c.is_edge.ensures ∙ c.if-is_edge.false) in
    rw c.next-r.ensures (seek_on c.loop.invariant c.loop-test.true c.requires.0.limited.1 used
    (λ e. other (sym e ∙ sym (here _ _ c.loop.r c.slot-s.ensures))))

pub returns : goal.returns
returns c = c.loop.invariant.over (omega arith)
