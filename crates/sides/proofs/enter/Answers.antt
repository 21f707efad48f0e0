-- `sides::enter` meets its contract: one side after the other. Assumes nothing.
use mathlib.Core.Path.{◌≡◌, sym, ap, ◌∙◌, subst}
use mathlib.Core.Bool.{Bool, true, false, ◌&&◌}
use mathlib.Core.List.{List}
use Prim.Native.Nat.{ℕ, ◌+◌, ◌*◌, ◌/◌}
use native.Mathlib.Omega.{arith}
use Rattle.ids.specs.Triangles.{Triangle, distinct, triangle}
use Rattle.ids.specs.EdgeChain.{edge}
use Rattle.ids.specs.Pieces.{solid}
use Rattle.ids.proofs.Shared.{side}
use Rattle.sides.specs.inner.Passes.{SlotsReady, Enters}
use Rattle.sides.proofs.Sides.{side_at, side_first, flat_not}
use Rattle.sides.proofs.Rows.{entered_none}
use Rattle.sides.proofs.Passes.{ready_then, enters_then}
use Rattle.sides.proofs.enter.Goals as goal
use Rattle.sides.proofs.enter.Goals.{After-enter_side-ab}

pub returns-then-not-distinct : goal.returns-then-not-distinct
unfolding solid triangle
returns-then-not-distinct c =
    let ids = c.args.ids.now in
    let t = c.args.t in
    let flat : solid ids t ≡ false = sym (c.distinct.ensures ∙ ap distinct c.of-corners.ensures) ∙ c.if-not-distinct.true in
    entered_none c.requires.0.slots (λ i la lb. let e : i / 3 ≡ t = omega arith in
    flat_not ids c.args.plan.class i (ap (solid ids) e ∙ flat))

-- each side is one of a triangle of distinct ids
of_solid : {b : Bool} (ids : List ℕ) (t x : ℕ) → b ≡ distinct (triangle ids t) → b ≡ true → x / 3 ≡ t → solid ids (x / 3) ≡ true
unfolding solid
of_solid ids t x e h at = ap (solid ids) at ∙ sym e ∙ h

pub enter_side-ab-requires : goal.enter_side-ab-requires
unfolding side triangle
enter_side-ab-requires c =
    record {
      ready = c.requires.0;
      here = omega (arith, c.requires.1);
      of_solid = of_solid c.args.ids.now c.args.t _ (c.distinct.ensures ∙ ap distinct c.of-corners.ensures) c.if-not-distinct.false (omega arith);
      is = side_first c.args.ids.now c.args.t ∙ sym (c.between.ensures ∙ ap (λ (k : Triangle). edge k.a k.b) c.of-corners.ensures);
    }

-- after the first side, and after the second
ready-1 : (c : After-enter_side-ab) → SlotsReady c.args.plan c.args.ids.now c.enter_side-ab.new.work
ready-1 c = ready_then _ c.requires.0 c.enter_side-ab.auto.work c.enter_side-ab.ensures

pub enter_side-bc-requires : goal.enter_side-bc-requires
unfolding side triangle
enter_side-bc-requires c =
    record {
      ready = ready-1 (goal.at.enter_side-bc-requires c).After-enter_side-ab;
      here = omega (arith, c.requires.1, c.enter_side-ab.auto.work);
      of_solid = of_solid c.args.ids.now c.args.t _ (c.distinct.ensures ∙ ap distinct c.of-corners.ensures) c.if-not-distinct.false (omega arith);
      is = side_at c.args.ids.now c.args.t 1 (omega arith) ∙ sym (c.between-2.ensures ∙ ap (λ (k : Triangle). edge k.b k.c) c.of-corners.ensures);
    }

pub overflow_add-at-2 : goal.overflow_add-at-2
overflow_add-at-2 c =
    record { fits = omega (arith, c.requires.0.sized.few, c.requires.0.sized.long, c.requires.1) }

pub enter_side-ca-requires : goal.enter_side-ca-requires
unfolding side triangle
enter_side-ca-requires c =
    record {
      ready = ready_then _ (ready-1 (goal.at.enter_side-ca-requires c).After-enter_side-ab) c.enter_side-bc.auto.work c.enter_side-bc.ensures;
      here = omega (arith, c.requires.1, c.enter_side-ab.auto.work, c.enter_side-bc.auto.work);
      of_solid = of_solid c.args.ids.now c.args.t _ (c.distinct.ensures ∙ ap distinct c.of-corners.ensures) c.if-not-distinct.false (omega arith);
      is = side_at c.args.ids.now c.args.t 2 (omega arith) ∙ sym (c.between-3.ensures ∙ ap (λ (k : Triangle). edge k.c k.a) c.of-corners.ensures);
    }

pub returns : goal.returns
returns c =
    let a = c.enter_side-ab in
    let b = c.enter_side-bc in
    let d = c.enter_side-ca in
    let ab = enters_then _ a.auto.work a.ensures b.ensures (omega arith) in
    let all = enters_then _ (b.auto.work ∙ a.auto.work) ab d.ensures (omega arith) in
    let e : 3 * c.args.t + 2 + 1 ≡ 3 * (c.args.t + 1) = omega arith in
    subst (λ (x : ℕ). Enters c.args.plan c.args.ids.now (3 * c.args.t) x c.args.work.now d.new.work
    ((a.result && b.result) && d.result)) e all
