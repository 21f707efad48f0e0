-- `sides::enter_side` meets its contract. A side of another class asks for nothing; a row found is joined, a free one filled.
-- Assumes nothing.
use mathlib.Core.Path.{◌≡◌, sym, ap, ◌∙◌, subst}
use mathlib.Core.Logic.{◌≢◌}
use mathlib.Core.Bool.{false}
use Prim.Native.Nat.{ℕ, ◌<◌}
use native.Mathlib.Omega.{arith}
use lib.ListN.{length}
use Rattle.forest.specs.inner.Words.{held_in}
use Rattle.sides.specs.inner.Sides.{side_edge, edge_class, taken}
use Rattle.sides.specs.inner.Passes.{home_in}
use Rattle.sides.proofs.Sides.{taken_not}
use Rattle.sides.proofs.Joins.{good_forest}
use Rattle.sides.proofs.Search.{home_in_lem}
use Rattle.sides.proofs.Rows.{entered_none, AtRow, entered_not, entered_joined, entered_held}
use Rattle.sides.proofs.enter_side.Goals as goal
use Rattle.sides.proofs.enter_side.Goals.{After-find-r, After-slot-s}

pub returns-then-class_of-plan : goal.returns-then-class_of-plan
returns-then-class_of-plan c =
    let ids = c.args.ids.now in
    let side = c.args.c in
    let other : edge_class (side_edge ids side) ≢ c.args.plan.class =
    λ e. c.if-class_of-plan.true (c.class_of.ensures ∙ sym (ap edge_class c.requires.is) ∙ e) in
    let none = taken_not ids c.args.plan.class side other in
    entered_none c.requires.ready.slots
    (λ i la lb. subst (λ (x : ℕ). taken ids c.args.plan.class x ≡ false) (omega arith) none)

-- the row that was found
module _ (c : After-find-r) where
  row : AtRow c.args.ids.now (home_in c.args.plan c.args.work.now) c.args.plan.limit
      (length c.args.work.now) (held_in c.args.work.now) c.args.c c.find-r.result c.args.edge
  row = record {
    slots = c.requires.ready.slots;
    home_in_lem = home_in_lem _ _ _ _ (omega (arith, c.requires.here));
    sought = rw c.start-at.ensures.0 at c.find-r.ensures;
    here = c.requires.here;
    of_solid = c.requires.of_solid;
    is = c.requires.is;
  }

pub returns-then-r-work : goal.returns-then-r-work
returns-then-r-work c =
    entered_not c.args.work.now (row (goal.at.returns-then-r-work c).After-find-r) _ (λ l. absurd (omega (arith, c.if-r-work.true)))

-- and what it holds
module _ (c : After-slot-s) where
  inside : c.find-r.result < length c.args.work.now
  inside = omega (arith, c.find-r.ensures.within, c.if-r-work.false)

pub join-requires : goal.join-requires
join-requires c =
    let held = c.requires.ready.slots.sides c.find-r.result (inside (goal.at.join-requires c).After-slot-s) in
    let long = c.requires.ready.sized in (
      omega (arith, c.slot-s.ensures, c.if-s-ne0.true, held),
      omega (arith, c.requires.here),
      omega (arith, long.long, long.few),
      good_forest c.requires.ready.labelled,
    )

pub returns-then-s-ne0 : goal.returns-then-s-ne0
returns-then-s-ne0 c =
    entered_joined c.args.work.now (row (goal.at.returns-then-s-ne0 c).After-find-r) _ _ c.join.auto.work (inside (goal.at.returns-then-s-ne0 c).After-slot-s)
    (omega (arith, c.slot-s.ensures, c.if-s-ne0.true)) (rw c.slot-s.ensures at c.join.ensures)

pub returns-then-spare-eq0 : goal.returns-then-spare-eq0
returns-then-spare-eq0 c =
    entered_not c.args.work.now (row (goal.at.returns-then-spare-eq0 c).After-find-r) _ (λ l. sym c.slot-s.ensures ∙ c.if-s-ne0.false)

pub returns : goal.returns
returns c =
    rw c.hold.ensures (entered_held c.args.work.now (row (goal.at.returns c).After-find-r) _ (inside (goal.at.returns c).After-slot-s)
    (sym c.slot-s.ensures ∙ c.if-s-ne0.false))
