-- `walk::walk` meets its contract: the index is cleared; after t turns one triangle has its cross product, the one in front of it its
-- length, and all in front of that are taken. Assumes nothing.
use Rattle.std.proofs.Common.{◌≡◌, ℕ, ◌+◌, ◌-◌, ap, subst, ◌∙◌, refl, replicate, arith}
use Rattle.sums.specs.declared.triangle.Prepared.{Prepared}
use Rattle.walk.specs.inner.Steps.{Given, triangles_in, State, Underway, Taken}
use Rattle.walk.proofs.Turns.{underway_none, underway_next, ready, none_left, walks}
use Rattle.ids.proofs.Lent.{cleared_all}
use Rattle.walk.proofs.walk.Goals as goal

pub loop-t-init : goal.loop-t-init
loop-t-init c =
    let zero = c.clear.ensures ∙ cleared_all _ c.args.index.now refl ∙ ap (λ (n : ℕ). replicate n 0) c.requires.words in
    (refl, refl, underway_none _ _ _ _ _ zero c.none.ensures c.nothing-held.ensures c.nothing-next.ensures)

pub with_root-p-requires : goal.with_root-p-requires
with_root-p-requires c = c.loop-t.invariant.2.rooted

pub cross_at-r-requires : goal.cross_at-r-requires
cross_at-r-requires c = (c.requires.few, c.requires.fine)

pub take-s-requires : goal.take-s-requires
take-s-requires c =
    let asked = c.requires in
    let i = c.loop-t.invariant in
    ready _ _ _ (omega (arith, asked.few)) (i.0 ∙ c.clear.auto.work ∙ asked.words) (omega (arith, asked.room, i.1)) (omega (arith, asked.some))
    i.2.taken

pub loop-t-preserved : goal.loop-t-preserved
loop-t-preserved c =
    let i = c.loop-t.invariant in (
      c.take-s.auto.index ∙ i.0,
      c.take-s.auto.rows ∙ i.1,
      underway_next _ _ _ _ _ _ _ _ (omega arith) i.2 c.take-s.ensures c.with_root-p.ensures c.cross_at-r.ensures,
    )

-- two turns more than there are triangles, and all are taken
all_taken : {g : Given} {s : State} {p q : Prepared} {t : ℕ} → t ≡ triangles_in g + 2 → Underway g t s p q → Taken g (triangles_in g) s
all_taken {g} {s} {p} {q} {t} e w =
    let d : t - 2 ≡ triangles_in g = omega arith in
    subst (λ (k : ℕ). Taken g k s) d w.taken

pub overflow_cast-out_of_range : goal.overflow_cast-out_of_range
overflow_cast-out_of_range c = record { fits = omega (arith, c.requires.few) }

pub overflow_sub-out_of_range : goal.overflow_sub-out_of_range
overflow_sub-out_of_range c = omega (arith, none_left _ _ (all_taken (omega arith) c.loop-t.invariant.2))

pub overflow_sub-out_of_range-2 : goal.overflow_sub-out_of_range-2
overflow_sub-out_of_range-2 c = omega (arith, none_left _ _ (all_taken (omega arith) c.loop-t.invariant.2))

pub returns : goal.returns
returns c = walks _ _ (all_taken (omega arith) c.loop-t.invariant.2)
