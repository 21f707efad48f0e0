-- `slots::find_from` meets its contract: a slot is free, or holds the key, or is passed. Assumes nothing.
use mathlib.Core.Path.{sym, ◌∙◌}
use Rattle.slots.proofs.Codes.{code_eq, code_ne}
use Rattle.slots.proofs.Search.{at_start, ends_free, ends_held, entry_below, at_next, nearer}
use Rattle.slots.proofs.find_from.Goals as goal

pub loop-k-init : goal.loop-k-init
loop-k-init g c = at_start _ _ _ _ _ c.requires.1

pub returns-then-s-eq0 : goal.returns-then-s-eq0
returns-then-s-eq0 g c = ends_free _ _ _ _ _ _ _ c.loop-k.invariant c.mark-s.ensures c.if-s-eq0.true

pub key_of-requires : goal.key_of-requires
key_of-requires g c = (
  c.requires.0.words,
  entry_below _ _ _ _ _ _ _ c.loop-k.invariant c.mark-s.ensures c.if-s-eq0.false c.requires.1 c.requires.0,
)

pub returns-then-eq : goal.returns-then-eq
returns-then-eq g c =
    ends_held _ _ _ _ _ _ _ c.loop-k.invariant c.mark-s.ensures c.if-s-eq0.false
    (sym c.key_of.ensures ∙ code_eq _ _ (sym c.eq.ensures ∙ c.if-eq.true))

pub loop-k-smaller : goal.loop-k-smaller
loop-k-smaller g c =
    rw c.next-r.ensures (nearer _ _ _ _ _ _ _ c.loop-k.invariant c.mark-s.ensures c.if-s-eq0.false c.requires.1 c.requires.0
    (rw (← c.key_of.ensures) (code_ne _ _ (sym c.eq.ensures ∙ c.if-eq.false))))

pub loop-k-preserved : goal.loop-k-preserved
loop-k-preserved g c =
    rw c.next-r.ensures (at_next _ _ _ _ _ _ _ c.loop-k.invariant c.mark-s.ensures c.if-s-eq0.false c.requires.1 c.requires.0
    (rw (← c.key_of.ensures) (code_ne _ _ (sym c.eq.ensures ∙ c.if-eq.false))))
