-- `faces::find` meets its contract, by the law of a turn: each row passed is used by another face. As some row is free, it ends. Assumes
-- nothing.
use mathlib.Core.Path.{◌≡◌, sym, ◌∙◌}
use Prim.Native.Nat.{ℕ}
use native.Mathlib.Omega.{arith}
use Rattle.ids.specs.FaceNet.{Face, same_face}
use Rattle.ids.proofs.Same.{face_eq, face_refl, same_ne}
use Rattle.table.proofs.Counts.{used}
use Rattle.table.proofs.Turn.{Onward, look_first, turn_ends, turn_on}
use Rattle.faces.specs.inner.Rows.{face_at, face_of, face_uses}
use Rattle.faces.proofs.find.Goals as goal
use Rattle.faces.proofs.find.Lts as lts
use Rattle.faces.proofs.find.Tie.{the-claims}
use Rattle.faces.proofs.find.Reads.{Pre, Post}

pub search-init : goal.search-init
search-init c = look_first c.requires.starts

pub of-requires : goal.of-requires
of-requires c = c.requires.named c.search.r c.search.invariant.within

-- the row is used, and its face was compared
module _ (c : lts.Else2 the-claims Pre Post goal.the-invariant-search goal.the-decreases-search) where
  abbrev key : ℕ → Face
  key = face_at c.args.ids.now c.args.work.now

  abbrev sought : Face
  sought = face_of c.args.face

  told : same_face (key c.search.r) sought ≡ c.eq.result
  unfolding same_face
  told = rw (← c.of.ensures, c.of-in-search.ensures) (sym c.eq.ensures)

  on : Onward c.args.n c.args.start key (face_uses c.args.work.now) sought c.search.r
  on =
      let other = same_ne same_face face_refl (key c.search.r) sought (told ∙ c.if-eq.false) in
      turn_on c.search.invariant (used _ (omega arith)) other c.requires.free

pub search-smaller : goal.search-smaller
search-smaller c = rw c.next-r.ensures (on c.before.before).less

pub search-preserved : goal.search-preserved
search-preserved c = rw c.next-r.ensures (on c.before.before).next

pub returns-then-eq : goal.returns-then-eq
unfolding same_face
returns-then-eq c = turn_ends c.search.invariant (λ u. face_eq _ _ (rw (← c.of.ensures, c.of-in-search.ensures) (sym c.eq.ensures ∙ c.if-eq.true)))
