-- `spelling::fill` meets its contract: each turn puts a number or a byte of the form. Assumes nothing.
use Prim.Native.Nat.{◌<◌}
use lib.ListN.{length}
use Rattle.spelling.proofs.Left.{left_all, left_less, byte_room, left_byte, left_none}
use Rattle.spelling.proofs.Turns.{number_left, number_room, form_number, form_byte, form_end}
use borrow.Author.Rules.{rules}
use Rattle.spelling.proofs.fill.Goals as goal
use Rattle.spelling.proofs.fill.Goals.{then-byte-used, else-byte-used}
use Rattle.spelling.proofs.fill.Lts as lts
use Rattle.spelling.proofs.fill.Tie.{the-claims}
use Rattle.spelling.proofs.fill.Reads.{Pre, Post}

pub loop-i-init : goal.loop-i-init
loop-i-init c = left_all _ _ _ c.requires

-- a mark is met, and a number is left
some : (c : lts.Then1 the-claims Pre Post goal.the-invariant-loop-i goal.the-decreases-loop-i) → c.loop-i.used < length c.args.numbers.now
some c =
    number_left c.args.form.now c.loop-i.i c.args.numbers.now c.loop-i.used c.if-byte-used.true

pub offset_bounds-numbers-used : goal.offset_bounds-numbers-used
offset_bounds-numbers-used c = let h = some c.before.before in search rules

pub bounds-numbers-used : goal.bounds-numbers-used
bounds-numbers-used c = some c.before.before.before

pub put_number-end-requires : goal.put_number-end-requires
put_number-end-requires c =
    let a = c.args in
    number_room c.loop-i.invariant _ _
    (form_number a.form.now c.loop-i.i a.numbers.now c.loop-i.used (search rules) c.if-byte-used.true)

pub overflow_add-used : goal.overflow_add-used
overflow_add-used c =
    let h = some c.before.before.before.before.before.before in
    search rules

pub bounds-out-end : goal.bounds-out-end
bounds-out-end c =
    let a = c.args in
    byte_room c.loop-i.invariant _ _
    (form_byte a.form.now c.loop-i.i a.numbers.now c.loop-i.used (search rules) c.if-byte-used.false)

pub loop-i-preserved : goal.loop-i-preserved
loop-i-preserved c =
    let a = c.args in
    elim c.if-byte-used.branch [
      | then-byte-used w ↦ rw (w.out-is, w.end-is, w.used-is) (left_less c.loop-i.invariant _ _
          (form_number a.form.now c.loop-i.i a.numbers.now c.loop-i.used (search rules) w.if-byte-used.true) w.put_number-end.ensures)
      | else-byte-used w ↦ rw (w.out-is, w.end-is, w.used-is) (left_byte c.loop-i.invariant _ _
          (form_byte a.form.now c.loop-i.i a.numbers.now c.loop-i.used (search rules) w.if-byte-used.false))
    ]

pub returns : goal.returns
returns c =
    let a = c.args in
    left_none c.loop-i.invariant (form_end a.form.now c.loop-i.i a.numbers.now c.loop-i.used (search rules))
