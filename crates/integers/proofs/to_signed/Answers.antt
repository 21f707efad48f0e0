-- `integers::to_signed` meets its contract. Assumes nothing.
use Rattle.std.proofs.Common.{◌≡◌, ◌^◌, true, false, pos, ◌-ℤ◌, sym, ◌∙◌, arith, w64, to_z, le-leb}
use borrow.Author.Tests.{lt-leb}
use lib.Ieee.{to_signed}
use Rattle.ieee.proofs.Order.Ranges.{signed_nan, signed_read, signed_within}
use Rattle.ieee.proofs.Patterns.Back.{read_word}
use Rattle.ieee.proofs.Patterns.Integer.{below_zero, few, from_zero_up, past_end}
use Rattle.integers.proofs.to_signed.Goals as goal
use Rattle.integers.proofs.to_signed.Goals.{Else-b-lt-SIGN}

-- the sign is put on
negative : (c : Else-b-lt-SIGN) → pos 0 -ℤ to_z w64 c.cut_size-n.result ≡ to_signed c.args.h c.args.x
negative c =
    below_zero _ _ _ (read_word _ _ _ c.to_word-b.ensures) _ c.requires.0 (omega arith) c.cut_size-n.ensures c.if-b-lt-SIGN.false

pub overflow_cast-n : goal.overflow_cast-n
overflow_cast-n c =
    record { sfits = few _ _ _ (read_word _ _ _ c.to_word-b.ensures) _ c.requires.0 (omega arith) c.cut_size-n.ensures }

pub overflow_sub-result : goal.overflow_sub-result
overflow_sub-result c = rw (negative c) (signed_within w64 _ c.requires.0 _)

pub returns-then-b-lt-SIGN : goal.returns-then-b-lt-SIGN
returns-then-b-lt-SIGN c =
    from_zero_up _ _ _ (read_word _ _ _ c.to_word-b.ensures) _ c.requires.0 (omega arith) c.cut_size-n.ensures c.if-b-lt-SIGN.true

pub returns-else-b-lt-SIGN : goal.returns-else-b-lt-SIGN
returns-else-b-lt-SIGN c = signed_read w64 _ c.requires.0 _ _ (negative c)

pub returns-then-x : goal.returns-then-x
returns-then-x c = sym (signed_nan c.args.h c.args.x c.if-x.true)

pub returns-then-b-lt-SIGN-2 : goal.returns-then-b-lt-SIGN-2
returns-then-b-lt-SIGN-2 c =
    let b = c.to_word-b.result in
    signed_read w64 _ c.requires.0 _ _
    (c.requires.2 ∙ past_end _ _ b (read_word _ _ _ c.to_word-b.ensures) (omega arith) c.if-x.false false (lt-leb (2 ^ 63) b c.if-b-lt-SIGN-2.true))

pub returns-else-b-lt-SIGN-2 : goal.returns-else-b-lt-SIGN-2
returns-else-b-lt-SIGN-2 c =
    let b = c.to_word-b.result in
    signed_read w64 _ c.requires.0 _ _
    (c.requires.1 ∙ past_end _ _ b (read_word _ _ _ c.to_word-b.ensures) (omega arith) c.if-x.false true (le-leb (2 ^ 63) b c.if-b-lt-SIGN-2.false))
