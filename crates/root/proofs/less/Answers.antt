-- `root::less` meets its contract: a test as a number is 1 or 0. Assumes nothing.
use Rattle.std.proofs.Common.{◌≡◌, ℕ, ◌<◌, ◌≤◌, Bool, true, false, not, T, ltb, ◌⊎◌, refl, inl, inr, arith, ltb→lt, nltb→le}
use mir.Val.{bool_byte}
use Rattle.root.proofs.less.Goals as goal

byte : (a b : ℕ) (t : Bool) → (T t → a < b) → (T (not t) → b ≤ a)
    → (bool_byte t ≤ 1) × (((a < b) × (bool_byte t ≡ 1)) ⊎ ((b ≤ a) × (bool_byte t ≡ 0)))
byte a b true y n = (omega arith, inl (y tt, refl))
byte a b false y n = (omega arith, inr (n tt, refl))

pub returns : goal.returns
returns c = rw c.from.ensures (let a = c.args.a in let b = c.args.b in byte a b (ltb a b) (ltb→lt a b) (nltb→le a b))
