-- What the loop keeps.
use Rattle.std.proofs.Common.{◌≡◌, ℕ, ◌+◌, ◌*◌, ◌^◌, ◌<◌, ◌≤◌}
use Rattle.root.proofs.digit_root.Given as goal

pub record Turn (m a q rest i : ℕ) : Type 0 where
  pub taken : (q * q + rest) * 2 ^ 64 + a ≡ m * 1024 * (2 ^ i * 2 ^ i)
  pub small : rest ≤ 2 * q
  pub few : q < 2 ^ i
  pub turns : i ≤ 27
  pub word : a < 2 ^ 64

abbrev pub invariant-loop-i : goal.invariant-loop-i
invariant-loop-i l = Turn l.m l.a l.q l.rest l._i
