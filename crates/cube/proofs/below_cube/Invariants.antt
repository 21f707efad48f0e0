-- What the loop keeps, with i turns to go.
use mathlib.Core.Path.{◌≡◌}
use Prim.Native.Nat.{ℕ, ◌+◌, ◌-◌, ◌*◌, ◌/◌, ◌^◌, ◌<◌}
use Rattle.cube.proofs.below_cube.Given as goal

pub record Turn (a b e q rest i : ℕ) : Type 0 where
  pub taken : (q * a + rest) * 2 ^ (16 * i) ≡ b * 2 ^ e
  pub small : rest < a

abbrev pub invariant-loop-i : goal.invariant-loop-i
invariant-loop-i l = Turn l.a l.b l.e l.q l.rest (l.e / 16 - l._i)
