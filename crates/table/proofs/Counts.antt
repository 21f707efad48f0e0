-- The word in which a row counts uses: it is 0 just where there are none, and one use more, upwards or downwards, adds its weight.
-- Assumes nothing.
use mathlib.Core.Path.{◌≡◌}
use mathlib.Core.Bool.{Bool, true, false, cond}
use Prim.Native.Nat.{ℕ, ◌+◌, ◌≤◌, ◌<◌}
use native.Mathlib.Omega.{arith}
use Rattle.ids.specs.Uses.{bit}
use Rattle.table.specs.inner.Counts.{ups_in, uses_in}

module _ (w : ℕ) where
  pub none_used : w ≡ 0 → uses_in w ≡ 0
  unfolding uses_in
  none_used e = omega arith

  pub none_up : w ≡ 0 → ups_in w ≡ 0
  unfolding ups_in
  none_up e = omega arith

  pub used : 0 < w → 0 < uses_in w
  unfolding uses_in
  used l = omega arith

  pub ups_within : ups_in w ≤ uses_in w
  unfolding uses_in ups_in
  ups_within = omega arith

-- what a use adds to the word
abbrev pub weigh : Bool → ℕ
weigh up = cond up 65536 1

-- the word has room for one more use, either way
pub record Roomy (w : ℕ) : Type 0 where
  pub ups_left : ups_in w < 65535
  pub downs_left : uses_in w < ups_in w + 65535

pub few_roomy : (w : ℕ) → uses_in w < 65535 → Roomy w
few_roomy w few = record { ups_left = omega (arith, ups_within w); downs_left = omega arith }

module _ (w : ℕ) (room : Roomy w) where
  pub more_fits : (up : Bool) → w + weigh up < 4294967296
  unfolding uses_in ups_in
  more_fits true = omega (arith, room.ups_left)
  more_fits false = omega (arith, room.ups_left)

  pub more_uses : (up : Bool) → uses_in (w + weigh up) ≡ uses_in w + 1
  unfolding uses_in ups_in
  more_uses true = omega arith
  more_uses false = omega (arith, room.downs_left)

  pub more_ups : (up : Bool) → ups_in (w + weigh up) ≡ ups_in w + bit up
  unfolding uses_in ups_in bit
  more_ups true = omega arith
  more_ups false = omega (arith, room.downs_left)
