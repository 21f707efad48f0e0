-- `root::root_normal` meets its contract: half of the exponent's field is far below that of infinity. Assumes nothing.
use Rattle.std.proofs.Common.{◌≡◌, ℕ, ◌+◌, ◌*◌, ◌/◌, ◌%◌, ◌^◌, ◌<◌, ◌≤◌, sym, ◌∙◌, subst, mod-eq_of_lt, arith}
use lib.Ieee.{binary64, of_bits, to_bits}
use Rattle.ieee.specs.Root.{closest_root, root}
use Rattle.ieee.proofs.Patterns.Root.{above_bits, normal_root}
use Rattle.root.proofs.root_normal.Goals as goal

abbrev Scaled : ℕ → ℕ → ℕ
Scaled d w = w / 2 * 2 ^ 52 + closest_root (d * (1 + w % 2) * 2 ^ 52) 1

-- there is no sign to clear
normal-bits : (b r : ℕ) → 2 ^ 52 ≤ b → b < 0x7ff0000000000000 → r ≡ Scaled (2 ^ 52 + b % 2 ^ 52) (b / 2 ^ 52 + 1021)
    → r ≡ to_bits binary64 (root binary64 (of_bits binary64 b))
normal-bits b r l h e =
    let d = 2 ^ 52 + b % 2 ^ 52 in
    let clear : b % 2 ^ 63 ≡ b = mod-eq_of_lt (omega arith) in
    above_bits b r h (λ z. omega arith)
    (subst (λ (z : ℕ). r ≡ Scaled d (z / 2 ^ 52 + 1021)) (sym clear) e
    ∙ normal_root (b % 2 ^ 63 / 2 ^ 52) (b % 2 ^ 52) (λ z. omega arith) (omega arith) (omega arith))

pub returns : goal.returns
returns c =
    (normal-bits c.args.b _ c.requires.0 c.requires.1 c.root_scaled.ensures.0, omega (arith, c.root_scaled.ensures.1))
