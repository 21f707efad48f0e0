-- `root::root_scaled` meets its contract. Assumes nothing.
use Rattle.std.proofs.Common.{ℕ, ◌+◌, ◌*◌, ◌/◌, ◌%◌, ◌^◌, ◌<◌, ◌≤◌, ap, mul-le-mul_left, div-one, arith, lit<}
use Rattle.ieee.proofs.Numbers.Squares.{closest_root_le}
use Rattle.root.proofs.root_scaled.Goals as goal
use Rattle.root.proofs.root_scaled.Goals.{After-settled}

-- d once or twice
doubled : (d r : ℕ) → r < 2 → (d ≤ d * (1 + r)) × (d * (1 + r) ≤ 2 * d)
doubled d r h =
    let x : d * 1 ≤ d * (1 + r) = mul-le-mul_left d (omega arith) in
    let y : d * (1 + r) ≤ d * 2 = mul-le-mul_left d (omega arith) in (omega arith, omega arith)

pub overflow_mul-d : goal.overflow_mul-d
overflow_mul-d c = omega (arith, doubled c.args.d (c.args.w % 2) (omega arith))

pub settled-requires : goal.settled-requires
settled-requires c =
    let b = doubled c.args.d (c.args.w % 2) (omega arith) in
    (omega arith, omega arith, omega arith, omega arith)

low : (c : After-settled) → c.settled.result ≤ 2 ^ 53
low c =
    let m = c.args.d * (1 + c.args.w % 2) in
    let b = doubled c.args.d (c.args.w % 2) (omega arith) in
    rw c.settled.ensures (closest_root_le (m * 2 ^ 52) 1 (2 ^ 53) (lit< tt) (rw (div-one (m * 2 ^ 52)) (omega arith)))

pub overflow_add-result : goal.overflow_add-result
overflow_add-result c = omega (arith, low c)

pub returns : goal.returns
returns c = (ap (λ (z : ℕ). c.args.w / 2 * 2 ^ 52 + z) c.settled.ensures, omega (arith, low c))
