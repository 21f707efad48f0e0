-- `root::nearest_root` meets its contract: s * s + u * 2 ^ 26 is m * 2 ^ 52 + t * t. Assumes nothing.
use Rattle.std.proofs.Common.{◌≡◌, ℕ, ◌+◌, ◌-◌, ◌*◌, ◌/◌, ◌%◌, ◌^◌, ◌<◌, ◌≤◌, sym, subst, mod-lt, mul-le-mul_left, div-add-mod', arith}
use native.Mathlib.Nat.{div-le_of_le-mul}
use Rattle.ieee.specs.Root.{closest_root}
use Rattle.ieee.proofs.Numbers.Squares.{IsRoot, closest_root_at, floor_root_is, square_lt}
use Rattle.root.proofs.nearest_root.Goals as goal
use Rattle.root.proofs.nearest_root.Goals.{After-digit_root-q}

record Parts (m q t u : ℕ) : Type 0 where
  from : 2 ^ 26 ≤ q
  to : q < 2 ^ 27
  square : q * q ≤ m
  rest : m ≤ q * q + 2 * q
  parts : t * (2 * q) + u ≡ (m - q * q) * 2 ^ 26
  t-square : t * t ≤ t * 2 ^ 26
  t-le : t ≤ 2 ^ 26
  u-lt : u < 2 * q

parts-of : (m q : ℕ) → 2 ^ 52 ≤ m → m < 2 ^ 54 → IsRoot m q → Parts m q ((m - q * q) * 2 ^ 26 / (2 * q)) ((m - q * q) * 2 ^ 26 % (2 * q))
parts-of m q l h r =
    let n = (m - q * q) * 2 ^ 26 in
    let a : 2 ^ 26 < q + 1 = square_lt (2 ^ 26) (q + 1) (omega arith) in
    let b : q < 2 ^ 27 = square_lt q (2 ^ 27) (omega arith) in
    let t-le : n / (2 * q) ≤ 2 ^ 26 = div-le_of_le-mul (2 * q) (omega arith) in
    record {
      from = omega arith;
      to = b;
      square = r.0;
      rest = omega arith;
      parts = div-add-mod' n (2 * q);
      t-square = mul-le-mul_left (n / (2 * q)) t-le;
      t-le = t-le;
      u-lt = mod-lt n (omega arith);
    }

-- s or s + 1, where s * s is n + y - x
module _ (n s x y : ℕ) (e : s * s + x ≡ n + y) where
  next : y + s < x → x ≤ 2 * s → s + 1 ≡ closest_root n 1
  next h l = closest_root_at n (s + 1) (omega arith) (omega arith)

  same : x ≤ y + s → y < x + s → s ≡ closest_root n 1
  same h l = closest_root_at n s (omega arith) (omega arith)

squares : {m q t u : ℕ} → Parts m q t u → (q * 2 ^ 26 + t) * (q * 2 ^ 26 + t) + u * 2 ^ 26 ≡ m * 2 ^ 52 + t * t
squares p = omega arith

parts_at : (c : After-digit_root-q)
    → let m = c.args.m in let q = c.digit_root-q.result in
    Parts m q ((m - q * q) * 2 ^ 26 / (2 * q)) ((m - q * q) * 2 ^ 26 % (2 * q))
parts_at c =
    let m = c.args.m in
    parts-of m _ c.requires.0 c.requires.1
    (subst (λ (q : ℕ). IsRoot m q) (sym c.digit_root-q.ensures) (floor_root_is m))

pub returns-then-t-s : goal.returns-then-t-s
returns-then-t-s c =
    let p = parts_at c.before in next (c.args.m * 2 ^ 52) _ _ _ (squares p) (omega (arith, c.if-t-s.true))
    (omega arith)

pub returns-else-t-s : goal.returns-else-t-s
returns-else-t-s c =
    let p = parts_at c.before in same (c.args.m * 2 ^ 52) _ _ _ (squares p) (omega (arith, c.if-t-s.false)) (omega arith)

pub overflow_mul-n : goal.overflow_mul-n
overflow_mul-n c = omega (arith, parts_at c)

pub overflow_sub-n : goal.overflow_sub-n
overflow_sub-n c = omega (arith, parts_at c)

pub overflow_mul-n-2 : goal.overflow_mul-n-2
overflow_mul-n-2 c = omega (arith, parts_at c)

pub overflow_mul-t : goal.overflow_mul-t
overflow_mul-t c = omega (arith, parts_at c)

pub nonzero_div-t : goal.nonzero_div-t
nonzero_div-t c = omega (arith, parts_at c)

pub overflow_mul-u : goal.overflow_mul-u
overflow_mul-u c = omega (arith, parts_at c)

pub nonzero_rem-u : goal.nonzero_rem-u
nonzero_rem-u c = omega (arith, parts_at c)

pub overflow_mul-s : goal.overflow_mul-s
overflow_mul-s c = omega (arith, parts_at c)

pub overflow_add-s : goal.overflow_add-s
overflow_add-s c = omega (arith, parts_at c)

pub overflow_mul-t-2 : goal.overflow_mul-t-2
overflow_mul-t-2 c = omega (arith, parts_at c)

pub overflow_add-t : goal.overflow_add-t
overflow_add-t c = omega (arith, parts_at c)

pub overflow_mul-u-2 : goal.overflow_mul-u-2
overflow_mul-u-2 c = omega (arith, parts_at c)

pub overflow_add-result : goal.overflow_add-result
overflow_add-result c = omega (arith, parts_at c.before)
