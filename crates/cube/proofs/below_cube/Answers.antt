-- `cube::below_cube` meets its contract. With i turns to go q * a + rest is the number that all but the last 16 * i digits of b * 2 ^ e
-- make.
-- Assumes nothing.
use mathlib.Core.Path.{◌≡◌, sym, ◌∙◌, subst}
use Prim.Native.Nat.{ℕ, ◌+◌, ◌-◌, ◌*◌, ◌/◌, ◌%◌, ◌^◌, ◌≤◌, ◌<◌}
use native.Mathlib.Nat.{div-add-mod', div-lt_iff_lt-mul, mod-lt, mul_assoc, mul-le-mul_left, mul-le-mul_right, mul-one}
use native.Mathlib.Omega.{arith}
use native.Mathlib.Decide.{dec_lt}
use borrow.Author.Tests.{le-leb, le-ltb, lt-leb, lt-ltb}
use lib.Dec.{ltb}
use lib.Pow.{pow-add, pow_pos, shl_exact}
use Rattle.ieee.proofs.Numbers.Basic.{square_below}
use Rattle.ieee.proofs.Numbers.Scales.{lt_multiple}
use Rattle.cube.proofs.below_cube.Goals as goal
use Rattle.cube.proofs.below_cube.Invariants.{Turn}

first : (a b e : ℕ) → 0 < a → b < 2 ^ 48 → let n = b * 2 ^ (e % 16) % 2 ^ 64 in Turn a b e (n / a) (n % a) (e / 16)
first a b e A l =
    let n = b * 2 ^ (e % 16) % 2 ^ 64 in
    let i = 16 * (e / 16) in
    let places : e % 16 + i ≡ e = omega arith in
    let whole = shl_exact {a = b} 48 (e % 16) 64 l (omega arith) in
    record { taken = rw (div-add-mod' n a, whole, mul_assoc b (2 ^ (e % 16)) (2 ^ i), ← pow-add 2 (e % 16) i, places); small = mod-lt n A }

module _ {a b e q rest i : ℕ} (t : Turn a b e q rest i) where
  abbrev d : ℕ
  d = rest * 65536

  next : 0 < i → 0 < a → Turn a b e (q * 65536 + d / a) (d % a) (i - 1)
  next h A =
      let j = 16 * (i - 1) in
      let places : 16 * i ≡ 16 + j = omega arith in
      let same : (q * 65536 + d / a) * a + d % a ≡ (q * a + rest) * 2 ^ 16 = let x = div-add-mod' d a in omega arith in
      record { taken = rw (same, mul_assoc (q * a + rest) (2 ^ 16) (2 ^ j), ← pow-add 2 16 j, ← places) t.taken; small = mod-lt d A }

  reached : a * a ≤ q → a * a * a ≤ b * 2 ^ e
  reached h =
      let x : a * a * a ≤ q * a = mul-le-mul_right a h in
      let y : (q * a + rest) * 1 ≤ (q * a + rest) * 2 ^ (16 * i) = mul-le-mul_left (q * a + rest) (pow_pos (16 * i)) in
      omega (arith, t.taken)

  ended : i ≡ 0 → ltb q (a * a) ≡ ltb (b * 2 ^ e) (a * a * a)
  ended z =
      let n = q * a + rest in
      let all : n ≡ b * 2 ^ e = sym (mul-one n) ∙ subst (λ (j : ℕ). n * 2 ^ (16 * j) ≡ b * 2 ^ e) z t.taken in
      lt_multiple q rest a (a * a) t.small ∙ rw all

  digits_lt : 0 < a → d / a < 65536
  digits_lt A = (div-lt_iff_lt-mul A).1 (let x = t.small in omega arith)

pub returns-then-a-eq0 : goal.returns-then-a-eq0
returns-then-a-eq0 c = rw c.if-a-eq0.true (sym (le-ltb (c.args.b * 2 ^ c.args.e) 0 (omega arith)))

pub overflow_mul-square : goal.overflow_mul-square
overflow_mul-square c = omega (arith, square_below c.args.a 24 c.requires.0)

pub loop-i-init : goal.loop-i-init
loop-i-init c =
    let n = c.args.b * 2 ^ (c.args.e % 16) % 2 ^ 64 in
    subst (Turn c.args.a c.args.b c.args.e (n / c.args.a) (n % c.args.a)) (omega arith) (first c.args.a c.args.b c.args.e (omega arith) c.requires.1)

pub returns-then-square-q : goal.returns-then-square-q
returns-then-square-q c = sym (le-ltb _ _ (reached c.loop-i.invariant c.if-square-q.true))

pub overflow_mul-d : goal.overflow_mul-d
overflow_mul-d c = let small = c.loop-i.invariant.small in omega arith

pub overflow_mul-q : goal.overflow_mul-q
overflow_mul-q c = omega (arith, square_below c.args.a 24 c.requires.0)

pub overflow_add-q : goal.overflow_add-q
overflow_add-q c =
    omega (arith, square_below c.args.a 24 c.requires.0, digits_lt c.loop-i.invariant (omega arith))

pub loop-i-preserved : goal.loop-i-preserved
loop-i-preserved c =
    let l = c.loop-i in
    subst (Turn c.args.a c.args.b c.args.e (l.q * 65536 + l.rest * 65536 / c.args.a) (l.rest * 65536 % c.args.a)) (omega arith)
    (next l.invariant (omega arith) (omega arith))

-- The quotient is below the square, or it is not: either way the last test says so, however it is written.
ruleset tests = (lt-ltb, le-ltb, lt-leb, le-leb)

pub returns : goal.returns
returns c =
    let q = c.loop-i.q in
    let a = c.args.a in
    let end = ended c.loop-i.invariant (omega arith) in
    elim (dec_lt q (a * a)) [
      | yes l ↦ let h : q ≤ a * a = omega arith in simp (← end, tests)
      | no g ↦ let h : a * a ≤ q = omega arith in simp (← end, tests)
    ]

pub overflow_shl-n : goal.overflow_shl-n
overflow_shl-n c = omega arith

pub nonzero_div-q : goal.nonzero_div-q
nonzero_div-q c = omega arith

pub nonzero_rem-rest : goal.nonzero_rem-rest
nonzero_rem-rest c = omega arith

pub nonzero_div-q-in-loop-i : goal.nonzero_div-q-in-loop-i
nonzero_div-q-in-loop-i c = omega arith

pub nonzero_rem-rest-in-loop-i : goal.nonzero_rem-rest-in-loop-i
nonzero_rem-rest-in-loop-i c = omega arith
