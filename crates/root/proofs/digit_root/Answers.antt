-- `root::digit_root` meets its contract. After i turns q * q + rest is the number that the first 2 * i of the 64 digits of m * 2 ^ 10 make,
-- and a has the others at its upper end. Assumes nothing.
use Rattle.std.proofs.Common.{◌≡◌, ℕ, ◌+◌, ◌-◌, ◌*◌, ◌/◌, ◌%◌, ◌^◌, ◌<◌, ◌≤◌, ap, ◌∙◌, subst, add-one, arith}
use native.Mathlib.Nat.{pow-succ'}
use Rattle.ieee.proofs.Numbers.Basic.{below_pow}
use Rattle.ieee.proofs.Numbers.Squares.{floor_root_at}
use Rattle.root.proofs.digit_root.Goals as goal
use Rattle.root.proofs.digit_root.Goals.{then-d-n, else-d-n}
use Rattle.root.proofs.digit_root.Invariants.{Turn}

q-lt : {m a q rest i : ℕ} → Turn m a q rest i → q < 2 ^ 27
q-lt {q = q} {i = i} t = below_pow q i 27 t.few t.turns

pow-next : (i : ℕ) → 2 ^ (i + 1) ≡ 2 * 2 ^ i
pow-next i = ap (λ (x : ℕ). 2 ^ x) (add-one i) ∙ pow-succ' 2 i

-- two digits more, with p for 2 ^ i
next : (m a q rest p : ℕ) → (q * q + rest) * 2 ^ 64 + a ≡ m * 1024 * (p * p)
    → (4 * (q * q) + (rest * 4 + a / 2 ^ 62)) * 2 ^ 64 + a % 2 ^ 62 * 4 ≡ m * 1024 * (2 * p * (2 * p))
next m a q rest p h = omega arith

module _ (m a q rest i : ℕ) (t : Turn m a q rest i) where
  abbrev n : ℕ
  n = rest * 4 + a / 2 ^ 62

  -- q' and rest' stand for the same digits
  turn : (q' rest' : ℕ) → q' * q' + rest' ≡ 4 * (q * q) + n → rest' ≤ 2 * q' → q' ≤ 2 * q + 1 → i < 27
      → Turn m (a % 2 ^ 62 * 4) q' rest' (i + 1)
  turn q' rest' e r l h = record {
    taken = rw (pow-next i, e) (next m a q rest (2 ^ i) t.taken);
    small = r;
    few = rw (pow-next i) (let x = t.few in omega arith);
    turns = omega arith;
    word = omega arith;
  }

  one : i < 27 → q * 4 + 1 ≤ n → Turn m (a % 2 ^ 62 * 4) (q * 2 + 1) (n - (q * 4 + 1)) (i + 1)
  one h l = let x = t.small in let y = t.word in turn (q * 2 + 1) (n - (q * 4 + 1)) (sums n l) (omega arith) (omega arith) h
    where
      sums : (n : ℕ) → q * 4 + 1 ≤ n → (q * 2 + 1) * (q * 2 + 1) + (n - (q * 4 + 1)) ≡ 4 * (q * q) + n
      sums n l = omega arith

  none : i < 27 → n < q * 4 + 1 → Turn m (a % 2 ^ 62 * 4) (q * 2) n (i + 1)
  none h l = turn (q * 2) n (omega arith) (omega arith) (omega arith) h

  -- after the last turn
  done : 27 ≤ i → q * q + rest ≡ m
  done h =
      let x = t.turns in
      let is : i ≡ 27 = omega arith in
      ended (q * q + rest) (subst (λ (z : ℕ). (q * q + rest) * 2 ^ 64 + a ≡ m * 1024 * (2 ^ z * 2 ^ z)) is t.taken)
    where
      ended : (n : ℕ) → n * 2 ^ 64 + a ≡ m * 1024 * (2 ^ 27 * 2 ^ 27) → n ≡ m
      ended n e = let x = t.word in omega arith

pub loop-i-init : goal.loop-i-init
loop-i-init c = record { taken = omega arith; small = omega arith; few = omega arith; turns = omega arith; word = omega arith }

pub overflow_mul-n : goal.overflow_mul-n
overflow_mul-n c = omega (arith, q-lt c.loop-i.invariant)

pub overflow_add-n : goal.overflow_add-n
overflow_add-n c = omega (arith, q-lt c.loop-i.invariant)

pub overflow_mul-d : goal.overflow_mul-d
overflow_mul-d c = omega (arith, q-lt c.loop-i.invariant)

pub overflow_add-d : goal.overflow_add-d
overflow_add-d c = omega (arith, q-lt c.loop-i.invariant)

pub overflow_mul-q : goal.overflow_mul-q
overflow_mul-q c = omega (arith, q-lt c.loop-i.invariant)

pub overflow_add-q : goal.overflow_add-q
overflow_add-q c = omega (arith, q-lt c.loop-i.invariant)

pub overflow_mul-q-else-d-n : goal.overflow_mul-q-else-d-n
overflow_mul-q-else-d-n c = omega (arith, q-lt c.loop-i.invariant)

pub loop-i-preserved : goal.loop-i-preserved
loop-i-preserved c =
    let l = c.loop-i in
    let m = c.args.m in
    elim c.if-d-n.branch [
      | then-d-n w ↦ rw (w.q-is, w.rest-is) (one m l.a l.q l.rest l._i l.invariant (omega arith) w.if-d-n.true)
      | else-d-n w ↦ rw (w.q-is, w.rest-is) (none m l.a l.q l.rest l._i l.invariant (omega arith) w.if-d-n.false)
    ]

pub returns : goal.returns
returns c =
    let l = c.loop-i in
    let m = c.args.m in
    let all = done m l.a l.q l.rest l._i l.invariant (omega arith) in
    let small = l.invariant.small in
    floor_root_at m l.q (omega arith, omega arith)

pub overflow_mul-a : goal.overflow_mul-a
overflow_mul-a c = omega arith

pub overflow_mul-a-in-loop-i : goal.overflow_mul-a-in-loop-i
overflow_mul-a-in-loop-i c = omega arith
