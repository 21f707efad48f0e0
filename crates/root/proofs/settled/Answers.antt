-- `root::settled` meets its contract: r is m * 2 ^ 52 - q * q + 2 ^ 55 whatever q is, if it fits, and then says which of q and its
-- neighbours is the answer. Assumes nothing.
use Rattle.std.proofs.Common.{◌≡◌, ℕ, ◌+◌, ◌-◌, ◌*◌, ◌/◌, ◌%◌, ◌^◌, ◌<◌, ◌≤◌, ◌&&◌, T, ltb, ◌⊎◌, sym, ◌∙◌, subst, inl, inr, ⊎_elim, mul-le-mul, arith, ltb→lt}
use lib.Ieee.Fits.{and_l, and_r}
use Rattle.ieee.specs.Root.{closest_root}
use Rattle.ieee.proofs.Numbers.Squares.{closest_root_at}
use Rattle.root.proofs.settled.Goals as goal
use Rattle.root.proofs.settled.Goals.{Then-k-r}

-- ---- the two parts of q
record Parts (u v : ℕ) : Type 0 where
  cross : u * v ≤ 2 ^ 53
  upper : u * u ≤ 2 ^ 62
  lower : v * v ≤ 2 ^ 44

parts : (q : ℕ) → q < 2 ^ 53 → Parts (q / 2 ^ 22) (q % 2 ^ 22)
parts q h =
    let x : q / 2 ^ 22 ≤ 2 ^ 31 = omega arith in
    let y : q % 2 ^ 22 ≤ 2 ^ 22 = omega arith in
    record { cross = mul-le-mul x y; upper = mul-le-mul x x; lower = mul-le-mul y y }

-- what is left, and the square, by the parts: h and l are those of u * v
balance : (m u v h l k r : ℕ) → k + (u * u + h) ≡ m * 256 + 2046 → h * 2 ^ 21 + l ≡ u * v → r + (l * 2 ^ 23 + v * v) ≡ (k + 2) * 2 ^ 44
    → m * 2 ^ 52 + 2 ^ 55 ≡ (u * 2 ^ 22 + v) * (u * 2 ^ 22 + v) + r
balance m u v h l k r a b c = omega arith

-- ---- which of the three it is, where q is near: n is q * q + r - c
record Near (n q c r : ℕ) : Type 0 where
  is : n + c ≡ q * q + r
  above : c + 2 < r + 3 * q
  below : r < c + 3 * q

abbrev Told : ℕ → ℕ → ℕ → Type 0
Told a b x = ((a < b) × (x ≡ 1)) ⊎ ((b ≤ a) × (x ≡ 0))

-- x tells whether it is the next, y whether it is the one before
settles : (n q c r : ℕ) → Near n q c r → 0 < q → (x y : ℕ) → Told (c + q) r x → Told (r + q) (c + 1) y → q + x - y ≡ closest_root n 1
settles n q c r near p x y next before =
    let is : q ≡ q - 1 + 1 = omega arith in
    go (q - 1) is (subst (λ (z : ℕ). n + c ≡ z * z + r) is near.is) next before
  where
    at : (s : ℕ) → q + x - y ≡ s → s * s < n + s → n ≤ s * s + s → q + x - y ≡ closest_root n 1
    at s e h l = e ∙ closest_root_at n s h l

    go : (s : ℕ) → q ≡ s + 1 → n + c ≡ (s + 1) * (s + 1) + r → Told (c + q) r x → Told (r + q) (c + 1) y → q + x - y ≡ closest_root n 1
    go s i e (inl a) (inl b) = absurd (omega arith)
    go s i e (inl a) (inr b) = at (s + 2) (omega arith) (omega arith) (omega arith)
    go s i e (inr a) (inr b) = at (s + 1) (omega arith) (omega arith) (omega arith)
    go s i e (inr a) (inl b) = at s (omega arith) (omega arith) (omega arith)

-- ---- the routine
abbrev left : ℕ → ℕ → ℕ
left q k = (k % 4096 + 2) * 2 ^ 44 - (q / 2 ^ 22 * (q % 2 ^ 22) % 2 ^ 21 * 2 ^ 23 + q % 2 ^ 22 * (q % 2 ^ 22))

-- nothing wraps where k is small
left_is : (m q k : ℕ) → m < 2 ^ 54 → q < 2 ^ 53 → k < 4096
    → (k + (q / 2 ^ 22 * (q / 2 ^ 22) + q / 2 ^ 22 * (q % 2 ^ 22) / 2 ^ 21)) % 2 ^ 64 ≡ m * 256 + 2046
    → m * 2 ^ 52 + 2 ^ 55 ≡ q * q + left q k
left_is m q k M Q K e =
    let p = parts q Q in
    let u = q / 2 ^ 22 in
    let v = q % 2 ^ 22 in
    let whole : u * 2 ^ 22 + v ≡ q = omega arith in
    subst (λ (z : ℕ). m * 2 ^ 52 + 2 ^ 55 ≡ z * z + left q k) whole
    (balance m u v (u * v / 2 ^ 21) (u * v % 2 ^ 21) k (left q k) (omega arith) (omega arith) (omega arith))

pub overflow_mul-p : goal.overflow_mul-p
overflow_mul-p c = let p = parts c.args.q c.requires.3 in omega arith

pub overflow_mul-u : goal.overflow_mul-u
overflow_mul-u c = let p = parts c.args.q c.requires.3 in omega arith

pub overflow_add-u : goal.overflow_add-u
overflow_add-u c = let p = parts c.args.q c.requires.3 in omega arith

pub overflow_mul-r-3 : goal.overflow_mul-r-3
overflow_mul-r-3 c = let p = parts c.args.q c.requires.3 in omega arith

pub overflow_add-r-2 : goal.overflow_add-r-2
overflow_add-r-2 c = let p = parts c.args.q c.requires.3 in omega arith

pub overflow_sub-r : goal.overflow_sub-r
overflow_sub-r c = let p = parts c.args.q c.requires.3 in omega arith

abbrev rest : Then-k-r → ℕ
rest c = left c.args.q c.wrapping_sub_u64-k.result

near : (c : Then-k-r) → Near (c.args.m * 2 ^ 52) c.args.q (2 ^ 55) (rest c)
near c =
    let m = c.args.m in
    let q = c.args.q in
    let k = c.wrapping_sub_u64-k.result in
    let r = rest c in
    let small = ltb k 4096 in
    let above = ltb (2 ^ 55 + 2) (r + 3 * q) in
    let below = ltb r (2 ^ 55 + 3 * q) in
    let all = subst T (sym c.if-k-r.true) tt in
    let both = and_l (small && above) below all in
    record {
      is =
          left_is m q k c.requires.1 c.requires.3 (ltb→lt k 4096 (and_l small above both))
          c.wrapping_sub_u64-k.ensures.value;
      above = ltb→lt (2 ^ 55 + 2) (r + 3 * q) (and_r small above both);
      below = ltb→lt r (2 ^ 55 + 3 * q) (and_r (small && above) below all);
    }

pub returns-then-k-r : goal.returns-then-k-r
returns-then-k-r c =
    settles _ _ (2 ^ 55) (rest c.before.before) (near c.before.before) (omega arith) _ _
    (⊎_elim (λ w. inl (omega arith, w.1)) (λ w. inr (omega arith, w.1)) c.less.ensures.1)
    (⊎_elim (λ w. inl (omega arith, w.1)) (λ w. inr (omega arith, w.1)) c.less-then-k-r.ensures.1)
