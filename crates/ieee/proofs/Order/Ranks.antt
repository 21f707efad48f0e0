-- Any three floats that are no NaN compare as three natural numbers do, their ranks, whatever the signs, and the infinities too.
-- Assumes nothing.
use mathlib.Core.Path.{◌≡◌, refl, sym, ◌∙◌, ap}
use mathlib.Core.Bool.{Bool, true, false, not, ◌&&◌, beq, cond, and-true, and-false, or-false, ◌||◌}
use Prim.Native.Nat.{ℕ, zero, suc, ◌+◌, ◌-◌, ◌*◌, ◌≤◌, ◌<◌}
use native.Mathlib.Nat.{mul_assoc, mul_comm, mul-pos}
use native.Mathlib.Decide.{dec_lt, ℕ_discrete}
use native.Mathlib.Omega.{arith}
use borrow.Author.Tests.{lt-ltb, le-ltb, le-leb, lt-leb, eq-eqb, ne_eqb}
use lib.Dec.{T, leb, ltb, eqb, ltb→lt, lt→ltb, eqb→eq, eqb-suc-zero}
use lib.Ieee.{Float, nan, inf, fin, up, down, below, level, lt, eq, le, is_nan}
use lib.Ieee.Exact.{HasValue}
use lib.Ieee.Fits.{eq→eqb}
use lib.Ieee.Positive.{num, den, den_pos}
use Rattle.ieee.proofs.Values.ByValue.{eq_values, lt_values}

-- ---- the sign and the size of x, in units of 1 / c: n, past all others, is an infinity's
Sized : ℕ → ℕ → Float → Bool → ℕ → Type 0
Sized c n nan s a = ⊥
Sized c n (inf t) s a = (t ≡ s) × (a ≡ n)
Sized c n (fin t m e) s a = (a < n) × HasValue (fin t m e) s a c

-- the two comparisons of ±n with a lesser ±b, and with itself
most_below : (n : ℕ) (s t : Bool) (b : ℕ) → b < n → (below s n t b ≡ s) × (below t b s n ≡ not s)
most_below n false false b h = (le-ltb n b (omega arith), lt-ltb b n h)
most_below n false true b h = (refl, lt-ltb 0 (b + n) (omega arith))
most_below n true false b h = (lt-ltb 0 (n + b) (omega arith), refl)
most_below n true true b h = (lt-ltb b n h, le-ltb n b (omega arith))

most_self : (n : ℕ) (s t : Bool) → 0 < n → below s n t n ≡ (s && not t)
most_self n false false h = le-ltb n n (omega arith)
most_self n false true h = refl
most_self n true false h = lt-ltb 0 (n + n) (omega arith)
most_self n true true h = le-ltb n n (omega arith)

module _ (c n : ℕ) (C : 0 < c) (N : 0 < n) where
  lt_sized : (x y : Float) (s : Bool) (a : ℕ) (t : Bool) (b : ℕ) → Sized c n x s a → Sized c n y t b → lt x y ≡ below s a t b
  unfolding Sized lt
  lt_sized nan y s a t b h k = absurd h
  lt_sized (inf u) nan s a t b h k = absurd k
  lt_sized (inf u) (inf v) s a t b h k = rw (h.0, k.0, h.1, k.1) (sym (most_self n s t N))
  lt_sized (inf u) (fin v m e) s a t b h k = rw (h.0, h.1) (sym (most_below n s t b k.0).0)
  lt_sized (fin u m e) nan s a t b h k = absurd k
  lt_sized (fin u m e) (inf v) s a t b h k = rw (k.0, k.1) (sym (most_below n t s a h.0).1)
  lt_sized (fin u m e) (fin v m' e') s a t b h k = lt_values (fin u m e) (fin v m' e') s a t b c C h.1 k.1

  eq_sized : (x y : Float) (s : Bool) (a : ℕ) (t : Bool) (b : ℕ) → Sized c n x s a → Sized c n y t b → eq x y ≡ level s a t b
  unfolding Sized eq
  eq_sized nan y s a t b h k = absurd h
  eq_sized (inf u) nan s a t b h k = absurd k
  eq_sized (inf u) (inf v) s a t b h k =
      rw (h.0, k.0, h.1, k.1, eq-eqb n n refl, ne_eqb n 0 (λ e. omega arith)) (sym (or-false (beq s t)))
  eq_sized (inf u) (fin v m e) s a t b h k = rw (h.1, ne_eqb n b (λ e. omega arith))
  eq_sized (fin u m e) nan s a t b h k = absurd k
  eq_sized (fin u m e) (inf v) s a t b h k = rw (k.1, ne_eqb a n (λ e. omega arith))
  eq_sized (fin u m e) (fin v m' e') s a t b h k = eq_values (fin u m e) (fin v m' e') s a t b c C h.1 k.1

-- ---- the rank of ±a: up from n by a plus's size, down from n by a minus's
abbrev pub rank : ℕ → Bool → ℕ → ℕ
rank n s a = cond s (n - a) (n + a)

pub same_test : (p q : Bool) → (T p → T q) → (T q → T p) → p ≡ q
same_test true true h k = refl
same_test true false h k = absurd (h tt)
same_test false true h k = absurd (k tt)
same_test false false h k = refl

pub both_lt : (a b c d : ℕ) → (a < b → c < d) → (c < d → a < b) → ltb a b ≡ ltb c d
both_lt a b c d h k = same_test (ltb a b) (ltb c d) (λ t. lt→ltb c d (h (ltb→lt a b t))) (λ t. lt→ltb a b (k (ltb→lt c d t)))

both_eq : (a b c d : ℕ) → (a ≡ b → c ≡ d) → (c ≡ d → a ≡ b) → eqb a b ≡ eqb c d
both_eq a b c d h k = same_test (eqb a b) (eqb c d) (λ t. eq→eqb (h (eqb→eq a b t))) (λ t. eq→eqb (k (eqb→eq c d t)))

both_zero : (a b c d : ℕ) → (a + b ≡ 0 → c ≡ d) → (c ≡ d → a + b ≡ 0) → (eqb a b && eqb a 0) ≡ eqb c d
both_zero zero b c d h k =
    ap (λ (t : Bool). t && true) (both_eq 0 b c d (λ e. h (omega arith)) (λ e. omega (arith, k e))) ∙ and-true (eqb c d)
both_zero (suc a) b c d h k = rw (eqb-suc-zero a, and-false (eqb (suc a) b)) (sym (ne_eqb c d (λ e. omega (arith, k e))))

either_leb : (i j : ℕ) → (ltb i j || eqb i j) ≡ leb i j
either_leb i j =
    elim (dec_lt i j) [
      | yes h ↦ rw (lt-ltb i j h, le-leb i j (omega arith))
      | no h ↦ rw (le-ltb i j (omega arith)) (elim (ℕ_discrete i j) [
        | yes e ↦ rw (eq-eqb i j e, le-leb i j (omega arith))
        | no e ↦ rw (ne_eqb i j e, lt-leb i j (omega arith))
      ])
    ]

module _ (n a b : ℕ) (A : a ≤ n) (B : b ≤ n) where
  pub below_rank : (s t : Bool) → below s a t b ≡ ltb (rank n s a) (rank n t b)
  below_rank false false = both_lt a b (n + a) (n + b) (λ h. omega arith) (λ h. omega arith)
  below_rank false true = sym (le-ltb (n + a) (n - b) (omega arith))
  below_rank true false = both_lt 0 (a + b) (n - a) (n + b) (λ h. omega arith) (λ h. omega arith)
  below_rank true true = both_lt b a (n - a) (n - b) (λ h. omega arith) (λ h. omega arith)

  level_rank : (s t : Bool) → level s a t b ≡ eqb (rank n s a) (rank n t b)
  level_rank false false = and-true (eqb a b) ∙ both_eq a b (n + a) (n + b) (λ h. omega arith) (λ h. omega arith)
  level_rank false true = both_zero a b (n + a) (n - b) (λ h. omega arith) (λ h. omega arith)
  level_rank true false = both_zero a b (n - a) (n + b) (λ h. omega arith) (λ h. omega arith)
  level_rank true true = and-true (eqb a b) ∙ both_eq a b (n - a) (n - b) (λ h. omega arith) (λ h. omega arith)

  pub le_rank : (s t : Bool) → (below s a t b || level s a t b) ≡ leb (rank n s a) (rank n t b)
  le_rank s t = rw (below_rank s t, level_rank s t) (either_leb (rank n s a) (rank n t b))

-- ---- two floats that compare as two numbers do
pub record Compare (x y : Float) (i j : ℕ) : Type 0 where
  pub less : lt x y ≡ ltb i j
  pub same : eq x y ≡ eqb i j
  pub most : le x y ≡ leb i j

Ranked : ℕ → ℕ → Float → ℕ → Type 0
Ranked c n x i = (s : Bool) × (a : ℕ) × (Sized c n x s a) × (a ≤ n) × (rank n s a ≡ i)

compare : (c n : ℕ) → 0 < c → 0 < n → (x y : Float) (i j : ℕ) → Ranked c n x i → Ranked c n y j → Compare x y i j
unfolding Ranked le
compare c n C N x y i j p q =
    let less : lt x y ≡ ltb i j = lt_sized c n C N x y p.0 p.1 q.0 q.1 p.2 q.2
    ∙ below_rank n p.1 q.1 p.3 q.3 p.0 q.0 ∙ rw (p.4, q.4) in
    let same : eq x y ≡ eqb i j = eq_sized c n C N x y p.0 p.1 q.0 q.1 p.2 q.2
    ∙ level_rank n p.1 q.1 p.3 q.3 p.0 q.0 ∙ rw (p.4, q.4) in
    record { less = less; same = same; most = rw (less, same) (either_leb i j) }

ranked : (c n : ℕ) (x : Float) (k : ℕ) → T (not (is_nan x)) → c ≡ den x * k → num x * k < n → (i : ℕ) × Ranked c n x i
unfolding Ranked Sized is_nan
ranked c n nan k t e l = absurd t
ranked c n (inf s) k t e l = (rank n s n, (s, n, (refl, refl), omega arith, refl))
ranked c n (fin s m g) k t e l =
    let a = m * up g * k in
    (rank n s a, (s, a, (l, (refl, rw (e, mul_comm (down g) k) (sym (mul_assoc (m * up g) k (down g))))), omega arith, refl))

-- ---- three floats at once, over one unit
pub record Ranks (x y z : Float) : Type 0 where
  pub i : ℕ
  pub j : ℕ
  pub k : ℕ
  pub xy : Compare x y i j
  pub yx : Compare y x j i
  pub yz : Compare y z j k
  pub xz : Compare x z i k

pub ranks : (x y z : Float) → T (not (is_nan x)) → T (not (is_nan y)) → T (not (is_nan z)) → Ranks x y z
ranks x y z p q r =
    let c = den x * den y * den z in
    let C : 0 < c = mul-pos (mul-pos (den_pos x) (den_pos y)) (den_pos z) in
    let n = suc (num x * (den y * den z) + num y * (den x * den z) + num z * (den x * den y)) in
    let N : 0 < n = omega arith in
    let i = ranked c n x (den y * den z) p (mul_assoc (den x) (den y) (den z)) (omega arith) in
    let j = ranked c n y (den x * den z) q (omega arith) (omega arith) in
    let k = ranked c n z (den x * den y) r (mul_comm (den x * den y) (den z)) (omega arith) in
    record {
      i = i.0;
      j = j.0;
      k = k.0;
      xy = compare c n C N x y i.0 j.0 i.1 j.1;
      yx = compare c n C N y x j.0 i.0 j.1 i.1;
      yz = compare c n C N y z j.0 k.0 j.1 k.1;
      xz = compare c n C N x z i.0 k.0 i.1 k.1;
    }
