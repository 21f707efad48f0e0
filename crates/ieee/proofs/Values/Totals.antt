-- The exact sum of ±a / c and ±b / c is one fraction over c, with a sign and a size. Assumes nothing.
use mathlib.Core.Path.{◌≡◌, refl, sym, ◌∙◌, ap}
use mathlib.Core.Bool.{Bool, true, false}
use Prim.Native.Nat.{ℕ, zero, suc, ◌+◌, ◌-◌, ◌≤◌, ◌<◌}
use native.Mathlib.Decide.{dec_lt}
use native.Mathlib.Omega.{arith}
use borrow.Author.Tests.{lt-ltb, le-ltb}
use lib.Dec.{T}
use lib.IntN.{pos, neg_ℤ, ◌+ℤ◌, +ℤ_comm, neg_ℤ-+ℤ, neg_ℤ-neg_ℤ}
use lib.Ieee.{Format, round, sum}
use Rattle.ieee.specs.inner.Wholes.{signed}
use Rattle.ieee.proofs.Order.Ranks.{rank}

-- ---- a - b, by which is larger
minus_le : (a b : ℕ) → b ≤ a → pos a +ℤ neg_ℤ (pos b) ≡ pos (a - b)
minus_le a zero h = ap pos (omega arith)
minus_le a (suc b) h = rw (le-ltb a (suc b) h)

minus_ge : (a b : ℕ) → a ≤ b → pos a +ℤ neg_ℤ (pos b) ≡ neg_ℤ (pos (b - a))
minus_ge a b h =
    let flip : neg_ℤ (pos a +ℤ neg_ℤ (pos b)) ≡ pos (b - a) =
    neg_ℤ-+ℤ (pos a) (neg_ℤ (pos b)) ∙ rw (neg_ℤ-neg_ℤ (pos b), +ℤ_comm (neg_ℤ (pos a)) (pos b)) (minus_le b a h) in
    sym (neg_ℤ-neg_ℤ (pos a +ℤ neg_ℤ (pos b))) ∙ ap neg_ℤ flip

-- -0 only comes of two negative zeros. `placed` is the same sum in ranks, which stand n higher.
pub record Total (f : Format) (s : Bool) (a : ℕ) (t : Bool) (b : ℕ) : Type 0 where
  pub sign : Bool
  pub size : ℕ
  pub is : (c : ℕ) → sum f s a t b c ≡ round f sign size c
  pub total : signed sign size ≡ signed s a +ℤ signed t b
  pub plus : (T s → 0 < a) → T sign → 0 < size
  pub placed : (n : ℕ) → a + b ≤ n → (size ≤ n) × (rank n sign size + n ≡ rank n s a + rank n t b)

pub total_of : (f : Format) (s : Bool) (a : ℕ) (t : Bool) (b : ℕ) → Total f s a t b
unfolding sum
total_of f false a false b =
    record { sign = false; size = a + b; is = λ c. refl; total = refl; plus = λ p q. absurd q; placed = λ n l. (omega arith, omega arith) }
total_of f true a true b =
    record {
      sign = true;
      size = a + b;
      is = λ c. refl;
      total = neg_ℤ-+ℤ (pos a) (pos b);
      plus = λ p q. omega (arith, p tt);
      placed = λ n l. (omega arith, omega arith);
    }
total_of f false a true b =
    elim (dec_lt a b) [
      | yes h ↦ record {
        sign = true;
        size = b - a;
        is = λ c. rw (lt-ltb a b h);
        total = sym (minus_ge a b (omega arith));
        plus = λ p q. omega arith;
        placed = λ n l. (omega arith, omega arith);
      }
      | no h ↦ record {
        sign = false;
        size = a - b;
        is = λ c. rw (le-ltb a b (omega arith));
        total = sym (minus_le a b (omega arith));
        plus = λ p q. absurd q;
        placed = λ n l. (omega arith, omega arith);
      }
    ]
total_of f true a false b =
    elim (dec_lt b a) [
      | yes h ↦
          record {
            sign = true;
            size = a - b;
            is = λ c. rw (le-ltb a b (omega arith), lt-ltb b a h);
            total = sym (+ℤ_comm (neg_ℤ (pos a)) (pos b) ∙ minus_ge b a (omega arith));
            plus = λ p q. omega arith;
            placed = λ n l. (omega arith, omega arith);
          }
      | no h ↦
          record {
            sign = false;
            size = b - a;
            is = up (dec_lt a b) (omega arith);
            total = sym (+ℤ_comm (neg_ℤ (pos a)) (pos b) ∙ minus_le b a (omega arith));
            plus = λ p q. absurd q;
            placed = λ n l. (omega arith, omega arith);
          }
    ]
  where
    up : Dec (a < b) → a ≤ b → (c : ℕ) → sum f true a false b c ≡ round f false (b - a) c
    up (yes h) l c = rw (lt-ltb a b h)
    up (no h) l c = rw (le-ltb a b (omega arith), le-ltb b a l) (ap (λ (n : ℕ). round f false n c) (omega arith))
