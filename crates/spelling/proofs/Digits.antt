-- The digits that the code puts are those of the definitions: of hex from the last one on, of decimal the last one behind those before it.
-- Assumes nothing.
use mathlib.Core.Path.{◌≡◌, refl, ◌∙◌}
use mathlib.Core.List.{List, [], ◌∷◌, ◌++◌, append_assoc}
use Prim.Native.Nat.{ℕ, zero, suc, ◌+◌, ◌-◌, ◌*◌, ◌/◌, ◌%◌, ◌^◌, ◌≤◌, ◌<◌}
use native.Mathlib.Omega.{arith}
use native.Mathlib.Nat.{add-zero, pow-succ', div-div-eq-div-mul}
use native.Mathlib.Numerals.{add-one}
use borrow.Author.Tests.{lt-ltb, le-ltb}
use lib.ListN.{length, set, take, drop}
use lib.Seq.{set-append_left, take-set-lt, take-suc-set, length-take-le}
use Rattle.spelling.specs.Text.{glyph, hex, decimal_in}
use Rattle.spelling.specs.inner.Steps.{written, PutsText}
use Rattle.spelling.proofs.Puts.{puts_both, puts_none}

less : (k : ℕ) → suc k - 1 ≡ k
less k = omega arith

-- ---- hex

-- the last k digits of a number, before a text
unfoldable pub digits : ℕ → ℕ → List ℕ → List ℕ
digits zero w t = t
digits (suc k) w t = digits k (w / 16) (glyph (w % 16) ∷ t)

eight_digits : (w : ℕ) → digits 8 w [] ≡ hex w
unfolding digits hex
eight_digits w = simp div-div-eq-div-mul

-- a byte put before a text that stands at a place
written_before : (p b : ℕ) (a t : List ℕ) → p + 1 + length a ≤ length t → set (written (p + 1) a t) p b ≡ written p (b ∷ a) t
unfolding written
written_before p b a t h =
    let e : p + 1 + length a ≡ p + suc (length a) = omega arith in
    let i : p < length (take (p + 1) t) = rw (length-take-le (p + 1) t (omega arith)) (omega arith) in
    let front = set-append_left (take (p + 1) t) (a ++ drop (p + suc (length a)) t) p b i in
    rw (e, front, ← take-set-lt (p + 1) t p b (omega arith), add-one p, take-suc-set t p b (omega arith), append_assoc)

digits_next : (i rest : ℕ) (t : List ℕ) → 0 < i → digits (i - 1) (rest / 16) (glyph (rest % 16) ∷ t) ≡ digits i rest t
unfolding digits
digits_next zero rest t h = absurd (omega arith)
digits_next (suc k) rest t h = rw (less k)

-- the last digits of w are put, and what is left of it, rest, has the first i
pub record Spelt (at w : ℕ) (area₀ : List ℕ) (i rest : ℕ) (area : List ℕ) : Type 0 where
  pub done : List ℕ
  pub eight : i + length done ≡ 8
  pub spells : digits i rest done ≡ hex w
  pub later : area ≡ written (at + i) done area₀

module _ (at w : ℕ) where
  pub spelt_none : (area : List ℕ) → Spelt at w area 8 w area
  spelt_none area = record { done = []; eight = refl; spells = eight_digits w; later = (puts_none (at + 8) area).later }

  module _ {area₀ : List ℕ} {i rest : ℕ} {area : List ℕ} (s : Spelt at w area₀ i rest area) where
    pub spelt_more : (g : ℕ) → g ≡ glyph (rest % 16) → 0 < i → at + 8 ≤ length area₀
        → Spelt at w area₀ (i - 1) (rest / 16) (set area (at + (i - 1)) g)
    spelt_more g e l h =
        let p : at + i ≡ at + (i - 1) + 1 = omega arith in
        let n = s.eight in
        record {
          done = g ∷ s.done;
          eight = omega arith;
          spells = rw e (digits_next i rest s.done l) ∙ s.spells;
          later = rw (s.later, p) (written_before (at + (i - 1)) g s.done area₀ (omega arith));
        }

    pub spelt_all : i ≤ 0 → PutsText at (hex w) area₀ (at + 8) area
    unfolding digits hex
    spelt_all h =
        let z : i ≡ 0 = omega arith in
        record { place = refl; later = s.later ∙ rw (z, add-zero at, rw z at s.spells) }

-- ---- decimal

pub decimal_short : (k n : ℕ) → n < 10 → decimal_in k n ≡ glyph n ∷ []
unfolding decimal_in
decimal_short zero n h = refl
decimal_short (suc k) n h = rw (lt-ltb n 10 h)

pub longer : (k n : ℕ) → 10 ≤ n → decimal_in (suc k) n ≡ decimal_in k (n / 10) ++ (glyph (n % 10) ∷ [])
unfolding decimal_in
longer k n h = rw (le-ltb n 10 h)

tenth : (n m : ℕ) → n < 10 * (10 * m) → n / 10 < 10 * m
tenth n m h = omega arith

-- without its last digit a number has one less
pub fewer : (k n : ℕ) → n < 10 ^ (suc k + 1) → n / 10 < 10 ^ (k + 1)
fewer k n h = rw (add-one k, pow-succ' 10 k) (tenth n (10 ^ k) (rw (add-one (suc k), pow-succ' 10 (suc k), pow-succ' 10 k) at h))

-- ---- as the code puts them

pub digits_fall : (k n : ℕ) → 10 ≤ n → n < 10 ^ (k + 1) → (0 < k) × (n / 10 < 10 ^ (k - 1 + 1))
digits_fall zero n l h = absurd (omega arith)
digits_fall (suc k) n l h = (omega arith, rw (less k) (fewer k n h))

long : (k n : ℕ) → 0 < k → 10 ≤ n → decimal_in k n ≡ decimal_in (k - 1) (n / 10) ++ (glyph (n % 10) ∷ [])
long zero n l h = absurd (omega arith)
long (suc k) n l h = rw (less k) (longer k n h)

module _ {at r : ℕ} {t t' : List ℕ} (k n g : ℕ) where
  pub puts_short : n < 10 → g ≡ glyph n → PutsText at (g ∷ []) t r t' → PutsText at (decimal_in k n) t r t'
  puts_short h e p = rw (decimal_short k n h, ← e) p

  pub puts_long : {r' : ℕ} {t'' : List ℕ} → 0 < k → 10 ≤ n → g ≡ glyph (n % 10) → at ≤ length t
      → PutsText at (decimal_in (k - 1) (n / 10)) t r t' → PutsText r (g ∷ []) t' r' t'' → PutsText at (decimal_in k n) t r' t''
  puts_long l h e room p q = rw (long k n l h, ← e) (puts_both p q room)
