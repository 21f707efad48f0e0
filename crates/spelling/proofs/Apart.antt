-- Numbers that are spelt alike are equal: a digit is known by its glyph, and a number by its digits, from the first or from the last.
-- Assumes nothing.
use mathlib.Core.Path.{◌≡◌, refl, sym, ap, ◌∙◌}
use mathlib.Core.List.{List, [], ◌∷◌, ◌++◌}
use Prim.Native.Nat.{ℕ, zero, suc, ◌+◌, ◌*◌, ◌/◌, ◌%◌, ◌^◌, ◌≤◌, ◌<◌}
use native.Mathlib.Omega.{arith}
use native.Mathlib.Nat.{div-div-eq-div-mul, div-add-mod', mod-lt}
use native.Mathlib.Decide.{dec_lt}
use borrow.Author.Tests.{lt-ltb, le-ltb}
use lib.ListN.{length, get_or, take, drop, length-append, get_or-append}
use lib.Seq.{take_at, drop_at}
use Rattle.spelling.specs.Text.{glyph, hex, decimal_in}
use Rattle.spelling.proofs.Digits.{decimal_short, longer, fewer}

-- ---- digits

low : (d : ℕ) → d < 10 → glyph d ≡ 48 + d
unfolding glyph
low d h = rw (lt-ltb d 10 h)

high : (d : ℕ) → 10 ≤ d → glyph d ≡ 87 + d
unfolding glyph
high d h = rw (le-ltb d 10 h)

glyph_apart : (c d : ℕ) → c < 16 → d < 16 → glyph c ≡ glyph d → c ≡ d
glyph_apart c d hc hd e =
    elim (dec_lt c 10) [
      | yes p ↦ elim (dec_lt d 10) [ yes q ↦ omega (arith, low c p, low d q) | no q ↦ absurd (omega (arith, low c p, high d (omega arith))) ]
      | no p ↦ elim (dec_lt d 10) [
        | yes q ↦ absurd (omega (arith, high c (omega arith), low d q))
        | no q ↦ omega (arith, high c (omega arith), high d (omega arith))
      ]
    ]

-- numbers with the same last digit in base b, and the same before it
last_same : (b v w : ℕ) → 0 < b → b ≤ 16 → v / b ≡ w / b → glyph (v % b) ≡ glyph (w % b) → v ≡ w
last_same b v w h l e g =
    let d : v % b ≡ w % b = glyph_apart (v % b) (w % b) (omega (arith, mod-lt v h)) (omega (arith, mod-lt w h)) g in
    sym (div-add-mod' v b) ∙ rw (e, d) (div-add-mod' w b)

-- ---- hex, from the first digit on

next_same : (m v w : ℕ) → v / (m * 16) ≡ w / (m * 16) → glyph (v / m % 16) ≡ glyph (w / m % 16) → v / m ≡ w / m
next_same m v w e g =
    last_same 16 (v / m) (w / m) (omega arith) (omega arith) (div-div-eq-div-mul v m 16 ∙ e ∙ sym (div-div-eq-div-mul w m 16)) g

pub hex_apart : (v w : ℕ) → v < 2 ^ 32 → w < 2 ^ 32 → hex v ≡ hex w → v ≡ w
unfolding hex
hex_apart v w hv hw e =
    let g : (k : ℕ) → get_or (hex v) k 0 ≡ get_or (hex w) k 0 = λ k. ap (λ (l : List ℕ). get_or l k 0) e in
    let d7 = next_same 0x1000_0000 v w (omega arith) (g 0) in
    let d6 = next_same 0x100_0000 v w d7 (g 1) in
    let d5 = next_same 0x10_0000 v w d6 (g 2) in
    let d4 = next_same 0x1_0000 v w d5 (g 3) in
    let d3 = next_same 0x1000 v w d4 (g 4) in
    let d2 = next_same 0x100 v w d3 (g 5) in
    let d1 = next_same 0x10 v w d2 (g 6) in
    last_same 16 v w (omega arith) (omega arith) d1 (g 7)

-- ---- decimal, from the last digit on

-- texts that are equal with one byte more
but_last : (a b : List ℕ) (x y : ℕ) → a ++ (x ∷ []) ≡ b ++ (y ∷ []) → (a ≡ b) × (x ≡ y)
but_last a b x y e =
    let l : length b ≡ length a = omega (arith, length-append a (x ∷ []), length-append b (y ∷ []), ap length e) in (
      sym (take_at a (x ∷ []) (length a) refl) ∙ ap (take (length a)) e ∙ take_at b (y ∷ []) (length a) l,
      ap (λ (t : List ℕ). get_or t 0 0) (sym (drop_at a (x ∷ []) (length a) refl) ∙ ap (drop (length a)) e ∙ drop_at b (y ∷ []) (length a) l),
    )

one_digit : (a : List ℕ) (x : ℕ) → length (a ++ (x ∷ [])) ≡ length a + 1
one_digit a x = length-append a (x ∷ [])

some_digit : (k n : ℕ) → 1 ≤ length (decimal_in k n)
unfolding decimal_in
some_digit zero n = omega arith
some_digit (suc k) n =
    elim (dec_lt n 10) [
      | yes p ↦ rw (decimal_short (suc k) n p) (omega arith)
      | no p ↦ rw (longer k n (omega arith), one_digit) (omega arith)
    ]

-- a number of one digit and one of more
short_long : (k m n : ℕ) → m < 10 → 10 ≤ n → decimal_in (suc k) m ≡ decimal_in (suc k) n → ⊥
short_long k m n hm hn e =
    let same = ap length (sym (decimal_short (suc k) m hm) ∙ e ∙ longer k n hn) in
    omega (arith, same, one_digit (decimal_in k (n / 10)) (glyph (n % 10)), some_digit k (n / 10))

first_same : (m n : ℕ) → m < 10 → n < 10 → glyph m ∷ [] ≡ glyph n ∷ [] → m ≡ n
first_same m n hm hn e = glyph_apart m n (omega arith) (omega arith) (ap (λ (l : List ℕ). get_or l 0 0) e)

pub decimal_apart : (k m n : ℕ) → m < 10 ^ (k + 1) → n < 10 ^ (k + 1) → decimal_in k m ≡ decimal_in k n → m ≡ n
unfolding decimal_in
decimal_apart zero m n hm hn e = first_same m n (omega arith) (omega arith) e
decimal_apart (suc k) m n hm hn e =
    elim (dec_lt m 10) [
      | yes p ↦ elim (dec_lt n 10) [
        | yes q ↦ first_same m n p q (sym (decimal_short (suc k) m p) ∙ e ∙ decimal_short (suc k) n q)
        | no q ↦ absurd (short_long k m n p (omega arith) e)
      ]
      | no p ↦ elim (dec_lt n 10) [
        | yes q ↦ absurd (short_long k n m q (omega arith) (sym e))
        | no q ↦ (let d = but_last (decimal_in k (m / 10)) (decimal_in k (n / 10)) (glyph (m % 10)) (glyph (n % 10))
            (sym (longer k m (omega arith)) ∙ e ∙ longer k n (omega arith)) in
            last_same 10 m n (omega arith) (omega arith) (decimal_apart k (m / 10) (n / 10) (fewer k m hm) (fewer k n hn) d.0) d.1)
      ]
    ]

-- the first digit is no 0
first_of : (a : List ℕ) (x : ℕ) → 1 ≤ length a → get_or (a ++ (x ∷ [])) 0 0 ≡ get_or a 0 0
first_of a x h = get_or-append a (x ∷ []) 0 0 h

pub no_leading_zero : (k n : ℕ) → 0 < n → n < 10 ^ (k + 1) → get_or (decimal_in k n) 0 0 ≡ 48 → ⊥
unfolding decimal_in
no_leading_zero zero n l h e = omega (arith, low n (omega arith))
no_leading_zero (suc k) n l h e =
    elim (dec_lt n 10) [
      | yes p ↦ omega (arith, low n p, sym (ap (λ (t : List ℕ). get_or t 0 0) (decimal_short (suc k) n p)) ∙ e)
      | no p ↦ no_leading_zero k (n / 10) (omega arith) (fewer k n h)
          (sym (first_of (decimal_in k (n / 10)) (glyph (n % 10)) (some_digit k (n / 10)))
          ∙ sym (ap (λ (t : List ℕ). get_or t 0 0) (longer k n (omega arith))) ∙ e)
    ]
