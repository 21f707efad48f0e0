-- Two lists of uses that use every key as often, with sums of equal magnitude, have as many keys that pass any test, and one largest sum.
-- Assumes nothing.
use mathlib.Core.Path.{◌≡◌, sym, ap, ◌∙◌}
use mathlib.Core.Bool.{Bool, true}
use mathlib.Core.List.{List}
use Prim.Native.Nat.{ℕ, ◌*◌, ◌≤◌, ◌<◌}
use native.Mathlib.Omega.{arith}
use native.Mathlib.Decide.{dec_lt}
use lib.Dec.{ltb}
use lib.IntN.{nat_abs}
use Rattle.ids.specs.Uses.{Use, bit, times, uses, signed_sum, keys, keys_that, largest_sum}
use Rattle.ids.proofs.Keys.{keys_once, max_each, max_reached}
use Rattle.ids.proofs.Times.{passing, passing_length, passing_times, same_length}

-- every key is used as often in both, and its sums differ at most in sign
pub record Alike {K : Type 0} (same : K → K → Bool) (es fs : List (Use K)) : Type 0 where
  pub as_often : (k : K) → uses same k es ≡ uses same k fs
  pub as_large : (k : K) → nat_abs (signed_sum same k es) ≡ nat_abs (signed_sum same k fs)

module _ {K : Type 0} (same : K → K → Bool) (same-eq : (a b : K) → same a b ≡ true → a ≡ b) (same_refl : (a : K) → same a a ≡ true) where
  alike_back : {es fs : List (Use K)} → Alike same es fs → Alike same fs es
  alike_back h = record { as_often = λ k. sym (h.as_often k); as_large = λ k. sym (h.as_large k) }

  module _ (test : ℕ → ℕ → Bool) where
    abbrev passes : List (Use K) → K → Bool
    passes es k = test (uses same k es) (nat_abs (signed_sum same k es))

    -- a key stands among those that pass once or never
    passing_once : (es : List (Use K)) (k : K)
        → times same k (passing (passes es) (keys same es)) ≡ bit (passes es k) * bit (ltb 0 (uses same k es))
    passing_once es k =
        passing_times same same-eq same_refl (passes es) k (keys same es)
        ∙ ap (λ (n : ℕ). bit (passes es k) * n) (keys_once same same-eq same_refl k es)

    pub alike_keys : {es fs : List (Use K)} → Alike same es fs → keys_that same test es ≡ keys_that same test fs
    unfolding keys_that
    alike_keys {es} {fs} h =
        sym (passing_length (passes es) (keys same es))
        ∙ same_length same same-eq same_refl (passing (passes es) (keys same es)) (passing (passes fs) (keys same fs))
        (λ k. passing_once es k ∙ rw (h.as_often k, h.as_large k) (sym (passing_once fs k)))
        ∙ passing_length (passes fs) (keys same fs)

  largest_within : (es fs : List (Use K)) → Alike same es fs → largest_sum same es ≤ largest_sum same fs
  unfolding largest_sum
  largest_within es fs h = elim (dec_lt 0 (largest_sum same es)) [
    | yes some ↦ (let w = max_reached same same-eq same_refl (λ k. nat_abs (signed_sum same k es)) es some in
        let used : 0 < uses same w.0 fs = omega (arith, w.1, h.as_often w.0) in
        omega (arith, w.2, h.as_large w.0, max_each same same-eq same_refl (λ k. nat_abs (signed_sum same k fs)) fs w.0 used))
    | no none ↦ omega arith
  ]

  pub alike_largest : {es fs : List (Use K)} → Alike same es fs → largest_sum same es ≡ largest_sum same fs
  alike_largest {es} {fs} h = omega (arith, largest_within es fs h, largest_within fs es (alike_back h))
