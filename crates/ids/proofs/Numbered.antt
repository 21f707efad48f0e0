-- The triangles in order and the triangles by number are the same. Assumes nothing.
use mathlib.Core.Path.{◌≡◌, refl, sym, ap, ◌∙◌}
use mathlib.Core.List.{List, [], ◌∷◌, ◌++◌, append_assoc}
use Prim.Native.Nat.{ℕ, zero, suc, ◌+◌, ◌*◌}
use native.Mathlib.Omega.{arith}
use Rattle.ids.specs.Triangles.{Triangle, over_triangles, triangle, triangle_count, over_numbers}
use Rattle.ids.proofs.Triangles.{append_none}

module _ {A : Type 0} where
  -- the first number first
  first_number : (g : ℕ → List A) (n : ℕ) → over_numbers g (suc n) ≡ g 0 ++ over_numbers (λ t. g (suc t)) n
  unfolding over_numbers
  first_number g zero = sym (append_none (g 0))
  first_number g (suc n) =
      ap (λ (l : List A). l ++ g (suc n)) (first_number g n) ∙ append_assoc (g 0) (over_numbers (λ t. g (suc t)) n) (g (suc n))

  same_numbers : (g h : ℕ → List A) (n : ℕ) → ((t : ℕ) → g t ≡ h t) → over_numbers g n ≡ over_numbers h n
  unfolding over_numbers
  same_numbers g h zero e = refl
  same_numbers g h (suc n) e = rw (same_numbers g h n e, e n)

-- behind the first triangle, the numbers start anew
pub triangle_behind : (a b c : ℕ) (ids : List ℕ) (t : ℕ) → triangle (a ∷ b ∷ c ∷ ids) (suc t) ≡ triangle ids t
unfolding triangle
triangle_behind a b c ids t =
    let e : 3 * suc t ≡ suc (suc (suc (3 * t))) = omega arith in
    let f : 3 * suc t + 1 ≡ suc (suc (suc (3 * t + 1))) = omega arith in
    let g : 3 * suc t + 2 ≡ suc (suc (suc (3 * t + 2))) = omega arith in
    rw (f, g, e)

pub by_number : {A : Type 0} (f : Triangle → List A) (ids : List ℕ)
    → over_triangles f ids ≡ over_numbers (λ t. f (triangle ids t)) (triangle_count ids)
unfolding over_triangles over_numbers triangle
by_number f [] = refl
by_number f (a ∷ []) = refl
by_number f (a ∷ b ∷ []) = refl
by_number f (a ∷ b ∷ c ∷ ids) =
    let l : List ℕ = a ∷ b ∷ c ∷ ids in
    let n : triangle_count l ≡ suc (triangle_count ids) = omega arith in
    rw (
      n,
      first_number (λ t. f (triangle l t)) (triangle_count ids),
      same_numbers (λ t. f (triangle l (suc t))) (λ t. f (triangle ids t)) (triangle_count ids) (λ t. ap f (triangle_behind a b c ids t)),
    )
    (ap (λ (r : List _). f (triangle l 0) ++ r) (by_number f ids))
