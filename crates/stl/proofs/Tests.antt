-- The tests of a file in their order, and what a file that passes them is. Assumes nothing.
use mathlib.Core.Path.{◌≡◌, sym, ◌∙◌}
use mathlib.Core.List.{List}
use Prim.Native.Nat.{ℕ, ◌≤◌, ◌<◌}
use native.Mathlib.Omega.{arith}
use native.Mathlib.Decide.{dec_lt, ℕ_discrete}
use borrow.Author.Tests.{lt-ltb, le-ltb, eq-eqb, ne_eqb}
use lib.ListN.{length}
use Rattle.std.specs.Prelude.{Result, Ok, Err}
use Rattle.ids.specs.declared.refusal.Refusal.{Refusal}
use Rattle.stl.specs.Stl.{stl_count, stl_length, stl_of}
use Rattle.stl.specs.Worth.{IsStl, TakenExactly}

module _ (most : ℕ) (bytes : List ℕ) where
  pub under_84 : length bytes < 84 → stl_of most bytes ≡ Err Refusal.File
  unfolding stl_of
  under_84 h = rw (lt-ltb (length bytes) 84 h)

  module _ (whole : 84 ≤ length bytes) where
    pub too_many_lem : most < stl_count bytes → stl_of most bytes ≡ Err Refusal.FileTooLarge
    unfolding stl_of
    too_many_lem h = rw (le-ltb (length bytes) 84 whole, lt-ltb most (stl_count bytes) h)

    module _ (few : stl_count bytes ≤ most) where
      pub wrong_length : (length bytes ≡ stl_length (stl_count bytes) → ⊥) → stl_of most bytes ≡ Err Refusal.File
      unfolding stl_of
      wrong_length h =
          rw (
            le-ltb (length bytes) 84 whole,
            le-ltb most (stl_count bytes) few,
            ne_eqb (length bytes) (stl_length (stl_count bytes)) h,
          )

      pub right_length : length bytes ≡ stl_length (stl_count bytes) → stl_of most bytes ≡ Ok (stl_count bytes)
      unfolding stl_of
      right_length h =
          rw (
            le-ltb (length bytes) 84 whole,
            le-ltb most (stl_count bytes) few,
            eq-eqb (length bytes) (stl_length (stl_count bytes)) h,
          )

-- ---- exactly these are taken

no_refusal : {A : Type 0} (k : Refusal) (n : ℕ) → ◌≡◌ {A = Result ℕ Refusal} (Err k) (Ok n) → A
no_refusal k n e = let y : ◌≡◌ {A = ℕ} 0 1 = cc in absurd (omega arith)

same_number : (k n : ℕ) → ◌≡◌ {A = Result ℕ Refusal} (Ok k) (Ok n) → k ≡ n
same_number k n e = cc

module _ (most n : ℕ) (bytes : List ℕ) where
  taken_is : stl_of most bytes ≡ Ok n → IsStl most n bytes
  taken_is e = go (dec_lt (length bytes) 84) (dec_lt most (stl_count bytes)) (ℕ_discrete (length bytes) (stl_length (stl_count bytes)))
    where
      go : Dec (length bytes < 84) → Dec (most < stl_count bytes) → Dec (length bytes ≡ stl_length (stl_count bytes)) → IsStl most n bytes
      go (yes h) many right = no_refusal Refusal.File n (sym (under_84 most bytes h) ∙ e)
      go (no h) (yes many) right = no_refusal Refusal.FileTooLarge n (sym (too_many_lem most bytes (omega arith) many) ∙ e)
      go (no h) (no few) (no wrong) = no_refusal Refusal.File n (sym (wrong_length most bytes (omega arith) (omega arith) wrong) ∙ e)
      go (no h) (no few) (yes right) =
          let count : stl_count bytes ≡ n = same_number _ _ (sym (right_length most bytes (omega arith) (omega arith) right) ∙ e) in
          record { size = rw (← count) right; count = count; few = omega (arith, count) }

  is_taken : IsStl most n bytes → stl_of most bytes ≡ Ok n
  is_taken s =
      rw (← s.count)
      (right_length most bytes (omega (arith, s.size)) (omega (arith, s.count, s.few)) (rw s.count s.size))

pub taken_exactly : TakenExactly
taken_exactly most n bytes = record { only_these = taken_is most n bytes; all_these = is_taken most n bytes }
