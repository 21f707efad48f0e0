-- The corners that were put, a triangle at a time: those so far stand in front of the area. Assumes nothing.
use mathlib.Core.Path.{◌≡◌, refl, sym, ap, ◌∙◌}
use mathlib.Core.List.{List, [], ◌∷◌, ◌++◌, append_assoc}
use Prim.Native.Nat.{ℕ, suc, ◌+◌, ◌*◌, ◌-◌, ◌≤◌}
use native.Mathlib.Numerals.{add-one}
use native.Mathlib.Omega.{arith}
use borrow.Rule.Slice.PartMut.{put_mid, post_of}
use lib.ListN.{length, take, drop, length-append}
use lib.Seq.{length-take-le, take_all, take_at}
use lib.Ieee.{Float, binary32, of_bits}
use Rattle.words.specs.Words.{words_in, floats_of}
use Rattle.words.proofs.Parts.{part_is}
use Rattle.ids.specs.Triangles.{over_numbers}
use Rattle.stl.specs.Stl.{stl_length, corners_at, corners_to}

floats_append : (a b : List ℕ) → floats_of (a ++ b) ≡ floats_of a ++ floats_of b
unfolding floats_of
floats_append [] b = refl
floats_append (w ∷ a) b = ap (λ (l : List Float). of_bits binary32 w ∷ l) (floats_append a b)

-- what was put in the middle stands behind what stands in front
front_put : {A : Type 0} (a k : ℕ) (xs ys : List A) → a ≤ length xs → take (a + length ys) (put_mid a k xs ys) ≡ take a xs ++ ys
front_put a k xs ys h =
    let long : length (take a xs ++ ys) ≡ a + length ys =
    length-append (take a xs) ys ∙ ap (λ (n : ℕ). n + length ys) (length-take-le a xs h) in
    ap (take (a + length ys)) (sym (append_assoc (take a xs) ys (post_of a k xs)))
    ∙ take_at (take a xs ++ ys) (post_of a k xs) (a + length ys) long

module _ (bytes : List ℕ) where
  -- the corners of the first t triangles stand in front
  unfoldable pub Stand : ℕ → List Float → Type 0
  Stand t area = take (9 * t) area ≡ floats_of (corners_to bytes t)

  pub stand_none : (area : List Float) → Stand 0 area
  unfolding Stand over_numbers floats_of
  stand_none area = refl

  pub stand_next : (t at : ℕ) (area new : List Float) → 9 * t ≤ length area → length new ≡ 9
      → new ≡ floats_of (words_in (take (at + 36 - at) (drop at bytes))) → Stand t area → at ≡ stl_length t + 12
      → Stand (t + 1) (put_mid (9 * t) (9 * t + 9 - 9 * t) area new)
  unfolding Stand over_numbers
  stand_next t at area new h long put s place =
      let next : 9 * suc t ≡ 9 * t + length new = omega (arith, long) in
      let is : new ≡ floats_of (corners_at bytes t) = rw (← place, ← part_is at 36 bytes) put in
      rw (add-one t, next)
      (front_put (9 * t) (9 * t + 9 - 9 * t) area new h ∙ ap (λ (l : List Float). l ++ new) s
      ∙ ap (λ (l : List Float). floats_of (corners_to bytes t) ++ l) is ∙ sym (floats_append (corners_to bytes t) (corners_at bytes t)))

  pub stand_all : (t : ℕ) (area : List Float) → length area ≤ 9 * t → Stand t area → area ≡ floats_of (corners_to bytes t)
  unfolding Stand
  stand_all t area h s = sym (take_all (9 * t) area h) ∙ s
