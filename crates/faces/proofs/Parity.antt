-- The weight of a triangle by the parity of its falling pairs, which the code counts as the definition does. Assumes nothing.
use mathlib.Core.Path.{◌≡◌, refl, sym, ◌∙◌}
use mathlib.Core.Bool.{Bool, true, false, cond}
use Prim.Native.Nat.{ℕ, ◌+◌, ◌%◌, ◌≤◌}
use native.Mathlib.Decide.{ℕ_discrete}
use native.Mathlib.Omega.{arith}
use borrow.Author.Tests.{eq-eqb, ne_eqb}
use lib.Dec.{eqb, ltb}
use mir.Val.{bool_byte}
use Rattle.ids.specs.Triangles.{Triangle}
use Rattle.ids.specs.FaceNet.{falls, face_use}
use Rattle.ids.proofs.Bits.{byte_bit, byte_small}

pub weight_small : (b : Bool) → cond b 65536 1 ≤ 65536
weight_small true = omega arith
weight_small false = omega arith

module _ (t : Triangle) where
  -- the pairs that fall, as the code counts them
  abbrev pub fallen : ℕ
  fallen = bool_byte (ltb t.b t.a) + (bool_byte (ltb t.c t.b) + bool_byte (ltb t.c t.a))

  fallen_falls : fallen ≡ falls t
  unfolding falls
  fallen_falls = omega (arith, byte_bit (ltb t.b t.a), byte_bit (ltb t.c t.b), byte_bit (ltb t.c t.a))

  pub fallen_small : fallen ≤ 3
  fallen_small = omega (arith, byte_small (ltb t.b t.a), byte_small (ltb t.c t.b), byte_small (ltb t.c t.a))

  pub fallen_up : eqb (fallen % 2) 0 ≡ (face_use t).up
  unfolding face_use
  fallen_up = rw fallen_falls refl

  -- a number that is 0 just where the pairs that fall are even says the same
  pub even_up : (x : ℕ) → (x ≡ 0 → fallen % 2 ≡ 0) → (fallen % 2 ≡ 0 → x ≡ 0) → eqb x 0 ≡ (face_use t).up
  even_up x f g = elim (ℕ_discrete x 0) [
    | yes e ↦ eq-eqb x 0 e ∙ sym (eq-eqb (fallen % 2) 0 (f e)) ∙ fallen_up
    | no n ↦ ne_eqb x 0 n ∙ sym (ne_eqb (fallen % 2) 0 (λ e. n (g e))) ∙ fallen_up
  ]
