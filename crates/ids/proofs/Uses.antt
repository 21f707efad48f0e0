-- What two lists of uses put together say of a key; and how large a signed sum can be: at most as large as there are uses, and a face's at
-- most as large as there are ids. Assumes nothing.
use mathlib.Core.Path.{◌≡◌, refl, sym, ap, ◌∙◌}
use mathlib.Core.Bool.{Bool, true, false, cond}
use mathlib.Core.List.{List, [], ◌∷◌, ◌++◌}
use Prim.Native.Nat.{ℕ, zero, suc, ◌+◌, ◌≤◌}
use native.Mathlib.Omega.{arith}
use lib.IntN.{ℤ, pos, negsuc, suc_ℤ, pred_ℤ, nat_abs, ◌+ℤ◌, suc_ℤ-+ℤ, pred_ℤ-+ℤ, +ℤ_idl}
use lib.ListN.{length, length-append}
use Rattle.ids.specs.Triangles.{Triangle, distinct, over_triangles}
use Rattle.ids.specs.Uses.{Use, counting, uses, signed_sum, keys, max_by, largest_sum}
use Rattle.ids.specs.FaceNet.{same_face, face_use, face, faces, max_abs}

suc_size : (z : ℤ) → nat_abs (suc_ℤ z) ≤ nat_abs z + 1
suc_size (pos a) = omega arith
suc_size (negsuc zero) = omega arith
suc_size (negsuc (suc a)) = omega arith

pred_size : (z : ℤ) → nat_abs (pred_ℤ z) ≤ nat_abs z + 1
pred_size (pos zero) = omega arith
pred_size (pos (suc a)) = omega arith
pred_size (negsuc a) = omega arith

counting_size : (b up : Bool) (z : ℤ) → nat_abs (counting b up z) ≤ nat_abs z + 1
unfolding counting
counting_size false up z = omega arith
counting_size true true z = suc_size z
counting_size true false z = pred_size z

max_by_below : {K : Type 0} (f : K → ℕ) (m : ℕ) → ((k : K) → f k ≤ m) → (ks : List K) → max_by f ks ≤ m
unfolding max_by
max_by_below f m h [] = omega arith
max_by_below f m h (k ∷ ks) = omega (arith, h k, max_by_below f m h ks)

counting_sum : (mine up : Bool) (y z : ℤ) → counting mine up (y +ℤ z) ≡ counting mine up y +ℤ z
unfolding counting
counting_sum false up y z = refl
counting_sum true true y z = sym (suc_ℤ-+ℤ y z)
counting_sum true false y z = sym (pred_ℤ-+ℤ y z)

module _ {K : Type 0} (same : K → K → Bool) where
  -- how often a key is used in two lists put together, and its sum
  pub uses_append : (k : K) (es fs : List (Use K)) → uses same k (es ++ fs) ≡ uses same k es + uses same k fs
  unfolding uses
  uses_append k [] fs = omega arith
  uses_append k (e ∷ es) fs = omega (arith, uses_append k es fs)

  pub signed_append : (k : K) (es fs : List (Use K)) → signed_sum same k (es ++ fs) ≡ signed_sum same k es +ℤ signed_sum same k fs
  unfolding signed_sum
  signed_append k [] fs = sym (+ℤ_idl (signed_sum same k fs))
  signed_append k (e ∷ es) fs =
      ap (counting (same k e.key) e.up) (signed_append k es fs)
      ∙ counting_sum (same k e.key) e.up (signed_sum same k es) (signed_sum same k fs)

  signed_below : (k : K) (es : List (Use K)) → nat_abs (signed_sum same k es) ≤ length es
  unfolding signed_sum
  signed_below k [] = omega arith
  signed_below k (e ∷ es) = omega (arith, counting_size (same k e.key) e.up (signed_sum same k es), signed_below k es)

  largest_below : (es : List (Use K)) → largest_sum same es ≤ length es
  unfolding largest_sum
  largest_below es = max_by_below (λ k. nat_abs (signed_sum same k es)) (length es) (λ k. signed_below k es) (keys same es)

face_one : (t : Triangle) → length (face t) ≤ 1
unfolding face
face_one t = go (distinct t)
  where
    go : (b : Bool) → length (cond b (face_use t ∷ []) []) ≤ 1
    go true = omega arith
    go false = omega arith

faces_below : (ids : List ℕ) → length (faces ids) ≤ length ids
unfolding over_triangles
faces_below [] = omega arith
faces_below (a ∷ []) = omega arith
faces_below (a ∷ b ∷ []) = omega arith
faces_below (a ∷ b ∷ c ∷ ids) = rw length-append (omega (arith, face_one (record { a = a; b = b; c = c }), faces_below ids))

pub max_abs_below : (ids : List ℕ) → max_abs ids ≤ length ids
unfolding max_abs
max_abs_below ids = omega (arith, largest_below same_face (faces ids), faces_below ids)
