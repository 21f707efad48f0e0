-- The two forms keep the laws of a form. Assumes nothing.
use mathlib.Core.Path.{◌≡◌, refl}
use Prim.Native.Nat.{ℕ, ◌+◌, ◌*◌, ◌/◌, ◌%◌}
use native.Mathlib.Omega.{arith}
use Rattle.slots.specs.inner.Forms.{FormLaws, wide, narrow}

whole : (x : ℕ) → x % 4294967296 + 4294967296 * (x / 4294967296) ≡ x
whole x = omega arith

pub wide_laws : FormLaws wide
wide_laws = record {
  told = λ f g h.
      rw (h 0 (omega arith), h 1 (omega arith), h 2 (omega arith), h 3 (omega arith), h 4 (omega arith), h 5 (omega arith));
  back = λ k i. record { x = whole k.x i; y = whole k.y i; z = whole k.z i };
  long = λ k. refl;
  marked = λ x v free small. omega arith;
  upper = λ x v free small. omega arith;
}

pub narrow_laws : FormLaws narrow
narrow_laws = record {
  told = λ f g h. rw (h 0 (omega arith), h 1 (omega arith), h 2 (omega arith));
  back = λ k. refl;
  long = λ k. refl;
  marked = λ x v free small. omega arith;
  upper = λ x v free small. omega arith;
}
