-- Flags and their numbers: each comes back from the other, so contents that a file can hold are those of a unit, vertices, ids and flags.
-- Assumes nothing.
use Rattle.std.specs.Prelude.{Option, Some, None}
use mathlib.Core.Path.{◌≡◌, refl}
use mathlib.Core.Bool.{Bool, true, false, cond}
use Prim.Native.Nat.{ℕ, zero, suc, ◌≤◌}
use native.Mathlib.Omega.{arith}
use borrow.Author.Tests.{leb-true}
use denote.Floats.{is_true}
use lib.Dec.{T, eqb, leb}
use Rattle.ids.proofs.Same.{both}
use Rattle.record.specs.declared.ProfileDefect.{ProfileDefect}
use Rattle.record.specs.Numbers.{defect_number, profile_number, profile_at, flags_fit}
use Rattle.meshfile.specs.Format.{Contents}
use Rattle.meshfile.specs.Writing.{contents_of}

pub clip_back : (clip : Bool) → eqb (cond clip 1 0) 1 ≡ clip
clip_back true = refl
clip_back false = refl

pub profile_back : (p : Option ProfileDefect) → profile_at (profile_number p) ≡ p
unfolding profile_at profile_number defect_number
profile_back None = refl
profile_back (Some ProfileDefect.SelfIntersecting) = refl
profile_back (Some ProfileDefect.Degenerate) = refl
profile_back (Some ProfileDefect.HoleOutside) = refl
profile_back (Some ProfileDefect.Overlapping) = refl

pub flags_known : (clip : Bool) (p : Option ProfileDefect) → T (flags_fit (cond clip 1 0) (profile_number p))
unfolding flags_fit profile_number defect_number
flags_known true None = tt
flags_known true (Some ProfileDefect.SelfIntersecting) = tt
flags_known true (Some ProfileDefect.Degenerate) = tt
flags_known true (Some ProfileDefect.HoleOutside) = tt
flags_known true (Some ProfileDefect.Overlapping) = tt
flags_known false None = tt
flags_known false (Some ProfileDefect.SelfIntersecting) = tt
flags_known false (Some ProfileDefect.Degenerate) = tt
flags_known false (Some ProfileDefect.HoleOutside) = tt
flags_known false (Some ProfileDefect.Overlapping) = tt

-- known values come back from what they stand for
clip_number : (c : ℕ) → c ≤ 1 → cond (eqb c 1) 1 0 ≡ c
clip_number zero h = refl
clip_number (suc zero) h = refl
clip_number (suc (suc c)) h = absurd (omega arith)

defect_number_lem : (d : ℕ) → d ≤ 4 → profile_number (profile_at d) ≡ d
unfolding profile_at profile_number defect_number
defect_number_lem zero h = refl
defect_number_lem (suc zero) h = refl
defect_number_lem (suc (suc zero)) h = refl
defect_number_lem (suc (suc (suc zero))) h = refl
defect_number_lem (suc (suc (suc (suc zero)))) h = refl
defect_number_lem (suc (suc (suc (suc (suc d))))) h = absurd (omega arith)

flags_within : (c d : ℕ) → T (flags_fit c d) → (c ≤ 1) × (d ≤ 4)
unfolding flags_fit
flags_within c d h =
    let x = both (leb c 1) (leb d 4) (is_true _ h) in
    (leb-true c 1 x.0, leb-true d 4 x.1)

-- of contents with known flags
pub number_back : (m : Contents) → T (flags_fit m.clip m.defect)
    → (cond (eqb m.clip 1) 1 0 ≡ m.clip) × (profile_number (profile_at m.defect) ≡ m.defect)
number_back m h =
    let known = flags_within m.clip m.defect h in
    (clip_number m.clip known.0, defect_number_lem m.defect known.1)

pub contents_back : (m : Contents) → T (flags_fit m.clip m.defect)
    → contents_of m.unit m.vertices m.ids (eqb m.clip 1) (profile_at m.defect) ≡ m
contents_back m h =
    let back = number_back m h in
    λ i. record { unit = m.unit; vertices = m.vertices; ids = m.ids; clip = back.0 i; defect = back.1 i }
