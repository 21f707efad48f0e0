-- What stands behind the ids: nothing, or kind 4 with known values and nothing behind it. Assumes nothing.
use Rattle.std.specs.Prelude.{Result, Ok, Err}
use mathlib.Core.Path.{◌≡◌, refl, sym, ap, ◌∙◌}
use mathlib.Core.Bool.{Bool, true, false, cond}
use mathlib.Core.List.{List, [], ◌∷◌}
use Prim.Native.Nat.{ℕ, ◌+◌, ◌≤◌, ◌<◌}
use native.Mathlib.Omega.{arith}
use borrow.Author.Tests.{ltb-false, lt-ltb, le-ltb}
use lib.Dec.{ltb}
use lib.ListN.{length}
use Rattle.record.specs.Numbers.{flags_fit}
use Rattle.words.specs.Words.{byte}
use Rattle.meshfile.specs.declared.FlagValues.{FlagValues}
use Rattle.meshfile.specs.Format.{flag_values, front_of, flags_in, ending_of}
use Rattle.meshfile.proofs.Fronts.{Record, record_of, two_bytes}
use Rattle.ids.specs.declared.refusal.Refusal.{Refusal}

pub flags_front : (n : ℕ) (bytes : List ℕ) → front_of 4 bytes ≡ Ok n → (n ≡ 2) × (8 ≤ length bytes)
flags_front n bytes h =
    let r = record_of 4 n bytes h in
    let two = two_bytes n r.fits in
    (two, omega (arith, r.room))

pub ending_none : (bytes : List ℕ) → length bytes ≡ 0 → Ok (flag_values 0 0) ≡ ending_of bytes
unfolding ending_of
ending_none [] h = refl
ending_none (b ∷ bytes) h = absurd (omega arith)

-- of some bytes the front decides that is found
pub ending_by : (bytes : List ℕ) (k found : Result ℕ Refusal) → (length bytes ≡ 0 → ⊥) → k ≡ front_of 4 bytes → k ≡ found
    → flags_in found bytes ≡ ending_of bytes
unfolding ending_of
ending_by [] k found some e h = absurd (some refl)
ending_by (b ∷ bytes) k found some e h = ap (λ (x : Result ℕ Refusal). flags_in x (b ∷ bytes)) (sym h ∙ e)

pub ending_refused : (bytes : List ℕ) (e : Refusal) → (length bytes ≡ 0 → ⊥) → Err e ≡ front_of 4 bytes → Err e ≡ ending_of bytes
unfolding flags_in
ending_refused bytes e some h = ending_by bytes (Err e) (Err e) some h refl

-- kind 4, test by test
module _ (n c d : ℕ) (bytes : List ℕ) (clip : c ≡ byte bytes 6) (defect : d ≡ byte bytes 7) where
  pub flags_unknown : flags_fit c d ≡ false → Err Refusal.File ≡ flags_in (Ok n) bytes
  unfolding flags_in
  flags_unknown h = rw (← clip, ← defect, h)

  pub bytes_behind : flags_fit c d ≡ true → 6 + n < length bytes → Err Refusal.File ≡ flags_in (Ok n) bytes
  unfolding flags_in
  bytes_behind h r = rw (← clip, ← defect, h, lt-ltb (6 + n) (length bytes) r)

  pub flags_last : flags_fit c d ≡ true → length bytes ≤ 6 + n → Ok (flag_values c d) ≡ flags_in (Ok n) bytes
  unfolding flags_in
  flags_last h r = rw (← clip, ← defect, h, le-ltb (6 + n) (length bytes) r)

-- ---- an ending without a fault

pub record Flags (c d : ℕ) (bytes : List ℕ) : Type 0 where
  pub record_is : Record 4 2 bytes
  pub exact : length bytes ≡ 8
  pub clip : byte bytes 6 ≡ c
  pub defect : byte bytes 7 ≡ d
  pub known : flags_fit c d ≡ true

pub data Ends (c d : ℕ) : List ℕ → Type 0 where
  plain : c ≡ 0 → d ≡ 0 → Ends c d []
  flags : (b : ℕ) (l : List ℕ) → Flags c d (b ∷ l) → Ends c d (b ∷ l)

same_flags : (a b c d : ℕ) → ◌≡◌ {A = Result FlagValues Refusal} (Ok (flag_values a b)) (Ok (flag_values c d)) → (a ≡ c) × (b ≡ d)
same_flags a b c d h =
    let e : flag_values a b ≡ flag_values c d = cc in (ap (λ (v : FlagValues). v.clip) e, ap (λ (v : FlagValues). v.defect) e)

flags_by : (x y : Bool) (c d : ℕ) (bytes : List ℕ) → Record 4 2 bytes → flags_fit (byte bytes 6) (byte bytes 7) ≡ x
    → ltb 8 (length bytes) ≡ y
    → cond x (cond y (Err Refusal.File) (Ok (flag_values (byte bytes 6) (byte bytes 7)))) (Err Refusal.File)
    ≡ Ok (flag_values c d) → Flags c d bytes
flags_by true true c d bytes r e f h = let y : ◌≡◌ {A = ℕ} 0 1 = cc in absurd (omega arith)
flags_by true false c d bytes r e f h =
    let s = same_flags _ _ c d h in
    let most = ltb-false 8 (length bytes) f in
    record { record_is = r; exact = omega (arith, r.room); clip = s.0; defect = s.1; known = rw (s.0, s.1) at e }
flags_by false y c d bytes r e f h = let y : ◌≡◌ {A = ℕ} 0 1 = cc in absurd (omega arith)

flags_of : (k : Result ℕ Refusal) (c d : ℕ) (bytes : List ℕ) → front_of 4 bytes ≡ k → flags_in k bytes ≡ Ok (flag_values c d)
    → Flags c d bytes
unfolding flags_in
flags_of (Err n) c d bytes e h = let y : ◌≡◌ {A = ℕ} 0 1 = cc in absurd (omega arith)
flags_of (Ok n) c d bytes e h =
    let r = record_of 4 n bytes e in
    let two = two_bytes n r.fits in
    flags_by _ _ c d bytes (rw two at r) refl refl (rw two at h)

pub ends : (c d : ℕ) (bytes : List ℕ) → ending_of bytes ≡ Ok (flag_values c d) → Ends c d bytes
unfolding ending_of
ends c d [] h =
    let s = same_flags 0 0 c d h in
    plain (sym s.0) (sym s.1)
ends c d (b ∷ l) h = flags b l (flags_of (front_of 4 (b ∷ l)) c d (b ∷ l) refl h)
