-- What writing gives: too many, too short an area, or the file in front of what was there. One outcome, and a refusal writes nothing.
-- Assumes nothing.
use Rattle.std.specs.Prelude.{Result, Ok, Err}
use mathlib.Core.Path.{◌≡◌, refl, sym, ◌∙◌}
use mathlib.Core.Bool.{Bool, true, false, cond}
use mathlib.Core.List.{List, ◌++◌}
use mathlib.Core.Logic.{◌⊎◌, inl, inr}
use Prim.Native.Nat.{ℕ, ◌+◌, ◌*◌, ◌≤◌, ◌<◌}
use native.Mathlib.Omega.{arith}
use borrow.Author.Tests.{ltb-false, lt-ltb, le-ltb}
use lib.Dec.{ltb}
use lib.ListN.{length, take, drop}
use lib.Seq.{take_at}
use Rattle.ids.proofs.Groups.{neither}
use Rattle.meshfile.specs.Format.{most_in_file, Contents}
use Rattle.meshfile.specs.Written.{file_bytes, longest}
use Rattle.meshfile.specs.Writing.{too_many, put_into, writing_of, bytes_after, Writes}
use Rattle.meshfile.specs.Writing.{FileLength, LongestSuffices, RefusedWriting, WriteOne}
use Rattle.meshfile.proofs.Puts.{file_long}
use Rattle.ids.specs.declared.refusal.Refusal.{Refusal}

pub file_length : FileLength
file_length m = file_long m ∙ omega arith

pub write_one : WriteOne
write_one m area r r' area₁ area₂ x y = (x.answers ∙ sym y.answers, x.bytes ∙ sym y.bytes)

-- ---- the tests in their order

module _ (m : Contents) (area : List ℕ) where
  abbrev size : ℕ
  size = 30 + 4 * length m.vertices + 4 * length m.ids

  pub too_many_lem : too_many m ≡ true → Writes m area (Err Refusal.FileTooLarge) area
  unfolding writing_of bytes_after
  too_many_lem h = record { answers = rw h; bytes = rw h }

  module _ (few-enough : too_many m ≡ false) where
    pub too_short : length area < size → Writes m area (Err Refusal.ShortArea) area
    unfolding writing_of bytes_after put_into
    too_short h =
        let short = lt-ltb (length area) size h in
        record { answers = rw (few-enough, file_long m, short); bytes = rw (few-enough, file_long m, short) }

    pub written : size ≤ length area → (new : List ℕ) → new ≡ file_bytes m → Writes m area (Ok size) (new ++ drop size area)
    unfolding writing_of bytes_after put_into
    written h new e =
        let long = le-ltb (length area) size h in
        record { answers = rw (few-enough, file_long m, long); bytes = rw (few-enough, file_long m, long, e) }

-- ---- a refusal

refused_by : (full short : Bool) (n : Refusal) (k : ℕ) (file area : List ℕ)
    → let said = cond full (Err Refusal.FileTooLarge) (cond short (Err Refusal.ShortArea) (Ok k)) in
    Err n ≡ said → ((n ≡ Refusal.ShortArea) ⊎ (n ≡ Refusal.FileTooLarge)) × (bytes_after said file area ≡ area)
unfolding bytes_after
refused_by true short n k file area h = (inr cc, refl)
refused_by false true n k file area h = (inl cc, refl)
refused_by false false n k file area h = let z : ◌≡◌ {A = ℕ} 0 1 = cc in absurd (omega arith)

pub refused_writing : RefusedWriting
unfolding writing_of put_into
refused_writing m area n area' x =
    let p = refused_by (too_many m) (ltb (length area) (length (file_bytes m))) n (length (file_bytes m)) (file_bytes m) area x.answers in
    (p.0, x.bytes ∙ p.1)

-- ---- an answer

pub few : (m : Contents) → too_many m ≡ false → (length m.vertices ≤ most_in_file) × (length m.ids ≤ most_in_file)
unfolding too_many
few m h =
    let both = neither (ltb most_in_file (length m.vertices)) (ltb most_in_file (length m.ids)) h in
    (ltb-false _ _ both.0, ltb-false _ _ both.1)

pub longest_suffices : LongestSuffices
longest_suffices m h = omega (arith, few m h, file_long m)

-- a file was written: it is not too large, and there was room
put_length : (short : Bool) (n k : ℕ) → Ok n ≡ cond short (Err Refusal.ShortArea) (Ok k) → (short ≡ false) × (n ≡ k)
put_length true n k h = let z : ◌≡◌ {A = ℕ} 0 1 = cc in absurd (omega arith)
put_length false n k h = (refl, cc)

wrote : (full short : Bool) (n k : ℕ)
    → Ok n ≡ cond full (Err Refusal.FileTooLarge) (cond short (Err Refusal.ShortArea) (Ok k))
    → (full ≡ false) × (short ≡ false) × (n ≡ k)
wrote true short n k h = let z : ◌≡◌ {A = ℕ} 0 1 = cc in absurd (omega arith)
wrote false short n k h = (refl, (put_length short n k h).0, (put_length short n k h).1)

module _ (m : Contents) (area : List ℕ) (n : ℕ) (area' : List ℕ) (w : Writes m area (Ok n) area') where
  pub not_many : too_many m ≡ false
  unfolding writing_of put_into
  not_many = (wrote (too_many m) (ltb (length area) (length (file_bytes m))) n (length (file_bytes m)) w.answers).0

  pub file_written : take n area' ≡ file_bytes m
  unfolding writing_of bytes_after put_into
  file_written =
      let x = wrote (too_many m) (ltb (length area) (length (file_bytes m))) n (length (file_bytes m)) w.answers in
      rw (w.bytes, x.0, x.1, x.2) (take_at (file_bytes m) (drop (length (file_bytes m)) area) (length (file_bytes m)) refl)

-- so its length fits in a word
pub written_few : (m : Contents) (area : List ℕ) (r : Result ℕ Refusal) (area' : List ℕ) → Writes m area r area'
    → (n : ℕ) → r ≡ Ok n → n ≤ longest
unfolding writing_of put_into
written_few m area r area' w n e =
    let x = wrote (too_many m) (ltb (length area) (length (file_bytes m))) n (length (file_bytes m)) (sym e ∙ w.answers) in
    rw x.2 (longest_suffices m x.0)
