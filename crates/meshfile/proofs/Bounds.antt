-- A file is at most 12,318 bytes long, and of longer input the first 12,319 bytes decide: each test looks only at bytes that both have.
-- Assumes nothing.
use Rattle.std.specs.Prelude.{Result, Ok, Err}
use mathlib.Core.Path.{◌≡◌, refl, sym, ap, ◌∙◌}
use mathlib.Core.Bool.{Bool, true, false, not, cond}
use mathlib.Core.List.{List, [], ◌∷◌}
use Prim.Native.Nat.{ℕ, zero, suc, ◌+◌, ◌*◌, ◌-◌, ◌/◌, ◌≤◌, ◌<◌}
use native.Mathlib.Omega.{arith}
use borrow.Author.Tests.{ltb-false, lt-ltb, le-ltb}
use lib.Dec.{ltb, eqb}
use lib.ListN.{length, take, drop, length-drop}
use lib.Seq.{length-take-le, get_or-take, take-take, take-nil}
use Rattle.words.specs.Words.{byte, u16_at, u32_at}
use Rattle.meshfile.specs.Format.{most_in_file, length_fits, front_of, flags_in, ending_of, ended, ids_in, vertices_in}
use Rattle.meshfile.specs.Format.{unit_in, file_of}
use Rattle.meshfile.specs.Written.{FilesAreShort, FrontDecidesFile}
use Rattle.meshfile.proofs.Fronts.{record_of, four_bytes, whole_words, two_bytes}
use Rattle.meshfile.proofs.Endings.{flags_front, ending_by, Ends, plain, flags, ends}
use Rattle.meshfile.proofs.Layouts.{held}
use Rattle.ids.specs.declared.refusal.Refusal.{Refusal}

-- ---- the longest file

ends_long : {c d : ℕ} {bytes : List ℕ} → Ends c d bytes → length bytes ≤ 8
ends_long (plain p q) = omega arith
ends_long (flags b l f) = omega (arith, f.exact)

pub files_are_short : FilesAreShort
files_are_short m bytes h =
    let x = held bytes m h in
    let p = x.0 in
    let e = ends_long (ends _ _ _ x.1.end) in
    omega (arith, length-drop (22 + 4 * p.floats + 4 * p.ids) bytes, x.1.floats.few, x.1.ids.few)

-- ---- the first bytes decide

-- a test that is tried after two others may differ where they already found a fault
late : (b c x y : Bool) (r : Result ℕ Refusal) → (b ≡ true → c ≡ false → x ≡ y)
    → cond (not b) (Err Refusal.File) (cond c (Err Refusal.FileTooLarge) (cond x (Err Refusal.File) r))
    ≡ cond (not b) (Err Refusal.File) (cond c (Err Refusal.FileTooLarge) (cond y (Err Refusal.File) r))
late true true x y r h = refl
late true false x y r h = ap (λ (z : Bool). cond z (Err Refusal.File) r) (h refl refl)
late false c x y r h = refl

drop_take : (n m k : ℕ) (l : List ℕ) → k ≡ n + m → drop n (take k l) ≡ take m (drop n l)
drop_take zero m k l e =
    let q : k ≡ m = omega arith in
    rw q
drop_take (suc n) m zero l e = absurd (omega arith)
drop_take (suc n) m (suc k) [] e = sym (take-nil m)
drop_take (suc n) m (suc k) (a ∷ l) e = drop_take n m k l (omega arith)

module _ (size : ℕ) (bytes : List ℕ) (enough : size ≤ length bytes) where
  same : (i : ℕ) → i < size → byte (take size bytes) i ≡ byte bytes i
  same i h = get_or-take size bytes i 0 h

  half_taken : (i : ℕ) → i + 1 < size → u16_at (take size bytes) i ≡ u16_at bytes i
  unfolding u16_at
  half_taken i h = rw (same i (omega arith), same (i + 1) h)

  word_taken : (i : ℕ) → i + 3 < size → u32_at (take size bytes) i ≡ u32_at bytes i
  unfolding u32_at
  word_taken i h = rw (same i (omega arith), same (i + 1) (omega arith), same (i + 2) (omega arith), same (i + 3) h)

  front_taken : (kind : ℕ) → 6 ≤ size → ((n : ℕ) → length_fits kind n ≡ true → n / 4 ≤ most_in_file → 6 + n ≤ size)
      → front_of kind (take size bytes) ≡ front_of kind bytes
  unfolding front_of
  front_taken kind h fits =
      let n = u32_at bytes 0 in
      let long = le-ltb (length bytes) 6 (omega arith) in
      rw (length-take-le size bytes enough, half_taken 4 (omega arith), word_taken 0 (omega arith), le-ltb size 6 h, long)
      (ap (cond (not (eqb (u16_at bytes 4) kind)) (Err Refusal.File))
      (late (length_fits kind n) (ltb most_in_file (n / 4)) (ltb size (6 + n)) (ltb (length bytes) (6 + n)) (Ok n)
      (λ a b. let k = fits n a (ltb-false most_in_file (n / 4) b) in
      le-ltb size (6 + n) k ∙ sym (le-ltb (length bytes) (6 + n) (omega arith)))))

  -- what lies within both is the same, and what is behind is a front of what is behind
  part_taken : (n k : ℕ) → n + k ≤ size → take k (drop n (take size bytes)) ≡ take k (drop n bytes)
  part_taken n k h =
      let e : size ≡ n + (size - n) = omega arith in
      rw (drop_take n (size - n) size bytes e) (take-take k (size - n) (drop n bytes) (omega arith))

  behind_taken : (n : ℕ) → n ≤ size → drop n (take size bytes) ≡ take (size - n) (drop n bytes)
  behind_taken n h = drop_take n (size - n) size bytes (omega arith)

  behind_enough : (n : ℕ) → size - n ≤ length (drop n bytes)
  behind_enough n = omega (arith, length-drop n bytes)

-- ---- record by record, from the last to the first

module _ (size : ℕ) (bytes : List ℕ) (enough : size ≤ length bytes) where
  flags_taken : (k : Result ℕ Refusal) → front_of 4 bytes ≡ k → 9 ≤ size → flags_in k (take size bytes) ≡ flags_in k bytes
  unfolding flags_in
  flags_taken (Err n) e h = refl
  flags_taken (Ok n) e h =
      let two = (flags_front n bytes e).0 in
      let six = same size bytes enough 6 (omega arith) in
      let seven = same size bytes enough 7 (omega arith) in
      rw (six, seven, length-take-le size bytes enough, lt-ltb (6 + n) size (omega arith), lt-ltb (6 + n) (length bytes) (omega arith))

  ending_taken : 9 ≤ size → ending_of (take size bytes) ≡ ending_of bytes
  ending_taken h =
      let long = length-take-le size bytes enough in
      let same = front_taken size bytes enough 4 (omega arith) (λ n f m. let two = two_bytes n f in omega arith) in
      sym (ending_by (take size bytes) _ (front_of 4 bytes) (λ q. omega arith) refl same)
      ∙ flags_taken (front_of 4 bytes) refl h
      ∙ ending_by bytes _ (front_of 4 bytes) (λ q. omega arith) refl refl

-- a payload of floats or ids is at most 6,144 bytes
payload_most : (kind n : ℕ) → eqb kind 1 ≡ false → eqb kind 4 ≡ false → length_fits kind n ≡ true → n / 4 ≤ most_in_file → n ≤ 6144
payload_most kind n p q h m =
    let e = whole_words kind n p q h in
    omega arith

module _ (size : ℕ) (bytes : List ℕ) (enough : size ≤ length bytes) where
  ids_by : (u : ℕ) (vs : List ℕ) (k : Result ℕ Refusal) → front_of 3 bytes ≡ k → 6159 ≤ size
      → ids_in u vs k (take size bytes) ≡ ids_in u vs k bytes
  unfolding ids_in
  ids_by u vs (Err n) e h = refl
  ids_by u vs (Ok n) e h =
      let r = record_of 3 n bytes e in
      let most = payload_most 3 n refl refl r.fits r.few in
      rw (part_taken size bytes enough 6 n (omega arith), behind_taken size bytes enough (6 + n) (omega arith))
      (ap (ended u vs _) (ending_taken (size - (6 + n)) (drop (6 + n) bytes) (behind_enough size bytes enough (6 + n)) (omega arith)))

  ids_taken : (u : ℕ) (vs : List ℕ) → 6159 ≤ size
      → ids_in u vs (front_of 3 (take size bytes)) (take size bytes) ≡ ids_in u vs (front_of 3 bytes) bytes
  ids_taken u vs h =
      rw (front_taken size bytes enough 3 (omega arith) (λ n f m. let most = payload_most 3 n refl refl f m in omega arith))
      (ids_by u vs (front_of 3 bytes) refl h)

module _ (size : ℕ) (bytes : List ℕ) (enough : size ≤ length bytes) where
  vertices_by : (u : ℕ) (k : Result ℕ Refusal) → front_of 2 bytes ≡ k → 12309 ≤ size
      → vertices_in u k (take size bytes) ≡ vertices_in u k bytes
  unfolding vertices_in
  vertices_by u (Err n) e h = refl
  vertices_by u (Ok n) e h =
      let r = record_of 2 n bytes e in
      let most = payload_most 2 n refl refl r.fits r.few in
      rw (part_taken size bytes enough 6 n (omega arith), behind_taken size bytes enough (6 + n) (omega arith))
      (ids_taken (size - (6 + n)) (drop (6 + n) bytes) (behind_enough size bytes enough (6 + n)) u _ (omega arith))

  vertices_taken : (u : ℕ) → 12309 ≤ size → vertices_in u (front_of 2 (take size bytes)) (take size bytes)
      ≡ vertices_in u (front_of 2 bytes) bytes
  vertices_taken u h =
      rw (front_taken size bytes enough 2 (omega arith) (λ n f m. let most = payload_most 2 n refl refl f m in omega arith))
      (vertices_by u (front_of 2 bytes) refl h)

module _ (size : ℕ) (bytes : List ℕ) (enough : size ≤ length bytes) where
  unit_by : (k : Result ℕ Refusal) → front_of 1 bytes ≡ k → 12319 ≤ size → unit_in k (take size bytes) ≡ unit_in k bytes
  unfolding unit_in
  unit_by (Err n) e h = refl
  unit_by (Ok n) e h =
      let r = record_of 1 n bytes e in
      let four = four_bytes n r.fits in
      rw (word_taken size bytes enough 6 (omega arith), behind_taken size bytes enough (6 + n) (omega arith))
      (vertices_taken (size - (6 + n)) (drop (6 + n) bytes) (behind_enough size bytes enough (6 + n)) (u32_at bytes 6) (omega arith))

  file_taken : 12319 ≤ size → file_of (take size bytes) ≡ file_of bytes
  unfolding file_of
  file_taken h =
      rw (front_taken size bytes enough 1 (omega arith) (λ n f m. let four = four_bytes n f in omega arith))
      (unit_by (front_of 1 bytes) refl h)

pub front_decides : FrontDecidesFile
front_decides bytes h = file_taken 12319 bytes h (omega arith)
