-- What stands in front is a payload exactly where none of the five tests finds a fault. Assumes nothing.
use Rattle.std.specs.Prelude.{Result, Ok, Err}
use mathlib.Core.Path.{◌≡◌, refl, sym}
use mathlib.Core.Bool.{Bool, true, false, not, cond}
use mathlib.Core.List.{List}
use Prim.Native.Nat.{ℕ, ◌+◌, ◌*◌, ◌-◌, ◌/◌, ◌%◌, ◌≤◌, ◌<◌}
use native.Mathlib.Omega.{arith}
use borrow.Author.Tests.{ltb-false, eqb-true, lt-ltb, le-ltb, eq-eqb, ne_eqb, not-false}
use lib.Dec.{ltb, eqb}
use lib.ListN.{length, take, drop, length-drop}
use lib.Seq.{take_all}
use Rattle.words.specs.Words.{u16_at, u32_at}
use Rattle.meshfile.specs.Format.{most_in_file, length_fits, front_of}
use Rattle.ids.specs.declared.refusal.Refusal.{Refusal}

-- a record of this kind whose payload is n bytes long
pub record Record (kind n : ℕ) (bytes : List ℕ) : Type 0 where
  pub kind_is : u16_at bytes 4 ≡ kind
  pub size : u32_at bytes 0 ≡ n
  pub fits : length_fits kind n ≡ true
  pub few : n / 4 ≤ most_in_file
  pub room : 6 + n ≤ length bytes

past : (b : Bool) (k : Refusal) (n : ℕ) (rest : Result ℕ Refusal) → cond b (Err k) rest ≡ Ok n → (b ≡ false) × (rest ≡ Ok n)
past true k n rest h = let y : ◌≡◌ {A = ℕ} 0 1 = cc in absurd (omega arith)
past false k n rest h = (refl, h)

same : (a b : ℕ) → ◌≡◌ {A = Result ℕ Refusal} (Ok a) (Ok b) → a ≡ b
same a b h = cc

pub record_of : (kind n : ℕ) (bytes : List ℕ) → front_of kind bytes ≡ Ok n → Record kind n bytes
unfolding front_of
record_of kind n bytes h =
    let a = past (ltb (length bytes) 6) Refusal.File n _ h in
    let b = past _ Refusal.File n _ a.1 in
    let d = past _ Refusal.File n _ b.1 in
    let e = past _ Refusal.FileTooLarge n _ d.1 in
    let f = past _ Refusal.File n _ e.1 in
    let size : u32_at bytes 0 ≡ n = same _ _ f.1 in
    record {
      kind_is = eqb-true _ _ (not-false _ b.0);
      size = size;
      fits = rw size at (not-false (length_fits kind (u32_at bytes 0)) d.0);
      few = rw size at (ltb-false most_in_file (u32_at bytes 0 / 4) e.0);
      room = rw size at (ltb-false (length bytes) (6 + u32_at bytes 0) f.0);
    }

-- the tests in their order: each is tried where those before it found no fault
module _ (kind : ℕ) (bytes : List ℕ) where
  pub header_cut : length bytes < 6 → Err Refusal.File ≡ front_of kind bytes
  unfolding front_of
  header_cut h = rw (lt-ltb (length bytes) 6 h)

  pub wrong_kind : 6 ≤ length bytes → (u16_at bytes 4 ≡ kind → ⊥) → Err Refusal.File ≡ front_of kind bytes
  unfolding front_of
  wrong_kind whole h = rw (le-ltb (length bytes) 6 whole, ne_eqb (u16_at bytes 4) kind h)

-- a header that is whole, of this kind, with n for the payload's length
pub record Header (kind n : ℕ) (bytes : List ℕ) : Type 0 where
  pub whole : 6 ≤ length bytes
  pub kind_is : u16_at bytes 4 ≡ kind
  pub size : u32_at bytes 0 ≡ n

module _ {kind n : ℕ} {bytes : List ℕ} (head : Header kind n bytes) where
  -- what the first two tests leave
  read_on : front_of kind bytes
      ≡ cond (not (length_fits kind n)) (Err Refusal.File)
      (cond (ltb most_in_file (n / 4)) (Err Refusal.FileTooLarge) (cond (ltb (length bytes) (6 + n)) (Err Refusal.File) (Ok n)))
  unfolding front_of
  read_on = rw (head.size, le-ltb (length bytes) 6 head.whole, eq-eqb (u16_at bytes 4) kind head.kind_is)

  pub wrong_length : length_fits kind n ≡ false → Err Refusal.File ≡ front_of kind bytes
  wrong_length h = rw (read_on, h)

  pub too_many_lem : length_fits kind n ≡ true → most_in_file < n / 4 → Err Refusal.FileTooLarge ≡ front_of kind bytes
  too_many_lem h m = rw (read_on, h, lt-ltb most_in_file (n / 4) m)

  pub payload_cut : length_fits kind n ≡ true → n / 4 ≤ most_in_file → length bytes < 6 + n → Err Refusal.File ≡ front_of kind bytes
  payload_cut h m r = rw (read_on, h, le-ltb most_in_file (n / 4) m, lt-ltb (length bytes) (6 + n) r)

  pub payload_whole : length_fits kind n ≡ true → n / 4 ≤ most_in_file → 6 + n ≤ length bytes → Ok n ≡ front_of kind bytes
  payload_whole h m r = rw (read_on, h, le-ltb most_in_file (n / 4) m, le-ltb (length bytes) (6 + n) r)

-- too many, from what was read and tested before, whatever the test is called
pub too_many_front : (kind : ℕ) (bytes : List ℕ) → 6 ≤ length bytes → u16_at bytes 4 ≡ kind → length_fits kind (u32_at bytes 0) ≡ true
    → 1536 < u32_at bytes 0 / 4 → Err Refusal.FileTooLarge ≡ front_of kind bytes
too_many_front kind bytes l k h m = too_many_lem (record { whole = l; kind_is = k; size = refl }) h m

pub front_is : (kind n : ℕ) (bytes : List ℕ) → Record kind n bytes → front_of kind bytes ≡ Ok n
front_is kind n bytes r =
    let head : Header kind n bytes = record { whole = omega (arith, r.room); kind_is = r.kind_is; size = r.size } in
    sym (payload_whole head r.fits r.few r.room)

-- the payload lies within the bytes
pub room_of : (kind : ℕ) (bytes : List ℕ) {n : ℕ} → front_of kind bytes ≡ Ok n → 6 + n ≤ length bytes
room_of kind bytes {n} h = (record_of kind n bytes h).room

-- what is lent of the bytes behind a place is all behind it
pub rest_is : (k : ℕ) (bytes : List ℕ) → take (length bytes - k) (drop k bytes) ≡ drop k bytes
rest_is k bytes = take_all (length bytes - k) (drop k bytes) (omega (arith, length-drop k bytes))

-- the lengths that the kinds allow: of the unit, of floats and ids, of the flags
pub four_bytes : (n : ℕ) → length_fits 1 n ≡ true → n ≡ 4
unfolding length_fits
four_bytes n h = eqb-true n 4 h

pub whole_words : (kind n : ℕ) → eqb kind 1 ≡ false → eqb kind 4 ≡ false → length_fits kind n ≡ true → n ≡ 4 * (n / 4)
unfolding length_fits
whole_words kind n p q h =
    let z : n % 4 ≡ 0 = eqb-true (n % 4) 0 (rw (p, q) at h) in
    omega arith

pub two_bytes : (n : ℕ) → length_fits 4 n ≡ true → n ≡ 2
unfolding length_fits
two_bytes n h = eqb-true n 2 h
