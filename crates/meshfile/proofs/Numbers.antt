-- The C forms: what `write` and `read_bits` give, as numbers; and there and back by them. Assumes nothing.
use Rattle.std.specs.Prelude.{Option, Result, Ok, Err}
use mathlib.Core.Path.{◌≡◌, refl, sym, ap, ◌∙◌, subst}
use mathlib.Core.Bool.{Bool, true, false, not, cond}
use mathlib.Core.List.{List, [], ◌∷◌}
use Prim.Native.Nat.{ℕ, ◌+◌, ◌^◌, ◌<◌}
use native.Mathlib.Omega.{arith}
use mir.Val.{bool_byte}
use borrow.Author.Tests.{not-false}
use denote.Floats.{passes, is_true}
use lib.Dec.{T, eqb}
use lib.ListN.{length, take}
use Rattle.record.specs.declared.ProfileDefect.{ProfileDefect}
use Rattle.record.specs.Numbers.{profile_at, profile_number, flags_fit}
use Rattle.words.specs.Words.{Below}
use Rattle.meshfile.specs.declared.MeshFile.{MeshFile}
use Rattle.meshfile.specs.Format.{Contents, file_of}
use Rattle.meshfile.specs.Reading.{reading_of, ReadsBits}
use Rattle.meshfile.specs.Writing.{contents_of, writing_of, bytes_after, Writes}
use Rattle.meshfile.specs.RoundTrip.{with_kind4, FilePut}
use Rattle.meshfile.specs.Numbers.{flags_then, writing_number, WritesNumbered, WriteNumberedOne}
use Rattle.meshfile.specs.Numbers.{reading_number, counts_after, ReadsNumbered, ReadNumberedOne}
use Rattle.meshfile.specs.Numbers.{ReadsBackNumbered, WritesBackNumbered}
use Rattle.meshfile.proofs.Flags.{flags_known, number_back, contents_back}
use Rattle.meshfile.proofs.RoundTrip.{written_held, held_read, writes_back}
use Rattle.ids.specs.declared.refusal.Refusal.{Refusal}
use Rattle.ids.specs.Refusal.{refusal_number}

pub write_numbered_one : WriteNumberedOne
write_numbered_one m area k k' area₁ area₂ x y = (x.number ∙ sym y.number, x.bytes ∙ sym y.bytes)

pub read_numbered_one : ReadNumberedOne
read_numbered_one bytes ps ids five k k' ps₁ ps₂ ids₁ ids₂ five₁ five₂ x y = (
  x.number ∙ sym y.number,
  x.vertices ∙ sym y.vertices,
  x.ids_after_lem ∙ sym y.ids_after_lem,
  x.counts ∙ sym y.counts,
)

-- ---- writing

module _ (m : Contents) (area : List ℕ) (t : Bool) (e : t ≡ flags_fit m.clip m.defect) where
  -- flags that are none
  pub flags_refused : not t ≡ true → WritesNumbered m area 0x8000_0005 area
  unfolding flags_then writing_number bytes_after
  flags_refused h =
      let none : not (flags_fit m.clip m.defect) ≡ true = ap not (sym e) ∙ h in
      record { number = rw none; bytes = rw none }

  -- else what `write` gives
  pub as_written : not t ≡ false → (p : Option ProfileDefect) → p ≡ profile_at m.defect → (r : Result ℕ Refusal) (area' : List ℕ)
      → Writes (contents_of m.unit m.vertices m.ids (eqb m.clip 1) p) area r area'
      → (k : ℕ) → k ≡ writing_number r → WritesNumbered m area k area'
  unfolding flags_then
  as_written h p hp r area' w k hk =
      let known : not (flags_fit m.clip m.defect) ≡ false = ap not (sym e) ∙ h in
      let same = contents_back m (passes (flags_fit m.clip m.defect) (not-false _ known)) in
      let to : Writes m area r area' = rw (hp, same) at w in
      record { number = rw known (hk ∙ ap writing_number to.answers); bytes = rw known to.bytes }

-- a length stands for a file: the flags were known, and `write` gave it
module _ (m : Contents) (area : List ℕ) (k : ℕ) (area' : List ℕ) (w : WritesNumbered m area k area') where
  with_known : T (flags_fit m.clip m.defect)
      → Writes m area (writing_of m (length area)) area' × (k ≡ writing_number (writing_of m (length area)))
  unfolding flags_then
  with_known h =
      let known = is_true (flags_fit m.clip m.defect) h in
      (record { answers = refl; bytes = w.bytes ∙ rw known }, w.number ∙ rw known)

-- ---- reading

clip_byte : (clip : Bool) → bool_byte clip ≡ cond clip 1 0
clip_byte true = refl
clip_byte false = refl

module _ (bytes ps ids : List ℕ) (r : Result (MeshFile ℕ) Refusal) (ps' ids' : List ℕ)
    (x : ReadsBits bytes ps ids r ps' ids') (five : List ℕ) where
  pub as_read : (k : ℕ) (five' : List ℕ) → k ≡ reading_number r → five' ≡ counts_after r five
      → ReadsNumbered bytes ps ids five k ps' ids' five'
  as_read k five' hk hc =
      record {
        number = hk ∙ ap reading_number x.answers;
        counts = hc ∙ ap (λ (b : Result (MeshFile ℕ) Refusal). counts_after b five) x.answers;
        vertices = x.vertices;
        ids_after_lem = x.ids_after_lem;
      }

  pub refused_read : (n : Refusal) → r ≡ Err n → ReadsNumbered bytes ps ids five (0x8000_0000 + refusal_number n) ps' ids' five
  unfolding reading_number counts_after
  refused_read n e = as_read (0x8000_0000 + refusal_number n) five (rw e) (rw e)

  pub counted : (m : MeshFile ℕ) → r ≡ Ok m → (d : ℕ) → d ≡ profile_number m.profile
      → ReadsNumbered bytes ps ids five 0 ps' ids' (m.floats ∷ m.ids ∷ m.unit ∷ bool_byte m.clip ∷ d ∷ [])
  unfolding reading_number counts_after
  counted m e d hd = as_read 0 (m.floats ∷ m.ids ∷ m.unit ∷ bool_byte m.clip ∷ d ∷ []) (rw e) (rw (e, hd, clip_byte m.clip))

-- ---- there and back

refused_large : (n k : ℕ) → n < 2 ^ 31 → n ≡ 2147483648 + k → ⊥
refused_large n k h e = omega arith

length_of : (b : Bool) (r : Result ℕ Refusal) (n : ℕ) → n < 2 ^ 31 → n ≡ writing_number (cond (not b) (Err Refusal.File) r)
    → T b × (r ≡ Ok n)
unfolding writing_number
length_of false r n h e = absurd (refused_large n 5 h e)
length_of true (Err k) n h e = absurd (refused_large n (refusal_number k) h e)
length_of true (Ok k) n h e = (tt, ap Ok (sym e))

pub reads_back_numbered : ReadsBackNumbered
unfolding flags_then reading_number counts_after
reads_back_numbered m hu hv hi area n area' small w ps ids five lv li k ps' ids' five' x =
    let said = length_of (flags_fit m.clip m.defect) (writing_of m (length area)) n small w.number in
    let made = (with_known m area n area' w said.0).0 in
    let whole : Writes m area (Ok n) area' = subst (λ (r : Result ℕ Refusal). Writes m area r area') said.1 made in
    let held = written_held m hu hv hi said.0 area n area' whole in
    let back = held_read (file_of (take n area')) m ps ids held lv li in
    let flags = number_back m said.0 in (
      x.number ∙ rw back.0,
      x.vertices ∙ back.1,
      x.ids_after_lem ∙ back.2,
      x.counts ∙ rw (back.0, flags.0, flags.1),
    )

-- five counts are those of a file that was read
counts_of : (r : Result (MeshFile ℕ) Refusal) (five : List ℕ) (f i u c d : ℕ) → 0 ≡ reading_number r
    → f ∷ i ∷ u ∷ c ∷ d ∷ [] ≡ counts_after r five
    → (m : MeshFile ℕ) × (r ≡ Ok m) × (f ≡ m.floats) × (i ≡ m.ids) × (u ≡ m.unit) × (c ≡ cond m.clip 1 0)
    × (d ≡ profile_number m.profile)
unfolding reading_number counts_after
counts_of (Err n) five f i u c d e h = absurd (refused_large 0 (refusal_number n) (omega arith) e)
counts_of (Ok m) five f i u c d e h = (m, refl, cc, cc, cc, cc, cc)

module _ (bytes : List ℕ) (below : Below 256 bytes) (ps ids ps' ids' : List ℕ) where
  by_counts : (m : MeshFile ℕ) → ReadsBits bytes ps ids (Ok m) ps' ids'
      → (f i u c d : ℕ) → f ≡ m.floats → i ≡ m.ids → u ≡ m.unit → c ≡ cond m.clip 1 0 → d ≡ profile_number m.profile
      → (area : List ℕ) (k : ℕ) (area' : List ℕ)
      → WritesNumbered (record { unit = u; vertices = take f ps'; ids = take i ids'; clip = c; defect = d }) area k area'
      → (w : Result ℕ Refusal) × (k ≡ writing_number w) × FilePut (with_kind4 f i bytes) area w area'
  by_counts m x f i u c d ef ei eu ec ed area k area' y =
      let again = contents_of m.unit (take m.floats ps') (take m.ids ids') m.clip m.profile in
      let to : WritesNumbered again area k area' = rw (ef, ei, eu, ec, ed) at y in
      let made = with_known again area k area' to (flags_known m.clip m.profile) in
      let put = writes_back bytes below ps ids m ps' ids' x area _ area' made.0 in
      (writing_of again (length area), made.1, rw (ef, ei) put)

pub writes_back_numbered : WritesBackNumbered
writes_back_numbered bytes below ps ids five ps' ids' f i u c d x area k area' y =
    let r = counts_of (reading_of (file_of bytes) (length ps) (length ids)) five f i u c d x.number x.counts in
    let read : ReadsBits bytes ps ids (Ok r.0) ps' ids'
    = record { answers = sym r.1; vertices = x.vertices; ids_after_lem = x.ids_after_lem } in
    by_counts bytes below ps ids ps' ids' r.0 read f i u c d r.2 r.3 r.4 r.5 r.6 area k area' y
