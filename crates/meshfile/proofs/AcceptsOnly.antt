-- Reading accepts only files that the writer's side describes: each record found is the record written. Assumes nothing.
use mathlib.Core.Path.{◌≡◌, refl, sym, ap, ◌∙◌, subst}
use mathlib.Core.List.{List, [], ◌∷◌, ◌++◌, append-nil}
use mathlib.Core.Logic.{◌⊎◌, inl, inr, ⊎_elim}
use Prim.Native.Nat.{ℕ, ◌+◌, ◌*◌, ◌^◌, ◌≤◌, ◌<◌}
use native.Mathlib.Omega.{arith}
use denote.Floats.{passes}
use lib.Dec.{T}
use lib.ListN.{length, take, drop, length-drop, take-append-drop, drop_of_length-le}
use lib.Seq.{drop-drop, drop-cons, length-take-le}
use Rattle.record.specs.Numbers.{flags_fit}
use Rattle.words.specs.Words.{byte, u16_at, u32_at, words_in, bytes_of, all_bytes, Below}
use Rattle.meshfile.specs.declared.Parts.{Parts}
use Rattle.meshfile.specs.Format.{Contents}
use Rattle.meshfile.specs.inner.Steps.{contents_at}
use Rattle.meshfile.specs.Written.{chunk_of, plain_file, file_bytes, Proper, IsFileOf, AcceptsOnly}
use Rattle.meshfile.proofs.Fronts.{Record}
use Rattle.meshfile.proofs.Endings.{Flags, Ends, plain as ends_plain, flags as ends_flags, ends}
use Rattle.words.proofs.Words.{word_drop}
use Rattle.meshfile.proofs.Layouts.{Laid, laid_inside, drop_to, held}
use Rattle.words.proofs.Parts.{part_length, part_words}
use Rattle.words.proofs.Bytes.{four, four_below, bytes_back, all_words, words_below, below_drop, below_take}
use Rattle.meshfile.proofs.Accepts.{appended}

-- ---- one record as it was written

header : (a b c d n : ℕ) → a < 256 → b < 256 → c < 256 → d < 256 → four a b c d ≡ n → bytes_of n ≡ a ∷ b ∷ c ∷ d ∷ []
header a b c d n ha hb hc hd e = ap bytes_of (sym e) ∙ bytes_back a b c d ha hb hc hd

pub rebuilt : (kind n : ℕ) (l : List ℕ) → kind < 256 → Below 256 l → Record kind n l
    → l ≡ chunk_of kind (take n (drop 6 l)) ++ drop (6 + n) l
unfolding chunk_of u16_at u32_at Below
rebuilt kind n [] k h r = absurd (omega (arith, r.room))
rebuilt kind n (a ∷ []) k h r = absurd (omega (arith, r.room))
rebuilt kind n (a ∷ b ∷ []) k h r = absurd (omega (arith, r.room))
rebuilt kind n (a ∷ b ∷ c ∷ []) k h r = absurd (omega (arith, r.room))
rebuilt kind n (a ∷ b ∷ c ∷ d ∷ []) k h r = absurd (omega (arith, r.room))
rebuilt kind n (a ∷ b ∷ c ∷ d ∷ e ∷ []) k h r = absurd (omega (arith, r.room))
rebuilt kind n (a ∷ b ∷ c ∷ d ∷ e ∷ z ∷ l) k h r =
    let size : length (take n l) ≡ n = length-take-le n l (omega (arith, r.room)) in
    let ez : z ≡ 0 = omega (arith, r.kind_is) in
    let ee : e ≡ kind = omega (arith, r.kind_is) in
    let four = header a b c d n h.0 h.1.0 h.1.1.0 h.1.1.1.0 r.size in
    rw (size, four, ← drop-drop n 6 (a ∷ b ∷ c ∷ d ∷ e ∷ z ∷ l), take-append-drop n l, ez, ee)

-- the unit's four bytes
four_taken : (l : List ℕ) → Below 256 l → 4 ≤ length l → (bytes_of (u32_at l 0) ≡ take 4 l) × (u32_at l 0 < 2 ^ 32)
unfolding u32_at Below
four_taken [] h k = absurd (omega arith)
four_taken (a ∷ []) h k = absurd (omega arith)
four_taken (a ∷ b ∷ []) h k = absurd (omega arith)
four_taken (a ∷ b ∷ c ∷ []) h k = absurd (omega arith)
four_taken (a ∷ b ∷ c ∷ d ∷ l) (ha, (hb, (hc, (hd, hl)))) k = (bytes_back a b c d ha hb hc hd, four_below a b c d ha hb hc hd)

-- the flags' two
two_taken : (l : List ℕ) → length l ≡ 8 → take 2 (drop 6 l) ≡ byte l 6 ∷ byte l 7 ∷ []
two_taken l e =
    let six : 6 < length l = omega arith in
    let seven : 7 < length l = omega arith in
    rw (drop-cons l 6 0 six, drop-cons l 7 0 seven)

flags_rebuilt : (c d : ℕ) (l : List ℕ) → Below 256 l → Flags c d l → l ≡ chunk_of 4 (c ∷ d ∷ [])
flags_rebuilt c d l h f =
    let long : length l ≤ 8 = omega (arith, f.exact) in
    rebuilt 4 2 l (omega arith) h f.record_is
    ∙ ap (λ (r : List ℕ). chunk_of 4 (take 2 (drop 6 l)) ++ r) (drop_of_length-le l long)
    ∙ append-nil _
    ∙ ap (chunk_of 4) (two_taken l f.exact ∙ rw (f.clip, f.defect))

ends_written : {c d : ℕ} {l : List ℕ} → Below 256 l → Ends c d l → (l ≡ chunk_of 4 (c ∷ d ∷ [])) ⊎ ((l ≡ []) × (c ≡ 0) × (d ≡ 0))
ends_written h (ends_plain p q) = inr (refl, p, q)
ends_written {c} {d} h (ends_flags b l f) = inl (flags_rebuilt c d (b ∷ l) h f)

ends_known : {c d : ℕ} {l : List ℕ} → Ends c d l → T (flags_fit c d)
unfolding flags_fit
ends_known (ends_plain p q) = rw (p, q) tt
ends_known {c} {d} (ends_flags b l f) = passes (flags_fit c d) f.known

-- ---- the whole file

joined : (l a b c r s t : List ℕ) → l ≡ a ++ r → r ≡ b ++ s → s ≡ c ++ t → l ≡ (a ++ (b ++ c)) ++ t
joined l a b c r s t p q w = p ∙ ap (λ (x : List ℕ). a ++ x) (q ∙ ap (λ (x : List ℕ). b ++ x) w) ∙ sym (appended a b c t)

module _ (bytes : List ℕ) (below : Below 256 bytes) where
  unit_part : Record 1 4 bytes → bytes ≡ chunk_of 1 (bytes_of (u32_at bytes 6)) ++ drop 10 bytes
  unit_part r =
      let long : 4 ≤ length (drop 6 bytes) = omega (arith, r.room, length-drop 6 bytes) in
      rebuilt 1 4 bytes (omega arith) below r
      ∙ ap (λ (b : List ℕ). chunk_of 1 b ++ drop 10 bytes)
      (sym (four_taken (drop 6 bytes) (below_drop 256 6 bytes below) long).0 ∙ ap bytes_of (word_drop 6 bytes))

  -- floats and ids: words as bytes again
  words_part : (kind at body end n : ℕ) → kind < 256 → at + 6 ≡ body → body + 4 * n ≡ end → Record kind (4 * n) (drop at bytes)
      → drop at bytes ≡ chunk_of kind (all_bytes (words_in (take (4 * n) (drop body bytes)))) ++ drop end bytes
  words_part kind at body end n k eb ee r =
      let room : body + 4 * n ≤ length bytes = omega (arith, r.room, length-drop at bytes) in
      let long = part_length body (4 * n) bytes room in
      let back = all_words (take (4 * n) (drop body bytes))
      (below_take 256 (4 * n) (drop body bytes) (below_drop 256 body bytes below)) (omega arith) in
      rebuilt kind (4 * n) (drop at bytes) k (below_drop 256 at bytes below) r
      ∙ rw (drop_to bytes 6 at body eb, drop_to bytes (6 + 4 * n) at end (omega arith), back)

module _ (bytes : List ℕ) (below : Below 256 bytes) (p : Parts) (laid : Laid bytes p) where
  abbrev m : Contents
  m = contents_at bytes p

  abbrev tail : List ℕ
  tail = drop (22 + 4 * p.floats + 4 * p.ids) bytes

  split : bytes ≡ plain_file m ++ tail
  unfolding plain_file contents_at
  split =
      joined bytes (chunk_of 1 (bytes_of m.unit)) (chunk_of 2 (all_bytes m.vertices)) (chunk_of 3 (all_bytes m.ids))
      (drop 10 bytes) (drop (16 + 4 * p.floats) bytes) tail
      (unit_part bytes below laid.unit)
      (words_part bytes below 2 10 16 (16 + 4 * p.floats) p.floats (omega arith) refl refl laid.floats)
      (words_part bytes below 3 (16 + 4 * p.floats) (22 + 4 * p.floats) (22 + 4 * p.floats + 4 * p.ids) p.ids (omega arith)
      (omega arith) refl laid.ids)

  ending : Ends p.flags.clip p.flags.defect tail
  ending = ends p.flags.clip p.flags.defect tail laid.end

  proper : Proper m
  unfolding contents_at
  proper =
      let room = laid_inside bytes p laid in
      let long : 4 ≤ length (drop 6 bytes) = omega (arith, length-drop 6 bytes) in
      record {
        unit = rw (word_drop 6 bytes) at (four_taken (drop 6 bytes) (below_drop 256 6 bytes below) long).1;
        vertices = words_below _ (below_take 256 (4 * p.floats) (drop 16 bytes) (below_drop 256 16 bytes below));
        ids =
            words_below _ (below_take 256 (4 * p.ids) (drop (22 + 4 * p.floats) bytes) (below_drop 256 (22 + 4 * p.floats) bytes below));
        floats_most = omega (arith, part_words 16 p.floats bytes (omega arith), laid.floats.few);
        ids_most = omega (arith, part_words (22 + 4 * p.floats) p.ids bytes room, laid.ids.few);
        flags = ends_known ending;
      }

  is_file : IsFileOf m bytes
  unfolding IsFileOf file_bytes contents_at
  is_file =
      ⊎_elim (λ e. inl (split ∙ ap (λ (r : List ℕ). plain_file m ++ r) e))
      (λ e. inr (split ∙ ap (λ (r : List ℕ). plain_file m ++ r) e.0 ∙ append-nil (plain_file m), e.1, e.2))
      (ends_written (below_drop 256 (22 + 4 * p.floats + 4 * p.ids) bytes below) ending)

pub accepts_only : AcceptsOnly
accepts_only m bytes below h =
    let x = held bytes m h in
    subst (λ (c : Contents). Proper c × IsFileOf c bytes) x.2 (proper bytes below x.0 x.1, is_file bytes below x.0 x.1)
