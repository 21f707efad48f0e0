-- There and back: what was written is read to the bit, and what was read is written to the byte. Both go by what a file holds. Assumes
-- nothing.
use Rattle.std.specs.Prelude.{Result, Ok}
use mathlib.Core.Path.{◌≡◌, refl, sym, ap, ◌∙◌}
use mathlib.Core.Bool.{false}
use mathlib.Core.List.{List, [], ◌∷◌, ◌++◌}
use mathlib.Core.Logic.{inl, ⊎_elim}
use Prim.Native.Nat.{ℕ, ◌+◌, ◌*◌, ◌^◌, ◌≤◌, ◌<◌}
use native.Mathlib.Omega.{arith}
use borrow.Author.Tests.{lt-ltb, le-ltb}
use lib.Dec.{T, eqb}
use lib.ListN.{length, take, drop}
use lib.Seq.{take-append_seam}
use Rattle.record.specs.Numbers.{profile_at, flags_fit}
use Rattle.words.specs.Words.{Below}
use Rattle.meshfile.specs.declared.MeshFile.{MeshFile}
use Rattle.meshfile.specs.Format.{most_in_file, Contents, File, file_of}
use Rattle.meshfile.specs.Written.{chunk_of, plain_file, file_bytes, Proper, IsFileOf}
use Rattle.meshfile.specs.Reading.{mesh_areas_short, mesh_bits, reading_of, vertices_after, ids_after}
use Rattle.meshfile.specs.Writing.{contents_of, too_many, writing_of, Writes}
use Rattle.meshfile.specs.RoundTrip.{ReadsBack, with_kind4, Rewrites, FilePut, WritesBack, SameFile}
use Rattle.meshfile.proofs.Accepts.{accepts}
use Rattle.meshfile.proofs.AcceptsOnly.{accepts_only}
use Rattle.meshfile.proofs.Puts.{plain_long, file_long}
use Rattle.meshfile.proofs.Gives.{reading_held}
use Rattle.meshfile.proofs.Writes.{not_many, file_written, few}
use Rattle.meshfile.proofs.Flags.{clip_back, profile_back, flags_known, contents_back}
use Rattle.ids.specs.declared.refusal.Refusal.{Refusal}

-- ---- reading what was written

-- what was written is a file that holds it
pub written_held : (m : Contents) → m.unit < 2 ^ 32 → Below (2 ^ 32) m.vertices → Below (2 ^ 32) m.ids
    → T (flags_fit m.clip m.defect) → (area : List ℕ) (n : ℕ) (area' : List ℕ) → Writes m area (Ok n) area'
    → file_of (take n area') ≡ Ok m
unfolding IsFileOf
written_held m hu hv hi hf area n area' w =
    let least = few m (not_many m area n area' w) in
    let proper : Proper m = record {
      unit = hu;
      vertices = hv;
      ids = hi;
      floats_most = least.0;
      ids_most = least.1;
      flags = hf;
    } in
    accepts m (take n area') proper (inl (file_written m area n area' w))

-- so it is read into areas with room for it
pub held_read : (f : File) (m : Contents) (ps ids : List ℕ) → f ≡ Ok m
    → length m.vertices ≤ length ps → length m.ids ≤ length ids
    → (reading_of f (length ps) (length ids) ≡ Ok (mesh_bits m))
    × (vertices_after (λ (ws : List ℕ). ws) f (length ids) ps ≡ m.vertices ++ drop (length m.vertices) ps)
    × (ids_after f (length ps) ids ≡ m.ids ++ drop (length m.ids) ids)
unfolding reading_of vertices_after ids_after mesh_areas_short
held_read f m ps ids held lv li =
    let roomy = le-ltb (length ps) (length m.vertices) lv in
    let wide = le-ltb (length ids) (length m.ids) li in
    (rw (held, roomy, wide), rw (held, roomy, wide), rw (held, roomy, wide))

pub reads_back : ReadsBack
reads_back u vs is clip profile hu hv hi area n area' w ps ids lv li r ps' ids' x =
    let m = contents_of u vs is clip profile in
    let held = written_held m hu hv hi (flags_known clip profile) area n area' w in
    let back = held_read (file_of (take n area')) m ps ids held lv li in
    (x.answers ∙ back.0 ∙ rw (clip_back clip, profile_back profile), x.vertices ∙ back.1, x.ids_after_lem ∙ back.2)

-- ---- writing what was read

no_flags : (c d : ℕ) → c ≡ 0 → d ≡ 0 → c ∷ d ∷ [] ≡ 0 ∷ 0 ∷ []
no_flags c d p q = rw (p, q)

module _ (bytes : List ℕ) (below : Below 256 bytes) (k : Contents) (held : file_of bytes ≡ Ok k) where
  abbrev again : List ℕ
  again = with_kind4 (length k.vertices) (length k.ids) bytes

  proper : Proper k
  proper = (accepts_only k bytes below held).0

  few_read : too_many k ≡ false
  unfolding too_many
  few_read =
      rw (le-ltb most_in_file (length k.vertices) proper.floats_most, le-ltb most_in_file (length k.ids) proper.ids_most)

  -- the file that is written is the file that was read, with its kind 4
  bytes_again : file_bytes k ≡ again
  unfolding IsFileOf with_kind4 file_bytes
  bytes_again =
      let end : ℕ = 22 + 4 * length k.vertices + 4 * length k.ids in
      ⊎_elim (λ e. let longer : end < length bytes = omega (arith, ap length e, file_long k) in
      rw (lt-ltb end (length bytes) longer) (sym e))
      (λ e. let none : length bytes ≤ end = omega (arith, ap length e.0, plain_long k) in
      let flags = no_flags k.clip k.defect e.1 e.2 in
      rw (le-ltb end (length bytes) none, e.0) (ap (λ (l : List ℕ). plain_file k ++ chunk_of 4 l) flags))
      (accepts_only k bytes below held).1

  held_again : (area : List ℕ) (w : Result ℕ Refusal) (area' : List ℕ)
      → Writes (contents_of k.unit k.vertices k.ids (eqb k.clip 1) (profile_at k.defect)) area w area'
      → FilePut again area w area'
  unfolding writing_of
  held_again area w area' x =
      let back = contents_back k proper.flags in
      record {
        answers = x.answers ∙ rw (back, few_read, bytes_again);
        bytes = x.bytes ∙ rw (back, few_read, bytes_again);
      }

pub same_file : SameFile
unfolding IsFileOf
same_file bytes below k held =
    ap file_of (sym (bytes_again bytes below k held)) ∙ accepts k (file_bytes k) (proper bytes below k held) (inl refl)

-- the words that were read stand first in their areas
names_first : (f : File) (k : Contents) (ps ids : List ℕ) → f ≡ Ok k → mesh_areas_short k (length ps) (length ids) ≡ false
    → (take (length k.vertices) (vertices_after (λ (ws : List ℕ). ws) f (length ids) ps) ≡ k.vertices)
    × (take (length k.ids) (ids_after f (length ps) ids) ≡ k.ids)
unfolding vertices_after ids_after
names_first f k ps ids at roomy = rw (at, roomy) (take-append_seam k.vertices _, take-append_seam k.ids _)

module _ (bytes : List ℕ) (below : Below 256 bytes) (ps' ids' : List ℕ) (k : Contents) (held : file_of bytes ≡ Ok k) where
  by_contents : (m : MeshFile ℕ) → m ≡ mesh_bits k → take (length k.vertices) ps' ≡ k.vertices → take (length k.ids) ids' ≡ k.ids
      → (area : List ℕ) (w : Result ℕ Refusal) (area' : List ℕ) → Rewrites m ps' ids' area w area'
      → FilePut (with_kind4 m.floats m.ids bytes) area w area'
  by_contents m same hv hi area w area' y = rw same (held_again bytes below k held area w area' (rw (same, hv, hi) at y))

pub writes_back : WritesBack
writes_back bytes below ps ids m ps' ids' x =
    let r = reading_held (file_of bytes) (length ps) (length ids) m x.answers in
    let first = names_first (file_of bytes) r.0 ps ids r.1 r.2 in
    by_contents bytes below ps' ids' r.0 r.1 m r.3
    (ap (take (length r.0.vertices)) x.vertices ∙ first.0) (ap (take (length r.0.ids)) x.ids_after_lem ∙ first.1)
