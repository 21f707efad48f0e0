-- Reading accepts every file that the writer's side describes, and gives back what was written. Assumes nothing.
use Rattle.std.specs.Prelude.{Ok}
use mathlib.Core.Path.{◌≡◌, refl, sym, ap, ◌∙◌}
use mathlib.Core.Bool.{true, false}
use mathlib.Core.List.{List, [], ◌∷◌, ◌++◌, append_assoc, append-nil}
use mathlib.Core.Logic.{inl, inr}
use Prim.Native.Nat.{ℕ, ◌+◌, ◌^◌, ◌/◌, ◌%◌, ◌≤◌, ◌<◌}
use native.Mathlib.Omega.{arith}
use borrow.Author.Tests.{eq-eqb}
use denote.Floats.{is_true}
use lib.Dec.{T, eqb}
use lib.ListN.{length, take, drop, length-append}
use lib.Seq.{drop-drop, take-append_seam, drop-append_seam}
use Rattle.record.specs.Numbers.{flags_fit}
use Rattle.words.specs.Words.{u16_at, u32_at, bytes_of, all_bytes, Below}
use Rattle.meshfile.specs.Format.{flag_values, most_in_file, length_fits, front_of, flags_in, ending_of, ended, ids_in}
use Rattle.meshfile.specs.Format.{vertices_in, unit_in, file_of, Contents, File}
use Rattle.meshfile.specs.Written.{chunk_of, plain_file, file_bytes, Proper, IsFileOf, Accepts}
use Rattle.meshfile.proofs.Fronts.{Record, front_is}
use Rattle.words.proofs.Bytes.{four_of, length_all, words_all}

-- ---- one record as it is written

module _ (kind : ℕ) (body rest : List ℕ) where
  written : length_fits kind (length body) ≡ true → length body / 4 ≤ most_in_file → Record kind (length body) (chunk_of kind body ++ rest)
  unfolding chunk_of bytes_of u16_at u32_at
  written fits few =
      record {
        kind_is = omega arith;
        size = four_of (length body) (omega arith);
        fits = fits;
        few = few;
        room = omega (arith, length-append body rest);
      }

  payload_written : take (length body) (drop 6 (chunk_of kind body ++ rest)) ≡ body
  unfolding chunk_of bytes_of
  payload_written = take-append_seam body rest

  behind_written : drop (6 + length body) (chunk_of kind body ++ rest) ≡ rest
  unfolding chunk_of bytes_of
  behind_written = sym (drop-drop (length body) 6 (chunk_of kind body ++ rest)) ∙ drop-append_seam body rest

-- words make a length that floats and ids may have
module _ (kind : ℕ) (p : eqb kind 1 ≡ false) (q : eqb kind 4 ≡ false) (ws rest : List ℕ) (few : length ws ≤ most_in_file) where
  words_fit : length_fits kind (length (all_bytes ws)) ≡ true
  unfolding length_fits
  words_fit = rw (p, q) (eq-eqb (length (all_bytes ws) % 4) 0 (omega (arith, length_all ws)))

  words_front : front_of kind (chunk_of kind (all_bytes ws) ++ rest) ≡ Ok (length (all_bytes ws))
  words_front =
      front_is kind (length (all_bytes ws)) (chunk_of kind (all_bytes ws) ++ rest)
      (written kind (all_bytes ws) rest words_fit (omega (arith, length_all ws)))

-- ---- the records in their order

ids_written : (u : ℕ) (vs is tail : List ℕ) (c d : ℕ) → Below (2 ^ 32) is → length is ≤ most_in_file
    → ending_of tail ≡ Ok (flag_values c d)
    → ids_in u vs (front_of 3 (chunk_of 3 (all_bytes is) ++ tail)) (chunk_of 3 (all_bytes is) ++ tail)
    ≡ Ok (record { unit = u; vertices = vs; ids = is; clip = c; defect = d })
unfolding ids_in ended
ids_written u vs is tail c d b few e =
    rw (words_front 3 refl refl is tail few, payload_written 3 (all_bytes is) tail, behind_written 3 (all_bytes is) tail, words_all is b, e)

vertices_written : (u : ℕ) (vs rest : List ℕ) (x : File) → Below (2 ^ 32) vs → length vs ≤ most_in_file → ids_in u vs (front_of 3 rest) rest ≡ x
    → vertices_in u (front_of 2 (chunk_of 2 (all_bytes vs) ++ rest)) (chunk_of 2 (all_bytes vs) ++ rest) ≡ x
unfolding vertices_in
vertices_written u vs rest x b few e =
    rw (words_front 2 refl refl vs rest few, payload_written 2 (all_bytes vs) rest, behind_written 2 (all_bytes vs) rest, words_all vs b) e

unit_front : (u : ℕ) (rest : List ℕ) → front_of 1 (chunk_of 1 (bytes_of u) ++ rest) ≡ Ok 4
unfolding bytes_of length_fits
unit_front u rest = front_is 1 4 (chunk_of 1 (bytes_of u) ++ rest) (written 1 (bytes_of u) rest refl (omega arith))

unit_word : (u : ℕ) (rest : List ℕ) → u < 2 ^ 32 → u32_at (chunk_of 1 (bytes_of u) ++ rest) 6 ≡ u
unfolding chunk_of bytes_of u32_at
unit_word u rest h = four_of u h

unit_behind : (u : ℕ) (rest : List ℕ) → drop (6 + 4) (chunk_of 1 (bytes_of u) ++ rest) ≡ rest
unfolding bytes_of
unit_behind u rest = behind_written 1 (bytes_of u) rest

unit_written : (u : ℕ) (rest : List ℕ) (x : File) → u < 2 ^ 32 → vertices_in u (front_of 2 rest) rest ≡ x
    → file_of (chunk_of 1 (bytes_of u) ++ rest) ≡ x
unfolding file_of unit_in
unit_written u rest x h e = rw (unit_front u rest, unit_word u rest h, unit_behind u rest) e

-- ---- the end

flags_written : (c d : ℕ) → T (flags_fit c d) → ending_of (chunk_of 4 (c ∷ d ∷ [])) ≡ Ok (flag_values c d)
unfolding ending_of chunk_of bytes_of flags_in front_of u16_at u32_at length_fits
flags_written c d h = rw (is_true (flags_fit c d) h)

pub appended : (a b c t : List ℕ) → (a ++ (b ++ c)) ++ t ≡ a ++ (b ++ (c ++ t))
appended a b c t = simp append_assoc

file_written : (m : Contents) (tail : List ℕ) → Proper m → ending_of tail ≡ Ok (flag_values m.clip m.defect)
    → file_of (plain_file m ++ tail) ≡ Ok m
unfolding plain_file
file_written m tail p e =
    rw (appended (chunk_of 1 (bytes_of m.unit)) (chunk_of 2 (all_bytes m.vertices)) (chunk_of 3 (all_bytes m.ids)) tail)
    (unit_written m.unit _ _ p.unit
    (vertices_written m.unit m.vertices _ _ p.vertices p.floats_most
    (ids_written m.unit m.vertices m.ids tail m.clip m.defect p.ids p.ids_most e)))

pub accepts : Accepts
unfolding IsFileOf file_bytes ending_of
accepts m bytes p (inl e) =
    ap file_of e ∙ file_written m (chunk_of 4 (m.clip ∷ m.defect ∷ [])) p (flags_written m.clip m.defect p.flags)
accepts m bytes p (inr e) = ap file_of (e.0 ∙ sym (append-nil (plain_file m))) ∙ file_written m [] p (rw (e.1, e.2))
