-- What is proved of the text of an STL beside the contract: which bytes do not show, which refusals it can meet; that input which is longer
-- than any file is refused, and its first bytes decide how; and demand 3, from that for a mesh. Assumes nothing.
use Rattle.std.specs.Prelude.{Result, Ok, Err}
use mathlib.Core.Path.{◌≡◌, refl, ap}
use Prim.Native.Nat.{ℕ, zero, suc, ◌+◌, ◌*◌, ◌≤◌, ◌<◌}
use mathlib.Core.Bool.{true, ◌||◌}
use mathlib.Core.List.{List}
use native.Mathlib.Omega.{arith}
use borrow.Author.Tests.{le-ltb, ne_eqb}
use lib.Dec.{T, eqb, ltb}
use lib.ListN.{length, take}
use lib.Seq.{take_all}
use lib.Ieee.{binary32, le, of_bits}
use Rattle.refusals.specs.Refusals.{unit_fits}
use Rattle.place.specs.Moved.{unit_enough}
use Rattle.meshfile.specs.Format.{Contents, File}
use Rattle.ids.specs.declared.refusal.Refusal.{Refusal}
use Rattle.stl.specs.Stl.{stl_length, stl_of, ids_to}
use Rattle.stl.specs.Reading.{most_triangles}
use Rattle.stl.specs.Worth.{IsStl, SameWhereSeen}
use Rattle.stl.proofs.Tests.{taken_exactly}
use Rattle.stl.proofs.Ids.{ids_length}
use Rattle.stl.proofs.Mesh.{mesh_of_stl}
use Rattle.stl.proofs.Unseen.{same_taken, same_corners}
use Rattle.stl.proofs.One.{Stl56, stl_56}
use Rattle.stl.proofs.Front.{stl_front_decides, stl_files_are_short}
use Rattle.program.specs.Program.{text_for}
use Rattle.program.specs.Promises.{check_file, check_stl, StlCheck, StlUnseen, KeptDecides, LongRefused}
use Rattle.program.specs.Place.{mesh_floats, mesh_unit, StlTextDoesNotShow}
use Rattle.program.specs.StlText.{stl_unit, stl_contents, stl_file, stl_text_of}
use Rattle.meshfile.proofs.One.{File56}
use Rattle.program.proofs.Printed.{front_alike, refused_text}
use Rattle.program.proofs.Suffice.{areas_suffice}
use Rattle.program.proofs.Place.{moved_texts}

-- nine floats a triangle
nine_each : (bytes : List ℕ) (n : ℕ) → stl_of most_triangles bytes ≡ Ok n → length (mesh_floats (stl_contents bytes n)) ≡ 9 * n
nine_each bytes n e =
    let is : IsStl most_triangles n bytes = (taken_exactly most_triangles n bytes).only_these e in
    (mesh_of_stl n bytes (omega (arith, is.size))).floats_length

-- ---- what does not show, and what can be refused

file_alike : (bytes bytes' : List ℕ) → SameWhereSeen bytes bytes' → (r : Result ℕ Refusal) → stl_file r bytes' ≡ stl_file r bytes
unfolding stl_file
file_alike bytes bytes' same (Err n) = refl
file_alike bytes bytes' same (Ok n) = rw (same_corners bytes bytes' same n)

pub stl_unseen : StlUnseen
unfolding stl_text_of
stl_unseen bytes bytes' same =
    rw (same_taken bytes bytes' same most_triangles) (ap text_for (file_alike bytes bytes' same (stl_of most_triangles bytes)))

fits : unit_fits (of_bits binary32 stl_unit) ≡ true
unfolding unit_fits le of_bits
fits = refl

-- none, or at least one, by the numbers of ids and floats
none_or_some : (n : ℕ) → (ltb (3 * n) 3 || ltb (9 * n) 9) ≡ eqb n 0
none_or_some zero = refl
none_or_some (suc n) =
    rw (le-ltb (3 * suc n) 3 (omega arith), le-ltb (9 * suc n) 9 (omega arith), ne_eqb (suc n) 0 (λ q. omega (arith, q)))

pub stl_check : StlCheck
unfolding check_file check_stl
stl_check bytes n e =
    let m = stl_contents bytes n in
    let few = ((taken_exactly most_triangles n bytes).only_these e).few in
    let floats = nine_each bytes n e in
    rw (
      areas_suffice (mesh_floats m) m.ids (mesh_unit m) (omega (arith, floats)) (omega (arith, ids_length n)),
      ids_length n,
      floats,
      none_or_some n,
      fits,
    )

-- ---- input that is longer than any file

module _ (bytes : List ℕ) (long : stl_length most_triangles < length bytes) where
  no_mesh : (n : ℕ) → stl_of most_triangles bytes ≡ Ok n → ⊥
  no_mesh n e = let short = stl_files_are_short most_triangles n bytes e in omega arith

-- of a refusal the bytes are not asked
refused_alike : (r : Result ℕ Refusal) → ((n : ℕ) → r ≡ Ok n → ⊥) → (bytes bytes' : List ℕ) → stl_file r bytes ≡ stl_file r bytes'
unfolding stl_file
refused_alike (Err n) none bytes bytes' = refl
refused_alike (Ok n) none bytes bytes' = absurd (none n refl)

pub stl_text_front_decides : KeptDecides stl_text_of (stl_length most_triangles)
unfolding stl_text_of
stl_text_front_decides bytes long =
    rw (stl_front_decides most_triangles bytes long)
    (ap text_for (refused_alike (stl_of most_triangles bytes) (no_mesh bytes long) (take (stl_length most_triangles + 1) bytes) bytes))

pub stl_text_front : (l : ℕ) (input : List ℕ) → stl_length most_triangles + 1 ≤ l → stl_text_of (take l input) ≡ stl_text_of input
stl_text_front = front_alike stl_text_of (stl_length most_triangles) stl_text_front_decides

-- what `run_stl_front` needs to know
pub ruleset by_stl_front = (take_all, stl_text_front)

refused_56 : (r : Result ℕ Refusal) (bytes : List ℕ) → Stl56 r → File56 (stl_file r bytes)
unfolding stl_file
refused_56 (Err n) bytes h = h
refused_56 (Ok n) bytes h = tt

not_held : (r : Result ℕ Refusal) (bytes : List ℕ) → ((n : ℕ) → r ≡ Ok n → ⊥) → (m : Contents) → stl_file r bytes ≡ Ok m → ⊥
unfolding stl_file
not_held (Err n) bytes none m e = let y : ◌≡◌ {A = ℕ} 0 1 = cc in absurd (omega arith)
not_held (Ok n) bytes none m e = none n refl

pub stl_long_refused : LongRefused stl_text_of (stl_length most_triangles)
unfolding stl_text_of
stl_long_refused bytes long =
    let r = stl_of most_triangles bytes in
    refused_text (stl_file r bytes) (refused_56 r bytes (stl_56 most_triangles bytes)) (not_held r bytes (no_mesh bytes long))

-- ---- demand 3

enough : T (unit_enough (of_bits binary32 stl_unit))
unfolding le of_bits
enough = tt

pub stl_text_does_not_show : StlTextDoesNotShow
unfolding stl_text_of stl_file
stl_text_does_not_show dx dy dz bytes bytes' n n' e e' moved =
    let same : n' ≡ n = omega (arith, nine_each bytes n e, nine_each bytes' n' e', moved.lengths) in
    rw (e, e') (moved_texts dx dy dz (stl_contents bytes n) (stl_contents bytes' n') refl (ap ids_to same) refl refl moved enough)
