-- What is printed for an STL that was read is the text of its mesh: its corners and ids stand first in the two areas, which are never too
-- short. Assumes nothing.
use Rattle.std.specs.Prelude.{Option, None, Result, Ok, Err, IfOk, MatchResult, IsOkAnd}
use Rattle.ids.specs.declared.refusal.Refusal.{Refusal}
use Rattle.meshfile.specs.declared.MeshFile.{MeshFile}
use mathlib.Core.Path.{◌≡◌, refl, sym, ◌∙◌}
use Prim.Native.Nat.{ℕ, ◌*◌, ◌≤◌}
use mathlib.Core.Bool.{Bool, false}
use mathlib.Core.List.{List}
use native.Mathlib.Omega.{arith}
use borrow.Author.Tests.{le-ltb}
use lib.ListN.{length, take, drop}
use lib.Seq.{take_at}
use lib.Ieee.{Float, binary32, of_bits}
use Rattle.record.specs.declared.ProfileDefect.{ProfileDefect}
use Rattle.record.specs.Numbers.{profile_at}
use Rattle.words.specs.Words.{floats_of}
use Rattle.stl.specs.Stl.{stl_of, corners_to, ids_to}
use Rattle.stl.specs.Reading.{most_triangles, in_areas, corners_later, ids_later, ReadsStl}
use Rattle.stl.specs.Worth.{IsStl}
use Rattle.stl.proofs.Tests.{taken_exactly}
use Rattle.stl.proofs.Mesh.{mesh_of_stl}
use Rattle.program.specs.Program.{mesh_text, text_for}
use Rattle.program.specs.StlText.{stl_unit, stl_file, stl_text_of}
use Rattle.program.specs.inner.Read.{OfTriangles, read_text}

-- with areas of 1,536 nothing is too short, so the answer is the file's
in_areas_lem : (bytes : List ℕ) (r : Result ℕ Refusal) → stl_of most_triangles bytes ≡ r → in_areas r 1536 1536 ≡ r
unfolding in_areas
in_areas_lem bytes (Err n) e = refl
in_areas_lem bytes (Ok n) e =
    let few = ((taken_exactly most_triangles n bytes).only_these e).few in
    rw (le-ltb 1536 (9 * n) (omega arith), le-ltb 1536 (3 * n) (omega arith))

module _ (bytes : List ℕ) (vs : List Float) (ids : List ℕ) (hv : length vs ≡ 1536) (hi : length ids ≡ 1536) (r : Result ℕ Refusal)
    (vs' : List Float) (ids' : List ℕ) (made : ReadsStl most_triangles bytes vs ids r vs' ids') where
  answer_is : stl_of most_triangles bytes ≡ r
  answer_is = sym (made.answers ∙ rw (hv, hi) (in_areas_lem bytes (stl_of most_triangles bytes) refl))

  module _ (n : ℕ) (e : r ≡ Ok n) where
    is_stl : IsStl most_triangles n bytes
    is_stl = (taken_exactly most_triangles n bytes).only_these (answer_is ∙ e)

    corners_first : take (9 * n) vs' ≡ floats_of (corners_to bytes n)
    unfolding corners_later
    corners_first =
        rw (made.floats, e)
        (take_at (floats_of (corners_to bytes n)) (drop (9 * n) vs) (9 * n)
        (mesh_of_stl n bytes (omega (arith, is_stl.size))).floats_length)

    ids_first : take (3 * n) ids' ≡ ids_to n
    unfolding ids_later
    ids_first =
        rw (made.ids_later_lem, e)
        (take_at (ids_to n) (drop (3 * n) ids) (3 * n) (mesh_of_stl n bytes (omega (arith, is_stl.size))).ids_length)

    pub mesh_text_lem : (u : Float) (clip : Bool) (profile : Option ProfileDefect) → u ≡ of_bits binary32 stl_unit → clip ≡ false
        → profile ≡ None → mesh_text (take (9 * n) vs') (take (3 * n) ids') u clip profile ≡ stl_text_of bytes
    unfolding stl_text_of stl_file text_for profile_at
    mesh_text_lem u clip profile eu ec ep = rw (answer_is, e, corners_first, ids_first, eu, ec, ep)

  -- what was read, and the mesh that was made of it
  abbrev pub Made : Result ℕ Refusal → Result (MeshFile Float) Refusal → Type 0
  Made found mesh = MatchResult found (λ n. IsOkAnd mesh (OfTriangles n)) (λ e. mesh ≡ Err e)

  text_by_lem : (found : Result ℕ Refusal) → r ≡ found → (mesh : Result (MeshFile Float) Refusal) → Made found mesh
      → read_text vs' ids' mesh ≡ stl_text_of bytes
  unfolding read_text stl_text_of stl_file text_for
  text_by_lem (Err e) q mesh h = rw (h, answer_is, q)
  text_by_lem (Ok n) q (Ok m) h = rw (h.floats, h.ids) (mesh_text_lem n q m.unit m.clip m.profile h.unit h.clip h.profile)
  text_by_lem (Ok n) q (Err e) h = absurd h

  few_by : (found : Result ℕ Refusal) → r ≡ found → (mesh : Result (MeshFile Float) Refusal) → Made found mesh
      → IfOk mesh (λ m. (m.floats ≤ 1536) × (m.ids ≤ 1536))
  few_by found q (Err e) h = tt
  few_by (Ok n) q (Ok m) h =
      let few = (is_stl n q).few in
      (omega (arith, h.floats), omega (arith, h.ids))
  few_by (Err e) q (Ok m) h = let y : ◌≡◌ {A = ℕ} 0 1 = cc in absurd (omega arith)

  pub few_found : (n : ℕ) → r ≡ Ok n → n ≤ 170
  few_found n e = (is_stl n e).few

  pub text_of_lem : (mesh : Result (MeshFile Float) Refusal) → Made r mesh → read_text vs' ids' mesh ≡ stl_text_of bytes
  text_of_lem mesh h = text_by_lem r refl mesh h

  pub few_read : (mesh : Result (MeshFile Float) Refusal) → Made r mesh → IfOk mesh (λ m. (m.floats ≤ 1536) × (m.ids ≤ 1536))
  few_read mesh h = few_by r refl mesh h
