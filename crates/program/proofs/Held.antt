-- What is printed for a file that was read is the text of its bytes: its floats and ids stand first in the two areas, which are never too
-- short.
use Rattle.std.specs.Prelude.{Result, Ok, Err, IfOk}
use Rattle.ids.specs.declared.refusal.Refusal.{Refusal}
use mathlib.Core.Path.{◌≡◌, refl, sym, ap, ◌∙◌}
use Prim.Native.Nat.{ℕ, ◌≤◌}
use mathlib.Core.Bool.{false}
use mathlib.Core.List.{List}
use lib.ListN.{length, take, drop}
use lib.Seq.{take_at}
use lib.Ieee.{Float}
use Rattle.words.proofs.Parts.{length_floats}
use Rattle.words.specs.Words.{floats_of}
use Rattle.meshfile.specs.declared.MeshFile.{MeshFile}
use Rattle.meshfile.specs.Format.{Contents, File, file_of}
use Rattle.meshfile.specs.Reading.{mesh_areas_short, reading_of, answer_as, as_floats, vertices_after, ids_after, Reads}
use Rattle.meshfile.proofs.Most.{never_short, reads_most}
use Rattle.program.specs.Program.{text_for, text_of}
use Rattle.program.specs.inner.Read.{read_text}

-- what holds of what was read, if something was
pub of_read : {A E : Type 0} (r : Result A E) (P : A → Type 0) → ((m : A) → r ≡ Ok m → P m) → IfOk r P
of_read (Ok m) P h = h m refl
of_read (Err e) P h = tt

module _ (vs : List Float) (ids : List ℕ) where
  text_by_lem : (f : File) → ((m : Contents) → f ≡ Ok m → mesh_areas_short m (length vs) (length ids) ≡ false)
      → read_text (vertices_after floats_of f (length ids) vs) (ids_after f (length vs) ids) (as_floats (reading_of f (length vs) (length ids)))
      ≡ text_for f
  unfolding read_text vertices_after ids_after reading_of answer_as text_for
  text_by_lem (Err n) h = refl
  text_by_lem (Ok m) h =
      rw (
        h m refl,
        take_at (floats_of m.vertices) (drop (length m.vertices) vs) (length m.vertices) (length_floats m.vertices),
        take_at m.ids (drop (length m.ids) ids) (length m.ids) refl,
      )

  module _ (hv : length vs ≡ 1536) (hi : length ids ≡ 1536) (bytes : List ℕ) (r : Result (MeshFile Float) Refusal) (vs' : List Float) (ids' : List ℕ)
      (made : Reads bytes vs ids r vs' ids') where
    pub text_of_lem : read_text vs' ids' r ≡ text_of bytes
    unfolding text_of
    text_of_lem = rw (made.answers, made.vertices, made.ids_after_lem) (text_by_lem (file_of bytes) (λ m h. rw (hv, hi) (never_short bytes m h)))

    pub few_read : IfOk r (λ m. (m.floats ≤ 1536) × (m.ids ≤ 1536))
    few_read = of_read r _ (reads_most bytes vs ids r vs' ids' made)
