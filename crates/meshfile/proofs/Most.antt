-- A file holds at most 1,536 floats and 1,536 ids, so areas of that length are never too short, and what was read is no longer.
use Rattle.std.specs.Prelude.{Result, Ok, Err}
use mathlib.Core.Path.{◌≡◌, sym, subst, ◌∙◌}
use mathlib.Core.Bool.{Bool, true, false, cond}
use mathlib.Core.List.{List}
use Prim.Native.Nat.{ℕ, ◌+◌, ◌*◌, ◌/◌, ◌≤◌}
use native.Mathlib.Omega.{arith}
use borrow.Author.Tests.{le-ltb}
use lib.Ieee.{Float}
use lib.ListN.{length, take, drop, length-take}
use Rattle.words.specs.Words.{words_in}
use Rattle.meshfile.specs.declared.MeshFile.{MeshFile}
use Rattle.meshfile.specs.declared.Parts.{Parts}
use Rattle.meshfile.specs.Format.{most_in_file, Contents, File, file_of}
use Rattle.meshfile.specs.Reading.{mesh_areas_short, mesh_bits, reading_of, answer_as, as_floats, Reads, ReadsBits}
use Rattle.meshfile.specs.inner.Steps.{layout_of, contents_at, file_at}
use Rattle.words.proofs.Parts.{length_words}
use Rattle.meshfile.proofs.Layouts.{Stands, file_is, stands}
use Rattle.ids.specs.declared.refusal.Refusal.{Refusal}

few_words : (n : ℕ) (l : List ℕ) → 4 * n / 4 ≤ most_in_file → length (words_in (take (4 * n) l)) ≤ most_in_file
few_words n l h = rw (length_words (take (4 * n) l)) (omega (arith, length-take (4 * n) l))

abbrev Few : File → Type 0
Few (Err n) = Unit {0}
Few (Ok m) = (length m.vertices ≤ most_in_file) × (length m.ids ≤ most_in_file)

few : (bytes : List ℕ) (l : Result Parts Refusal) → Stands bytes l → Few (file_at bytes l)
unfolding Stands file_at contents_at
few bytes (Err n) s = tt
few bytes (Ok p) s =
    (few_words p.floats (drop 16 bytes) s.floats.few, few_words p.ids (drop (22 + 4 * p.floats) bytes) s.ids.few)

module _ (bytes : List ℕ) (m : Contents) (h : file_of bytes ≡ Ok m) where
  pub holds_most : (length m.vertices ≤ most_in_file) × (length m.ids ≤ most_in_file)
  holds_most = subst Few h (rw (file_is bytes) (few bytes (layout_of bytes) (stands bytes)))

  pub never_short : mesh_areas_short m 1536 1536 ≡ false
  unfolding mesh_areas_short
  never_short = rw (le-ltb 1536 (length m.vertices) holds_most.0, le-ltb 1536 (length m.ids) holds_most.1)

abbrev Small : Result (MeshFile ℕ) Refusal → Type 0
Small (Err n) = Unit {0}
Small (Ok m) = (m.floats ≤ most_in_file) × (m.ids ≤ most_in_file)

small_by : (b : Bool) (m : Contents) → Few (Ok m) → Small (cond b (Err Refusal.ShortArea) (Ok (mesh_bits m)))
small_by true m h = tt
small_by false m h = h

small : (f : File) (v w : ℕ) → Few f → Small (reading_of f v w)
unfolding reading_of
small (Err n) v w h = tt
small (Ok m) v w h = small_by (mesh_areas_short m v w) m h

small_reading : (bytes : List ℕ) (v w : ℕ) → Small (reading_of (file_of bytes) v w)
small_reading bytes v w = small (file_of bytes) v w (rw (file_is bytes) (few bytes (layout_of bytes) (stands bytes)))

pub reads_most_bits : (bytes ps ids : List ℕ) (r : Result (MeshFile ℕ) Refusal) (ps' ids' : List ℕ) → ReadsBits bytes ps ids r ps' ids'
    → (m : MeshFile ℕ) → r ≡ Ok m → (m.floats ≤ most_in_file) × (m.ids ≤ most_in_file)
reads_most_bits bytes ps ids r ps' ids' made m e =
    subst Small (sym made.answers ∙ e) (small_reading bytes (length ps) (length ids))

-- and of floats
small_floats : (b : Result (MeshFile ℕ) Refusal) (m : MeshFile Float) → Small b → as_floats b ≡ Ok m
    → (m.floats ≤ most_in_file) × (m.ids ≤ most_in_file)
unfolding answer_as
small_floats (Err n) m h e = let y : ◌≡◌ {A = ℕ} 0 1 = cc in absurd (omega arith)
small_floats (Ok b) m h e =
    let f : b.floats ≡ m.floats = cc in
    let i : b.ids ≡ m.ids = cc in
    rw (f, i) at h

pub reads_most : (bytes : List ℕ) (vs : List Float) (ids : List ℕ) (r : Result (MeshFile Float) Refusal) (vs' : List Float) (ids' : List ℕ)
    → Reads bytes vs ids r vs' ids'
    → (m : MeshFile Float) → r ≡ Ok m → (m.floats ≤ most_in_file) × (m.ids ≤ most_in_file)
reads_most bytes vs ids r vs' ids' made m e =
    small_floats (reading_of (file_of bytes) (length vs) (length ids)) m (small_reading bytes (length vs) (length ids))
    (sym made.answers ∙ e)
