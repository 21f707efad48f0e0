-- What reading gives: a fault, too short an area, or both areas filled; the same whatever the vertices' words are taken as. Assumes
-- nothing.
use Rattle.std.specs.Prelude.{Result, Ok, Err}
use mathlib.Core.Path.{◌≡◌, refl, sym, ap, ◌∙◌, subst}
use mathlib.Core.Bool.{Bool, true, false, ◌||◌, cond}
use mathlib.Core.List.{List, ◌++◌, map}
use Prim.Native.Nat.{ℕ, ◌+◌, ◌*◌, ◌≤◌}
use native.Mathlib.Omega.{arith}
use borrow.Author.Tests.{ltb-false}
use lib.Dec.{ltb}
use lib.ListN.{length, take, drop}
use Rattle.ids.proofs.Groups.{neither}
use Rattle.words.proofs.Parts.{part_words}
use Rattle.words.specs.Words.{words_in}
use Rattle.meshfile.specs.declared.MeshFile.{MeshFile}
use Rattle.meshfile.specs.declared.Parts.{Parts}
use Rattle.meshfile.specs.Format.{Contents, File, file_of}
use Rattle.meshfile.specs.Reading.{mesh_areas_short, mesh_as, mesh_bits, unit_as, answer_as, reading_of, vertices_after, ids_after, ReadsAs}
use Rattle.meshfile.specs.inner.Steps.{layout_of, in_room, contents_at, IdsRead}
use Rattle.meshfile.proofs.Layouts.{laid_inside, inside, file_holds, file_refused, held}
use Rattle.meshfile.proofs.One.{as_refused, kept}
use Rattle.ids.specs.declared.refusal.Refusal.{Refusal}

-- ---- the areas' lengths, as the code tests them

abbrev too_short : ℕ → ℕ → Parts → Bool
too_short v w p = ltb v p.floats || ltb w p.ids

-- what was found in the room is the layout
module _ (v w : ℕ) where
  cut_whole : (b : Bool) (q p : Parts) → cond b (Err Refusal.ShortArea) (Ok q) ≡ Ok p → (b ≡ false) × (q ≡ p)
  cut_whole true q p h = let y : ◌≡◌ {A = ℕ} 0 1 = cc in absurd (omega arith)
  cut_whole false q p h = (refl, cc)

  room_whole : (l : Result Parts Refusal) (p : Parts) → in_room v w l ≡ Ok p → (l ≡ Ok p) × (too_short v w p ≡ false)
  unfolding in_room
  room_whole (Err n) p h = let y : ◌≡◌ {A = ℕ} 0 1 = cc in absurd (omega arith)
  room_whole (Ok q) p h =
      let x = cut_whole (too_short v w q) q p h in
      (ap Ok x.1, sym (ap (too_short v w) x.1) ∙ x.0)

-- ---- all but the vertices

module _ {A : Type 0} (of_word : ℕ → A) (bytes : List ℕ) (v : ℕ) (ids : List ℕ) where
  -- the test is the definition's
  short_is : (p : Parts) → layout_of bytes ≡ Ok p
      → mesh_areas_short (contents_at bytes p) v (length ids) ≡ too_short v (length ids) p
  unfolding mesh_areas_short contents_at
  short_is p whole =
      let room = inside bytes p whole in
      rw (part_words 16 p.floats bytes (omega arith), part_words (22 + 4 * p.floats) p.ids bytes room)

  fault : (n : Refusal) → layout_of bytes ≡ Err n → IdsRead of_word bytes v ids (Err n) ids
  unfolding reading_of answer_as ids_after
  fault n h =
      let at = file_refused bytes n h in
      record { answers = rw at; ids_after_lem = rw at }

  short : (p : Parts) → layout_of bytes ≡ Ok p → too_short v (length ids) p ≡ true → IdsRead of_word bytes v ids (Err Refusal.ShortArea) ids
  unfolding reading_of answer_as ids_after
  short p whole q =
      let at = file_holds bytes p whole in
      let s = short_is p whole ∙ q in
      record { answers = rw (at, s); ids_after_lem = rw (at, s) }

  cut_fault : (b : Bool) (p : Parts) (n : Refusal) → layout_of bytes ≡ Ok p → too_short v (length ids) p ≡ b
      → cond b (Err Refusal.ShortArea) (Ok p) ≡ Err n
      → IdsRead of_word bytes v ids (Err n) ids
  cut_fault true p n whole s h =
      let three : Refusal.ShortArea ≡ n = cc in
      subst (λ (k : Refusal). IdsRead of_word bytes v ids (Err k) ids) three (short p whole s)
  cut_fault false p n whole s h = let y : ◌≡◌ {A = ℕ} 0 1 = cc in absurd (omega arith)

  by_layout : (l : Result Parts Refusal) (n : Refusal) → layout_of bytes ≡ l → in_room v (length ids) l ≡ Err n
      → IdsRead of_word bytes v ids (Err n) ids
  unfolding in_room
  by_layout (Err k) n e h =
      let same : k ≡ n = cc in
      subst (λ (j : Refusal). IdsRead of_word bytes v ids (Err j) ids) same (fault k e)
  by_layout (Ok p) n e h = cut_fault (too_short v (length ids) p) p n e refl h

  pub refused : (n : Refusal) → Err n ≡ in_room v (length ids) (layout_of bytes) → IdsRead of_word bytes v ids (Err n) ids
  refused n h = by_layout (layout_of bytes) n refl (sym h)

  module _ (p : Parts) (h : Ok p ≡ in_room v (length ids) (layout_of bytes)) where
    pub fits : (22 + 4 * p.floats + 4 * p.ids ≤ length bytes) × (p.ids ≤ length ids)
    fits =
        let x = room_whole v (length ids) (layout_of bytes) p (sym h) in
        (inside bytes p x.0, ltb-false _ _ (neither (ltb v p.floats) (ltb (length ids) p.ids) x.1).1)

    pub given : (b : MeshFile A) (ids' : List ℕ) → b ≡ mesh_as of_word (contents_at bytes p)
        → ids' ≡ (contents_at bytes p).ids ++ drop p.ids ids
        → IdsRead of_word bytes v ids (Ok b) ids'
    unfolding reading_of answer_as ids_after contents_at
    given b ids' hb hi =
        let x = room_whole v (length ids) (layout_of bytes) p (sym h) in
        let at = file_holds bytes p x.0 in
        let s = short_is p x.0 ∙ x.1 in
        let li = part_words (22 + 4 * p.floats) p.ids bytes (inside bytes p x.0) in
        record { answers = rw (at, s) (ap Ok hb); ids_after_lem = rw (at, s, li) hi }

-- ---- the vertices, whatever their words are taken as

-- a file's vertices stand from byte 16 on
vertices_at : (bytes : List ℕ) (k : Contents) → file_of bytes ≡ Ok k
    → (16 + 4 * length k.vertices ≤ length bytes) × (k.vertices ≡ words_in (take (4 * length k.vertices) (drop 16 bytes)))
unfolding contents_at
vertices_at bytes k h =
    let x = held bytes k h in
    let p = x.0 in
    let room = laid_inside bytes p x.1 in
    let vertices : words_in (take (4 * p.floats) (drop 16 bytes)) ≡ k.vertices = ap (λ (m : Contents). m.vertices) x.2 in
    let long : length k.vertices ≡ p.floats = sym (ap length vertices) ∙ part_words 16 p.floats bytes (omega arith) in
    rw long (omega (arith, room), sym vertices)

read_held : (short : Bool) (k : Contents) (m : MeshFile ℕ)
    → Ok m ≡ cond short (Err Refusal.ShortArea) (Ok (mesh_bits k)) → (short ≡ false) × (m ≡ mesh_bits k)
read_held true k m h = let z : ◌≡◌ {A = ℕ} 0 1 = cc in absurd (omega arith)
read_held false k m h = (refl, cc)

-- what was read is what a file holds, in areas with room for it
pub reading_held : (f : File) (v w : ℕ) (m : MeshFile ℕ) → Ok m ≡ reading_of f v w
    → (k : Contents) × (f ≡ Ok k) × (mesh_areas_short k v w ≡ false) × (m ≡ mesh_bits k)
unfolding reading_of
reading_held (Err n) v w m h = let z : ◌≡◌ {A = ℕ} 0 1 = cc in absurd (omega arith)
reading_held (Ok k) v w m h =
    let x = read_held (mesh_areas_short k v w) k m h in
    (k, refl, x.0, x.1)

answer_held : {A : Type 0} (of_word : ℕ → A) (b : Result (MeshFile ℕ) Refusal) (m : MeshFile A) → Ok m ≡ answer_as of_word b
    → (k : MeshFile ℕ) × (Ok k ≡ b) × (m ≡ unit_as of_word k)
unfolding answer_as
answer_held of_word (Err n) m h = let z : ◌≡◌ {A = ℕ} 0 1 = cc in absurd (omega arith)
answer_held of_word (Ok k) m h = (k, refl, cc)

module _ {A : Type 0} (of_word : ℕ → A) {bytes : List ℕ} {v : ℕ} {ids : List ℕ} {r : Result (MeshFile A) Refusal} {ids' : List ℕ}
    (x : IdsRead of_word bytes v ids r ids') {m : MeshFile A} (e : r ≡ Ok m) where
  found : (k : Contents) × (file_of bytes ≡ Ok k) × (mesh_areas_short k v (length ids) ≡ false) × (m ≡ mesh_as of_word k)
  found =
      let a = answer_held of_word (reading_of (file_of bytes) v (length ids)) m (sym e ∙ x.answers) in
      let k = reading_held (file_of bytes) v (length ids) a.0 a.1 in
      (k.0, k.1, k.2, a.2 ∙ ap (unit_as of_word) k.3)

  pub room : (16 + 4 * m.floats ≤ length bytes) × (m.floats ≤ v)
  unfolding mesh_areas_short
  room =
      let k = found.0 in
      let long = ltb-false _ _ (neither (ltb v (length k.vertices)) (ltb (length ids) (length k.ids)) found.2).0 in
      rw found.3 ((vertices_at bytes k found.1).0, long)

vertices_after_lem : {A : Type 0} (taken : List ℕ → List A) (bytes : List ℕ) (vs : List A) (ids : List ℕ) (k : Contents) (n : ℕ)
    → file_of bytes ≡ Ok k → mesh_areas_short k (length vs) (length ids) ≡ false → n ≡ length k.vertices
    → taken (words_in (take (4 * n) (drop 16 bytes))) ++ drop n vs ≡ vertices_after taken (file_of bytes) (length ids) vs
unfolding vertices_after
vertices_after_lem taken bytes vs ids k n at roomy same = rw (at, roomy, same, ← (vertices_at bytes k at).1)

module _ {A : Type 0} (of_word : ℕ → A) {bytes : List ℕ} {vs : List A} {ids : List ℕ} {r : Result (MeshFile A) Refusal} {ids' : List ℕ}
    (x : IdsRead of_word bytes (length vs) ids r ids') where
  pub unread : {n : Refusal} → r ≡ Err n → ReadsAs (map of_word) (answer_as of_word) bytes vs ids (Err n) vs ids'
  unread {n} e =
      let said = as_refused of_word _ n (sym e ∙ x.answers) in
      record {
        answers = sym e ∙ x.answers;
        vertices = sym (kept (map of_word) (file_of bytes) vs ids n said).0;
        ids_after_lem = x.ids_after_lem;
      }

  pub filled : {m : MeshFile A} → r ≡ Ok m → {vs' : List A}
      → vs' ≡ map of_word (words_in (take (4 * m.floats) (drop 16 bytes))) ++ drop m.floats vs
      → ReadsAs (map of_word) (answer_as of_word) bytes vs ids (Ok m) vs' ids'
  filled {m} e h =
      let k = found of_word x e in
      record {
        answers = sym e ∙ x.answers;
        vertices = h ∙ vertices_after_lem (map of_word) bytes vs ids k.0 m.floats k.1 k.2 (ap (λ (f : MeshFile A). f.floats) k.3);
        ids_after_lem = x.ids_after_lem;
      }
