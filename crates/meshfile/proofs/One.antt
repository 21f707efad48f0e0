-- Reading has one outcome; a refusal is 3, 5 or 6, and writes nothing; and `read` is `read_bits` with floats for patterns. Assumes nothing.
use Rattle.std.specs.Prelude.{Result, Ok, Err}
use mathlib.Core.Path.{◌≡◌, refl, sym, ap, ◌∙◌, subst}
use mathlib.Core.Bool.{Bool, true, false, not, cond}
use mathlib.Core.List.{List, [], ◌∷◌, ◌++◌, map, map-id}
use mathlib.Core.Logic.{◌⊎◌, inl, inr}
use Prim.Native.Nat.{ℕ, zero, suc, ◌+◌, ◌/◌}
use native.Mathlib.Omega.{arith}
use lib.Dec.{eqb, ltb}
use lib.Ieee.{Float, binary32, of_bits}
use lib.ListN.{length, drop}
use Rattle.record.specs.Numbers.{flags_fit}
use Rattle.words.specs.Words.{byte, u16_at, u32_at, floats_of}
use Rattle.words.proofs.Parts.{length_floats}
use Rattle.meshfile.specs.declared.FlagValues.{FlagValues}
use Rattle.meshfile.specs.declared.MeshFile.{MeshFile}
use Rattle.meshfile.specs.Format.{flag_values, most_in_file, length_fits, Contents, File, front_of, flags_in, ending_of, ended}
use Rattle.meshfile.specs.Format.{ids_in, vertices_in, unit_in, file_of}
use Rattle.meshfile.specs.Reading.{mesh_areas_short, mesh_bits, reading_of, answer_as, as_floats}
use Rattle.meshfile.specs.Reading.{vertices_after, ids_after, ReadsAs, ReadsBits, By356}
use Rattle.meshfile.specs.Reading.{RefusedReading, RefusedReadingBits, ReadOne, ReadAsFloats}
use Rattle.ids.specs.declared.refusal.Refusal.{Refusal}

pub read_one : ReadOne
read_one A R taken answer bytes vs ids r r' vs₁ vs₂ ids₁ ids₂ x y =
    (x.answers ∙ sym y.answers, x.vertices ∙ sym y.vertices, x.ids_after_lem ∙ sym y.ids_after_lem)

-- ---- a fault is 5 or 6

abbrev pub FiveOrSix : Refusal → Type 0
FiveOrSix n = (n ≡ Refusal.File) ⊎ (n ≡ Refusal.FileTooLarge)

abbrev Front56 : Result ℕ Refusal → Type 0
Front56 (Err n) = FiveOrSix n
Front56 (Ok n) = Unit {0}

abbrev Ending56 : Result FlagValues Refusal → Type 0
Ending56 (Err n) = FiveOrSix n
Ending56 (Ok flags) = Unit {0}

abbrev pub File56 : File → Type 0
File56 (Err n) = FiveOrSix n
File56 (Ok m) = Unit {0}

tests_56 : (a b c d e : Bool) (n : ℕ) → Front56
    (cond a (Err Refusal.File) (cond b (Err Refusal.File)
    (cond c (Err Refusal.File) (cond d (Err Refusal.FileTooLarge) (cond e (Err Refusal.File) (Ok n))))))
tests_56 true b c d e n = inl refl
tests_56 false true c d e n = inl refl
tests_56 false false true d e n = inl refl
tests_56 false false false true e n = inr refl
tests_56 false false false false true n = inl refl
tests_56 false false false false false n = tt

front_56 : (kind : ℕ) (bytes : List ℕ) → Front56 (front_of kind bytes)
unfolding front_of
front_56 kind bytes =
    let n = u32_at bytes 0 in
    tests_56 (ltb (length bytes) 6) (not (eqb (u16_at bytes 4) kind)) (not (length_fits kind n)) (ltb most_in_file (n / 4))
    (ltb (length bytes) (6 + n)) n

values_56 : (a b : Bool) (c d : ℕ) → Ending56 (cond a (cond b (Err Refusal.File) (Ok (flag_values c d))) (Err Refusal.File))
values_56 true true c d = inl refl
values_56 true false c d = tt
values_56 false b c d = inl refl

flags_56 : (k : Result ℕ Refusal) (bytes : List ℕ) → Front56 k → Ending56 (flags_in k bytes)
unfolding flags_in
flags_56 (Err n) bytes h = h
flags_56 (Ok n) bytes h =
    values_56 (flags_fit (byte bytes 6) (byte bytes 7)) (ltb (6 + n) (length bytes)) (byte bytes 6) (byte bytes 7)

ending_56 : (bytes : List ℕ) → Ending56 (ending_of bytes)
unfolding ending_of
ending_56 [] = tt
ending_56 (b ∷ bytes) = flags_56 (front_of 4 (b ∷ bytes)) (b ∷ bytes) (front_56 4 (b ∷ bytes))

ended_56 : (u : ℕ) (vs is : List ℕ) (e : Result FlagValues Refusal) → Ending56 e → File56 (ended u vs is e)
unfolding ended
ended_56 u vs is (Err n) h = h
ended_56 u vs is (Ok flags) h = tt

ids_56 : (u : ℕ) (vs : List ℕ) (k : Result ℕ Refusal) (bytes : List ℕ) → Front56 k → File56 (ids_in u vs k bytes)
unfolding ids_in
ids_56 u vs (Err n) bytes h = h
ids_56 u vs (Ok n) bytes h = ended_56 u vs _ _ (ending_56 _)

vertices_56 : (u : ℕ) (k : Result ℕ Refusal) (bytes : List ℕ) → Front56 k → File56 (vertices_in u k bytes)
unfolding vertices_in
vertices_56 u (Err n) bytes h = h
vertices_56 u (Ok n) bytes h = ids_56 u _ _ _ (front_56 3 _)

unit_56 : (k : Result ℕ Refusal) (bytes : List ℕ) → Front56 k → File56 (unit_in k bytes)
unfolding unit_in
unit_56 (Err n) bytes h = h
unit_56 (Ok n) bytes h = vertices_56 _ _ _ (front_56 2 _)

pub file_56 : (bytes : List ℕ) → File56 (file_of bytes)
unfolding file_of
file_56 bytes = unit_56 (front_of 1 bytes) bytes (front_56 1 bytes)

-- ---- and an area that is too short is 3

abbrev Bits356 : Result (MeshFile ℕ) Refusal → Type 0
Bits356 (Err n) = By356 n
Bits356 (Ok m) = Unit {0}

short_3 : (b : Bool) (m : MeshFile ℕ) → Bits356 (cond b (Err Refusal.ShortArea) (Ok m))
short_3 true m = inl refl
short_3 false m = tt

reading_356 : (x : File) (f i : ℕ) → File56 x → Bits356 (reading_of x f i)
unfolding reading_of
reading_356 (Err n) f i h = inr h
reading_356 (Ok m) f i h = short_3 (mesh_areas_short m f i) (mesh_bits m)

by_356 : (bytes : List ℕ) (f i : ℕ) (n : Refusal) → Err n ≡ reading_of (file_of bytes) f i → By356 n
by_356 bytes f i n h = subst Bits356 (sym h) (reading_356 (file_of bytes) f i (file_56 bytes))

-- ---- a refusal writes nothing

short_kept : {A B : Type 0} (b : Bool) (n : Refusal) (m : MeshFile ℕ) (x x' : A) (y y' : B)
    → Err n ≡ cond b (Err Refusal.ShortArea) (Ok m)
    → (cond b x x' ≡ x) × (cond b y y' ≡ y)
short_kept true n m x x' y y' h = (refl, refl)
short_kept false n m x x' y y' h = let z : ◌≡◌ {A = ℕ} 0 1 = cc in absurd (omega arith)

pub kept : {A : Type 0} (taken : List ℕ → List A) (x : File) (vs : List A) (ids : List ℕ) (n : Refusal)
    → Err n ≡ reading_of x (length vs) (length ids)
    → (vertices_after taken x (length ids) vs ≡ vs) × (ids_after x (length vs) ids ≡ ids)
unfolding reading_of vertices_after ids_after
kept taken (Err k) vs ids n h = (refl, refl)
kept taken (Ok m) vs ids n h = short_kept (mesh_areas_short m (length vs) (length ids)) n (mesh_bits m) vs _ ids _ h

module _ {A R : Type 0} (taken : List ℕ → List A) (answer : Result (MeshFile ℕ) Refusal → R)
    (bytes : List ℕ) (vs : List A) (ids : List ℕ) where
  refused_by : (r : R) (n : Refusal) (vs' : List A) (ids' : List ℕ) → ReadsAs taken answer bytes vs ids r vs' ids'
      → Err n ≡ reading_of (file_of bytes) (length vs) (length ids) → By356 n × (vs' ≡ vs) × (ids' ≡ ids)
  refused_by r n vs' ids' x h =
      let k = kept taken (file_of bytes) vs ids n h in
      (by_356 bytes (length vs) (length ids) n h, x.vertices ∙ k.0, x.ids_after_lem ∙ k.1)

pub refused_reading_bits : RefusedReadingBits
refused_reading_bits bytes ps ids n ps' ids' x = refused_by _ _ bytes ps ids (Err n) n ps' ids' x x.answers

-- what words stand for is refused where they are
pub as_refused : {A : Type 0} (of_word : ℕ → A) (b : Result (MeshFile ℕ) Refusal) (n : Refusal) → Err n ≡ answer_as of_word b → Err n ≡ b
unfolding answer_as
as_refused of_word (Err k) n h =
    let same : n ≡ k = cc in
    ap Err same
as_refused of_word (Ok m) n h = let z : ◌≡◌ {A = ℕ} 0 1 = cc in absurd (omega arith)

pub refused_reading : RefusedReading
refused_reading bytes vs ids n vs' ids' x =
    refused_by floats_of as_floats bytes vs ids (Err n) n vs' ids' x (as_refused (of_bits binary32) _ n x.answers)

-- ---- words taken as they are

answer_same : (b : Result (MeshFile ℕ) Refusal) → answer_as (λ (w : ℕ). w) b ≡ b
unfolding answer_as
answer_same (Err n) = refl
answer_same (Ok m) = refl

after_same : (x : File) (i : ℕ) (ps : List ℕ)
    → vertices_after (map (λ (w : ℕ). w)) x i ps ≡ vertices_after (λ (ws : List ℕ). ws) x i ps
unfolding vertices_after
after_same (Err n) i ps = refl
after_same (Ok m) i ps = rw (map-id m.vertices)

pub read_same : {bytes ps ids : List ℕ} {r : Result (MeshFile ℕ) Refusal} {ps' ids' : List ℕ}
    → ReadsAs (map (λ (w : ℕ). w)) (answer_as (λ (w : ℕ). w)) bytes ps ids r ps' ids' → ReadsBits bytes ps ids r ps' ids'
read_same x =
    record { answers = x.answers ∙ answer_same _; vertices = x.vertices ∙ after_same _ _ _; ids_after_lem = x.ids_after_lem }

-- ---- patterns taken as floats

floats_append : (ws : List ℕ) (n : ℕ) (ps : List ℕ) → floats_of (ws ++ drop n ps) ≡ floats_of ws ++ drop n (floats_of ps)
unfolding floats_of
floats_append [] zero ps = refl
floats_append [] (suc n) [] = refl
floats_append [] (suc n) (p ∷ ps) = floats_append [] n ps
floats_append (w ∷ ws) n ps = ap (λ (l : List Float). of_bits binary32 w ∷ l) (floats_append ws n ps)

short_floats : (b : Bool) (m : Contents) (ps : List ℕ)
    → cond b (floats_of ps) (floats_of m.vertices ++ drop (length m.vertices) (floats_of ps))
    ≡ floats_of (cond b ps (m.vertices ++ drop (length m.vertices) ps))
short_floats true m ps = refl
short_floats false m ps = sym (floats_append m.vertices (length m.vertices) ps)

after_floats : (x : File) (i : ℕ) (ps : List ℕ)
    → vertices_after floats_of x i (floats_of ps) ≡ floats_of (vertices_after (λ (ws : List ℕ). ws) x i ps)
unfolding vertices_after
after_floats (Err n) i ps = refl
after_floats (Ok m) i ps = rw (length_floats ps) (short_floats (mesh_areas_short m (length ps) i) m ps)

pub read_as_floats : ReadAsFloats
read_as_floats bytes ps ids b ps' ids₁ r vs' ids₂ x y =
    let long = length_floats ps in (
      y.answers ∙ rw (long, x.answers),
      y.vertices ∙ after_floats (file_of bytes) (length ids) ps ∙ ap floats_of (sym x.vertices),
      y.ids_after_lem ∙ rw (long, x.ids_after_lem),
    )
