-- Finding first where everything stands, and then what stands there, gives the file that the format defines. Assumes nothing.
use Rattle.std.specs.Prelude.{Result, Ok, Err}
use mathlib.Core.Path.{◌≡◌, refl, sym, ap, ◌∙◌, subst}
use mathlib.Core.List.{List}
use Prim.Native.Nat.{ℕ, ◌+◌, ◌*◌, ◌/◌, ◌≤◌}
use native.Mathlib.Omega.{arith}
use lib.ListN.{length, take, drop, length-drop}
use lib.Seq.{drop-drop}
use Rattle.words.specs.Words.{u32_at, words_in}
use Rattle.meshfile.specs.declared.FlagValues.{FlagValues}
use Rattle.meshfile.specs.declared.Parts.{Parts}
use Rattle.meshfile.specs.Format.{front_of, ending_of, ended, ids_in, vertices_in, unit_in, file_of, Contents}
use Rattle.meshfile.specs.Format.{File}
use Rattle.meshfile.specs.inner.Steps.{parts_by, ids_from, vertices_from, unit_from, layout_of, contents_at, file_at}
use Rattle.meshfile.proofs.Fronts.{Record, record_of, four_bytes, whole_words}
use Rattle.ids.specs.declared.refusal.Refusal.{Refusal}

quarter : (i : ℕ) → 4 * i / 4 ≡ i
quarter i = omega arith

module _ (bytes : List ℕ) where
  -- drops merged
  pub drop_to : (m n k : ℕ) → n + m ≡ k → drop m (drop n bytes) ≡ drop k bytes
  drop_to m n k e = drop-drop m n bytes ∙ ap (λ (j : ℕ). drop j bytes) e

  pub record Laid (p : Parts) : Type 0 where
    pub unit : Record 1 4 bytes
    pub floats : Record 2 (4 * p.floats) (drop 10 bytes)
    pub ids : Record 3 (4 * p.ids) (drop (16 + 4 * p.floats) bytes)
    pub end : ending_of (drop (22 + 4 * p.floats + 4 * p.ids) bytes) ≡ Ok p.flags

  pub laid_inside : (p : Parts) → Laid p → 22 + 4 * p.floats + 4 * p.ids ≤ length bytes
  laid_inside p laid =
      let r = laid.ids.room in
      omega (arith, length-drop (16 + 4 * p.floats) bytes)

  unfoldable pub Stands : Result Parts Refusal → Type 0
  Stands (Err n) = Unit {0}
  Stands (Ok p) = Laid p

  abbrev Agrees : File → Result Parts Refusal → Type 0
  Agrees x l = (x ≡ file_at bytes l) × Stands l

  abbrev floats_at : ℕ → List ℕ
  floats_at f = words_in (take (4 * f) (drop 16 bytes))

  module _ (unit : Record 1 4 bytes) where
    module _ (f : ℕ) (floats : Record 2 (4 * f) (drop 10 bytes)) where
      ending : (i : ℕ) → Record 3 (4 * i) (drop (16 + 4 * f) bytes) → (e : Result FlagValues Refusal)
          → ending_of (drop (22 + 4 * f + 4 * i) bytes) ≡ e
          → Agrees (ended (u32_at bytes 6) (floats_at f) (words_in (take (4 * i) (drop (22 + 4 * f) bytes))) e) (parts_by f i e)
      unfolding ended parts_by file_at contents_at Stands
      ending i ids (Err n) h = (refl, tt)
      ending i ids (Ok flags) h = (refl, record { unit = unit; floats = floats; ids = ids; end = h })

      abbrev FromIds : Result ℕ Refusal → Type 0
      FromIds k = Agrees (ids_in (u32_at bytes 6) (floats_at f) k (drop (16 + 4 * f) bytes)) (ids_from f k (drop (16 + 4 * f) bytes))

      ids_payload : (i : ℕ) → Record 3 (4 * i) (drop (16 + 4 * f) bytes) → FromIds (Ok (4 * i))
      unfolding ids_in ids_from
      ids_payload i ids =
          let rest = drop_to (6 + 4 * i) (16 + 4 * f) (22 + 4 * f + 4 * i) (omega arith) in
          rw (drop_to 6 (16 + 4 * f) (22 + 4 * f) (omega arith), rest, quarter i)
          (ending i ids _ refl)

      from_ids : (k : Result ℕ Refusal) → front_of 3 (drop (16 + 4 * f) bytes) ≡ k → FromIds k
      unfolding ids_in ids_from file_at Stands
      from_ids (Err n) h = (refl, tt)
      from_ids (Ok n) h =
          let r = record_of 3 n (drop (16 + 4 * f) bytes) h in
          let e = whole_words 3 n refl refl r.fits in
          subst (λ (m : ℕ). FromIds (Ok m)) (sym e) (ids_payload (n / 4) (rw e at r))

    abbrev FromVertices : Result ℕ Refusal → Type 0
    FromVertices k = Agrees (vertices_in (u32_at bytes 6) k (drop 10 bytes)) (vertices_from k (drop 10 bytes))

    vertices_payload : (f : ℕ) → Record 2 (4 * f) (drop 10 bytes) → FromVertices (Ok (4 * f))
    unfolding vertices_in vertices_from
    vertices_payload f floats =
        rw (drop_to 6 10 16 refl, drop_to (6 + 4 * f) 10 (16 + 4 * f) (omega arith), quarter f)
        (from_ids f floats _ refl)

    from_vertices : (k : Result ℕ Refusal) → front_of 2 (drop 10 bytes) ≡ k → FromVertices k
    unfolding vertices_in vertices_from file_at Stands
    from_vertices (Err n) h = (refl, tt)
    from_vertices (Ok n) h =
        let r = record_of 2 n (drop 10 bytes) h in
        let e = whole_words 2 n refl refl r.fits in
        subst (λ (m : ℕ). FromVertices (Ok m)) (sym e) (vertices_payload (n / 4) (rw e at r))

  abbrev FromUnit : Result ℕ Refusal → Type 0
  FromUnit k = Agrees (unit_in k bytes) (unit_from k bytes)

  unit_payload : Record 1 4 bytes → FromUnit (Ok 4)
  unfolding unit_in unit_from
  unit_payload unit = from_vertices unit _ refl

  from_unit : (k : Result ℕ Refusal) → front_of 1 bytes ≡ k → FromUnit k
  unfolding unit_in unit_from file_at Stands
  from_unit (Err n) h = (refl, tt)
  from_unit (Ok n) h =
      let r = record_of 1 n bytes h in
      let e = four_bytes n r.fits in
      subst (λ (m : ℕ). FromUnit (Ok m)) (sym e) (unit_payload (rw e at r))

  -- the file by the layout, and what stands where the layout says
  pub file_is : file_of bytes ≡ file_at bytes (layout_of bytes)
  unfolding file_of layout_of
  file_is = (from_unit (front_of 1 bytes) refl).0

  pub stands : Stands (layout_of bytes)
  unfolding layout_of
  stands = (from_unit (front_of 1 bytes) refl).1

  module _ (p : Parts) (whole : layout_of bytes ≡ Ok p) where
    pub laid_out : Laid p
    unfolding Stands
    laid_out = subst Stands whole stands

    pub file_holds : file_of bytes ≡ Ok (contents_at bytes p)
    unfolding file_at
    file_holds = file_is ∙ ap (file_at bytes) whole

    pub inside : 22 + 4 * p.floats + 4 * p.ids ≤ length bytes
    inside = laid_inside p laid_out

  pub file_refused : (n : Refusal) → layout_of bytes ≡ Err n → file_of bytes ≡ Err n
  unfolding file_at
  file_refused n fault = file_is ∙ ap (file_at bytes) fault

  -- a file that holds something is laid out
  held_by : (m : Contents) (l : Result Parts Refusal) → layout_of bytes ≡ l → file_at bytes l ≡ Ok m
      → (p : Parts) × Laid p × (contents_at bytes p ≡ m)
  unfolding file_at
  held_by m (Err n) e h = let y : ◌≡◌ {A = ℕ} 0 1 = cc in absurd (omega arith)
  held_by m (Ok p) e h = (p, laid_out p e, cc)

  pub held : (m : Contents) → file_of bytes ≡ Ok m → (p : Parts) × Laid p × (contents_at bytes p ≡ m)
  held m h = held_by m (layout_of bytes) refl (sym file_is ∙ h)
