-- Demand 3 for the program, from that for the record: the text is made of the record, its rows and the ids. Assumes nothing.
use Rattle.std.specs.Prelude.{Result, Ok, Err}
use mathlib.Core.Path.{◌≡◌, refl, sym, subst, ◌∙◌}
use mathlib.Core.List.{List}
use Prim.Native.Nat.{ℕ}
use lib.Dec.{T, eqb}
use lib.IntN.{ℤ}
use Rattle.ids.specs.declared.refusal.Refusal.{Refusal}
use Rattle.verdict.specs.declared.Quality.{Quality}
use Rattle.record.specs.Numbers.{profile_at}
use Rattle.refusals.specs.declared.Check.{Check}
use Rattle.sums.specs.Editions.{thresholds_of}
use Rattle.refusals.specs.Refusals.{Passes}
use Rattle.qto.specs.Full.{record_of}
use Rattle.refusals.proofs.Checks.{admitted}
use Rattle.place.specs.Moved.{Moved, unit_enough}
use Rattle.road.specs.Agree.{AgreeRecords}
use Rattle.place.proofs.Record.{rows_stay, records_agree}
use Rattle.place.proofs.Place.{check_stays}
use Rattle.road.proofs.Agree.{but_best, same_record}
use Rattle.road.proofs.Flags.{flags_keep}
use Rattle.words.specs.Words.{floats_of}
use Rattle.meshfile.specs.Format.{Contents, File}
use Rattle.program.specs.Program.{named_edition, check_mesh, listed, text_at, mesh_text, text_for, text_of}
use Rattle.program.specs.Place.{mesh_floats, mesh_unit, mesh_record, mesh_rows, IsOpen, AgreeTexts, TextDoesNotShow}

-- ---- what a file holds, and the same with other floats

abbrev with_floats : Contents → List ℕ → Contents
with_floats m vertices = record { unit = m.unit; vertices = vertices; ids = m.ids; clip = m.clip; defect = m.defect }

but_for_floats : (m m' : Contents) → m'.unit ≡ m.unit → m'.ids ≡ m.ids → m'.clip ≡ m.clip → m'.defect ≡ m.defect
    → with_floats m m'.vertices ≡ m'
but_for_floats m m' unit ids clip defect =
    λ i. record { unit = sym unit i; vertices = m'.vertices; ids = sym ids i; clip = sym clip i; defect = sym defect i }

module _ (m : Contents) (vertices : List ℕ) where
  abbrev m' : Contents
  m' = with_floats m vertices

  module _ (dx dy dz : ℤ) (moved : Moved dx dy dz (mesh_floats m) (floats_of vertices)) (enough : T (unit_enough (mesh_unit m))) where
    abbrev said : Result Check Refusal
    said = check_mesh (mesh_floats m) m.ids (mesh_unit m)

    same_check : check_mesh (mesh_floats m') m.ids (mesh_unit m) ≡ said
    same_check = check_stays dx dy dz (mesh_floats m) (mesh_floats m') moved m.ids (mesh_unit m) named_edition 13824 65536 2048

    -- of a mesh that the table lets pass
    module _ (passes : said ≡ Ok Check.Full) where
      mesh : Passes (mesh_floats m) m.ids (mesh_unit m) named_edition
      mesh = (admitted (mesh_floats m) m.ids (mesh_unit m) named_edition 13824 65536 2048 said passes refl).mesh

      same_rows : mesh_rows m' ≡ mesh_rows m
      same_rows = rows_stay dx dy dz (mesh_floats m) (mesh_floats m') moved mesh.floats_least m.ids (mesh_unit m)

      records : AgreeRecords (mesh_record m) (mesh_record m')
      records =
          flags_keep (eqb m.clip 1) (profile_at m.defect) (record_of (mesh_floats m) m.ids (mesh_unit m) (thresholds_of named_edition))
          (record_of (mesh_floats m') m.ids (mesh_unit m) (thresholds_of named_edition))
          (records_agree dx dy dz (mesh_floats m) (mesh_floats m') moved mesh.floats_least m.ids (mesh_unit m)
          (thresholds_of named_edition) enough mesh.unit)

    abbrev text_by : Result Check Refusal → Contents → List ℕ
    text_by k c = text_at k (mesh_floats c) c.ids (mesh_unit c) (eqb c.clip 1) (profile_at c.defect)

    same_text : (k : Result Check Refusal) → said ≡ k → (IsOpen m → ⊥) → text_by k m' ≡ text_by k m
    unfolding text_at listed
    same_text (Err why) e shut = refl
    same_text (Ok Check.Zero) e shut = refl
    same_text (Ok Check.Full) e shut =
        let not_open : (mesh_record m).mesh_quality ≡ Quality.OpenShell → ⊥ = λ v. shut (record { passes = e; verdict = v }) in
        let same = same_record (mesh_record m).mesh_quality (mesh_record m) (mesh_record m') (records e).rest not_open in
        rw (same_rows e, same)

    texts : AgreeTexts m m' (text_for (Ok m)) (text_for (Ok m'))
    unfolding text_for mesh_text text_at listed
    texts =
        record {
          same = λ shut. rw same_check (same_text said refl shut);
          if_open =
              λ o.
              record {
                lists = rw o.passes;
                lists' = rw (same_check, o.passes, same_rows o.passes);
                is_open = record { passes = same_check ∙ o.passes; verdict = (records o.passes).verdict ∙ o.verdict };
                agree = but_best (mesh_record m).mesh_quality (mesh_record m) (mesh_record m') (records o.passes).rest;
              };
        }

-- two meshes of which the second is the first moved
pub moved_texts : (dx dy dz : ℤ) (m m' : Contents) → m'.unit ≡ m.unit → m'.ids ≡ m.ids → m'.clip ≡ m.clip → m'.defect ≡ m.defect
    → Moved dx dy dz (mesh_floats m) (mesh_floats m') → T (unit_enough (mesh_unit m))
    → AgreeTexts m m' (text_for (Ok m)) (text_for (Ok m'))
moved_texts dx dy dz m m' unit ids clip defect moved enough =
    subst (λ (x : Contents). AgreeTexts m x (text_for (Ok m)) (text_for (Ok x))) (but_for_floats m m' unit ids clip defect)
    (texts m m'.vertices dx dy dz moved enough)

pub text_does_not_show : TextDoesNotShow
unfolding text_of
text_does_not_show dx dy dz m m' bytes bytes' h h' unit ids clip defect moved enough =
    rw (h, h') (moved_texts dx dy dz m m' unit ids clip defect moved enough)
