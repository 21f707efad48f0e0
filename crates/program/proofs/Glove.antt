-- The glove for the program, from that for the record: the text is made of the record, its rows and the pieces. Assumes nothing.
use Rattle.std.specs.Prelude.{Result, Ok, Err}
use mathlib.Core.Path.{◌≡◌, refl, sym, subst}
use mathlib.Core.List.{List}
use Prim.Native.Nat.{ℕ}
use lib.Dec.{eqb}
use Rattle.ids.specs.declared.refusal.Refusal.{Refusal}
use Rattle.ids.specs.Reversed.{reversed}
use Rattle.ids.proofs.ReversedAlike.{reversed_alike}
use Rattle.record.specs.Numbers.{profile_at}
use Rattle.refusals.specs.declared.Check.{Check}
use Rattle.refusals.specs.Refusals.{Passes}
use Rattle.refusals.proofs.Checks.{admitted}
use Rattle.qto.specs.Full.{takeoff_of}
use Rattle.glove.specs.Turned.{TurnedRecords}
use Rattle.glove.proofs.Rows.{rows_turned}
use Rattle.glove.proofs.Flags.{flags_turn}
use Rattle.glove.proofs.Glove.{check_same, takeoffs_turned}
use Rattle.meshfile.specs.Format.{Contents, File}
use Rattle.program.specs.Program.{named_edition, check_mesh, listed, text_at, mesh_text, text_for, text_of}
use Rattle.program.specs.Place.{mesh_floats, mesh_unit, mesh_record}
use Rattle.program.specs.Glove.{IsFull, TurnedTexts, TextTurns}

-- ---- what a file holds, and the same with reversed ids

abbrev with_reversed : Contents → Contents
with_reversed m = record { unit = m.unit; vertices = m.vertices; ids = reversed m.ids; clip = m.clip; defect = m.defect }

but_for_ids : (m m' : Contents) → m'.unit ≡ m.unit → m'.vertices ≡ m.vertices → m'.ids ≡ reversed m.ids → m'.clip ≡ m.clip
    → m'.defect ≡ m.defect → with_reversed m ≡ m'
but_for_ids m m' unit vertices ids clip defect =
    λ i. record { unit = sym unit i; vertices = sym vertices i; ids = sym ids i; clip = sym clip i; defect = sym defect i }

module _ (m : Contents) where
  abbrev m' : Contents
  m' = with_reversed m

  abbrev said : Result Check Refusal
  said = check_mesh (mesh_floats m) m.ids (mesh_unit m)

  same_check : check_mesh (mesh_floats m) (reversed m.ids) (mesh_unit m) ≡ said
  same_check = check_same (mesh_floats m) m.ids (mesh_unit m) named_edition 13824 65536 2048

  mesh : IsFull m → Passes (mesh_floats m) m.ids (mesh_unit m) named_edition
  mesh full = (admitted (mesh_floats m) m.ids (mesh_unit m) named_edition 13824 65536 2048 said full refl).mesh

  records : IsFull m → TurnedRecords (mesh_record m) (mesh_record m')
  unfolding takeoff_of
  records full =
      flags_turn (eqb m.clip 1) (profile_at m.defect) _ _
      (takeoffs_turned (mesh_floats m) m.ids (mesh_unit m) named_edition (mesh full)).records

  abbrev text_by : Result Check Refusal → Contents → List ℕ
  text_by k c = text_at k (mesh_floats c) c.ids (mesh_unit c) (eqb c.clip 1) (profile_at c.defect)

  same_text : (k : Result Check Refusal) → said ≡ k → (IsFull m → ⊥) → text_by k m' ≡ text_by k m
  unfolding text_at listed
  same_text (Err why) e shut = refl
  same_text (Ok Check.Zero) e shut = rw (reversed_alike m.ids).piece_count
  same_text (Ok Check.Full) e shut = absurd (shut e)

  texts : TurnedTexts m m' (text_for (Ok m)) (text_for (Ok m'))
  unfolding text_for mesh_text text_at listed
  texts =
      record {
        same = λ shut. rw same_check (same_text said refl shut);
        if_full =
            λ full.
            record {
              lists = rw full;
              lists' =
                  rw (
                    same_check,
                    full,
                    rows_turned (mesh_floats m) m.ids (mesh_unit m) named_edition (mesh full),
                    (reversed_alike m.ids).piece_count,
                  );
              turned = records full;
            };
      }

pub text_turns : TextTurns
unfolding text_of
text_turns m m' bytes bytes' h h' unit vertices ids clip defect =
    rw (h, h')
    (subst (λ (x : Contents). TurnedTexts m x (text_for (Ok m)) (text_for (Ok x)))
    (but_for_ids m m' unit vertices ids clip defect) (texts m))
