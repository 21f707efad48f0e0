-- What is printed for an answer of `compute` is the text of the mesh: its rows stand first in the surface area, as many as the record
-- counts.
use Rattle.std.specs.Prelude.{Option, Result, Ok, Err}
use mathlib.Core.Path.{◌≡◌, refl, sym, ap, ◌∙◌}
use Prim.Native.Nat.{ℕ, ◌*◌, ◌≤◌}
use mathlib.Core.Bool.{Bool}
use mathlib.Core.List.{List, ◌++◌}
use native.Mathlib.Omega.{arith}
use lib.ListN.{length, take, drop, length-append}
use lib.Seq.{take-append_seam}
use lib.Ieee.{Float}
use Rattle.ids.specs.declared.refusal.Refusal.{Refusal}
use Rattle.ids.specs.Refusal.{refusal_number}
use Rattle.ids.specs.Pieces.{share_edge, pieces}
use Rattle.rows.specs.declared.PlanarSurface.{PlanarSurface}
use Rattle.rows.specs.Rows.{flatten, rows_of}
use Rattle.rows.proofs.Flat.{rows_flat, length_flatten}
use Rattle.record.specs.declared.ProfileDefect.{ProfileDefect}
use Rattle.record.specs.Flags.{flagged}
use Rattle.refusals.specs.declared.Check.{Check}
use Rattle.sums.specs.declared.totals.Thresholds.{Thresholds}
use Rattle.sums.specs.Editions.{thresholds_of}
use Rattle.refusals.specs.Refusals.{check_of}
use Rattle.qto.specs.declared.Takeoff.{Takeoff}
use Rattle.qto.specs.Full.{measures_from, measures, record_from, record_by, record_of, takeoff_of, surface_rows, surfaces_after}
use Rattle.qto.specs.Compute.{answer_at, area_at, Computes}
use Rattle.listing.specs.Listing.{listing_of, refused_line}
use Rattle.program.specs.Program.{named_edition, listed, text_at, mesh_text}

-- ---- a record counts its rows, and they stand first

counts_rows : (vs : List Float) (ids : List ℕ) (u : Float) (p : Thresholds)
    → (record_of vs ids u p).surface_count ≡ length (surface_rows vs ids u)
unfolding record_of record_by record_from measures measures_from
counts_rows vs ids u p = refl

rows_first : (rows : List PlanarSurface) (l : List Float) → rows_of (take (4 * length rows) (flatten rows ++ l)) ≡ rows
rows_first rows l = rw (← length_flatten rows, take-append_seam (flatten rows) l, rows_flat rows)

-- ---- by what the table says

answer_text : List ℕ → Bool → Option ProfileDefect → List Float → Result Takeoff Refusal → List ℕ
answer_text ids clip profile s (Ok t) =
    listing_of (flagged clip profile t.qto) (rows_of (take (4 * t.qto.surface_count) s)) (pieces share_edge ids)
answer_text ids clip profile s (Err why) = refused_line (refusal_number why)

answer_rows : Result Takeoff Refusal → ℕ
answer_rows (Ok t) = t.qto.surface_count
answer_rows (Err why) = 0

module _ (vs : List Float) (ids : List ℕ) (u : Float) (clip : Bool) (profile : Option ProfileDefect) (s : List Float) where
  abbrev made_of : Takeoff
  made_of = takeoff_of vs ids u (thresholds_of named_edition)

  text_by_lem : (c : Result Check Refusal) → answer_text ids clip profile (area_at c (surfaces_after vs ids u s) s) (answer_at c made_of)
      ≡ text_at c vs ids u clip profile
  unfolding answer_text answer_at area_at surfaces_after takeoff_of text_at listed rows_of
  text_by_lem (Err why) = refl
  text_by_lem (Ok Check.Zero) = refl
  text_by_lem (Ok Check.Full) =
      let rows = surface_rows vs ids u in
      rw (counts_rows vs ids u (thresholds_of named_edition), rows_first rows (drop (4 * length rows) s))

  rows_by : (c : Result Check Refusal) → 4 * answer_rows (answer_at c made_of) ≤ length (area_at c (surfaces_after vs ids u s) s)
  unfolding answer_rows answer_at area_at surfaces_after takeoff_of
  rows_by (Err why) = omega arith
  rows_by (Ok Check.Zero) = omega arith
  rows_by (Ok Check.Full) =
      rw (
        counts_rows vs ids u (thresholds_of named_edition),
        length-append (flatten (surface_rows vs ids u)) (drop (4 * length (surface_rows vs ids u)) s),
        length_flatten (surface_rows vs ids u),
      ) (omega arith)

  -- ---- by what `compute` gave, over areas as long as the program's

  module _ (w r : List ℕ) (a : Result Takeoff Refusal) (w' r' : List ℕ) (s' : List Float)
      (made : Computes vs ids u named_edition w r s a w' r' s') where
    pub rows_fit : (t : Takeoff) → a ≡ Ok t → 4 * t.qto.surface_count ≤ length s'
    unfolding answer_rows
    rows_fit t e =
        rw (made.surfaces, sym (ap answer_rows e), ap answer_rows made.answers)
        (rows_by (check_of vs ids u named_edition (length w) (length r) (length s)))

    module _ (hw : length w ≡ 13824) (hr : length r ≡ 65536) (hs : length s ≡ 2048) where
      text_of_lem : answer_text ids clip profile s' a ≡ mesh_text vs ids u clip profile
      unfolding mesh_text
      text_of_lem = rw (made.answers, made.surfaces, text_by_lem (check_of vs ids u named_edition (length w) (length r) (length s)), hw, hr, hs)

      pub record_text : (t : Takeoff) → a ≡ Ok t
          → listing_of (flagged clip profile t.qto) (rows_of (take (4 * t.qto.surface_count) s')) (pieces share_edge ids)
          ≡ mesh_text vs ids u clip profile
      unfolding answer_text
      record_text t e = sym (ap (answer_text ids clip profile s') e) ∙ text_of_lem

      pub refusal_text : (why : Refusal) → a ≡ Err why → refused_line (refusal_number why) ≡ mesh_text vs ids u clip profile
      unfolding answer_text
      refusal_text why e = sym (ap (answer_text ids clip profile s') e) ∙ text_of_lem
