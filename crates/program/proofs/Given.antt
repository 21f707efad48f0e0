-- Callees that could refuse an area do not: what they answer is the count of the pieces, and the length of the text that they put.
use Rattle.std.specs.Prelude.{Option, Some, None, Result, Ok, IsOk}
use Rattle.ids.specs.declared.refusal.Refusal.{Refusal}
use mathlib.Core.Path.{◌≡◌, refl, ap}
use Prim.Native.Nat.{ℕ, ◌+◌, ◌*◌, ◌≤◌}
use mathlib.Core.Bool.{Bool, true, false}
use mathlib.Core.List.{List}
use native.Mathlib.Omega.{arith}
use borrow.Author.Tests.{le-ltb}
use lib.ListN.{length, take}
use lib.Ieee.{Float}
use Rattle.std.specs.Prelude.{Ok, Result}
use Rattle.ids.specs.declared.refusal.Refusal.{Refusal}
use Rattle.ids.specs.Triangles.{triangle_count}
use Rattle.ids.specs.Lent.{refusal, unless_refused, most_entries}
use Rattle.ids.specs.Pieces.{share_edge, pieces}
use Rattle.rows.specs.Rows.{rows_of}
use Rattle.record.specs.declared.ProfileDefect.{ProfileDefect}
use Rattle.record.specs.declared.MeshQto.{MeshQto}
use Rattle.record.specs.Flags.{marked, if_clip, if_invalid, flagged}
use Rattle.pieces.specs.Answer.{PiecesGiven}
use Rattle.listing.specs.Listing.{listing_of, refused_line}
use Rattle.listing.specs.Lists.{head_bytes, text_bytes, text_areas_short, listed_as, area_with, listing_for, Lists, ListsRefusal}
use Rattle.program.specs.Program.{Prints}

-- ---- pieces

pub pieces_counted : (ids area : List ℕ) (r : Result ℕ Refusal) (after : List ℕ) → length ids ≤ 1536 → 512 ≤ length area
    → PiecesGiven ids area r after
    → r ≡ Ok (pieces share_edge ids)
unfolding unless_refused refusal
pieces_counted ids area r after hi ha given =
    rw (given.answers, le-ltb most_entries (length ids) (omega arith), le-ltb (length area) (triangle_count ids) (omega arith))

-- ---- texts

-- it was put, and its length came back
abbrev pub Listed : (text area : List ℕ) (r : Result ℕ Refusal) (area' : List ℕ) → Type 0
Listed text area r area' = IsOk r × ((k : ℕ) → r ≡ Ok k → Prints text area k area')

listed_prints : (b : Bool) (text area : List ℕ) (r : Result ℕ Refusal) (area' : List ℕ) → b ≡ false → r ≡ listed_as b text
    → area' ≡ area_with b text area → Listed text area r area'
unfolding listed_as area_with
listed_prints b text area r area' e hr ha =
    (rw (hr, e) refl, λ k hk. let said : r ≡ Ok (length text) = rw (hr, e) in record { answers = cc; later = rw (ha, e) })

pub refusal_prints : (n : ℕ) (area : List ℕ) (r : Result ℕ Refusal) (area' : List ℕ) → head_bytes ≤ length area → ListsRefusal n area r area'
    → Listed (refused_line n) area r area'
unfolding text_bytes
refusal_prints n area r area' h given =
    listed_prints _ (refused_line n) area r area' (le-ltb (length area) head_bytes h) given.answers given.text

-- the flags leave the number of rows alone
keeps_count : (clip : Bool) (p : Option ProfileDefect) (q : MeshQto) → (flagged clip p q).surface_count ≡ q.surface_count
unfolding if_clip if_invalid marked
keeps_count true None q = refl
keeps_count true (Some d) q = refl
keeps_count false None q = refl
keeps_count false (Some d) q = refl

module _ (clip : Bool) (p : Option ProfileDefect) (q : MeshQto) (s : List Float) (n : ℕ) (area : List ℕ) where
  not_short : 4 * q.surface_count ≤ length s → head_bytes + 36 * q.surface_count ≤ length area
      → text_areas_short (flagged clip p q).surface_count (length s) (length area) ≡ false
  unfolding text_bytes
  not_short hs ha =
      let n = q.surface_count in
      rw (keeps_count clip p q, le-ltb (length s) (4 * n) hs, le-ltb (length area) (head_bytes + 36 * n) ha)

  same_text : listing_for (flagged clip p q) s n ≡ listing_of (flagged clip p q) (rows_of (take (4 * q.surface_count) s)) n
  unfolding listing_for
  same_text = ap (λ (k : ℕ). listing_of (flagged clip p q) (rows_of (take (4 * k) s)) n) (keeps_count clip p q)

  pub record_prints : (f : MeshQto) (r : Result ℕ Refusal) (area' : List ℕ) → f ≡ flagged clip p q → 4 * q.surface_count ≤ length s
      → head_bytes + 36 * q.surface_count ≤ length area
      → Lists f s n area r area'
      → Listed (listing_of (flagged clip p q) (rows_of (take (4 * q.surface_count) s)) n) area r area'
  record_prints f r area' e hs ha given =
      rw (← same_text)
      (listed_prints (text_areas_short (flagged clip p q).surface_count (length s) (length area))
      (listing_for (flagged clip p q) s n) area r area' (not_short hs ha)
      (rw e at given.answers) (rw e at given.text))
