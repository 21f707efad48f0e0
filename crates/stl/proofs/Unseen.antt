-- Header, normals and attributes do not matter: two files that differ only there have one count, one list of corners, and read alike.
-- Assumes nothing.
use mathlib.Core.Path.{◌≡◌, refl, sym, ◌∙◌}
use mathlib.Core.Logic.{inl, inr}
use mathlib.Core.List.{List}
use Prim.Native.Nat.{ℕ, zero, suc, ◌+◌, ◌<◌}
use native.Mathlib.Omega.{arith}
use lib.ListN.{length, take, drop, length-take, length-drop}
use lib.Seq.{ext_get_or}
use lib.Ieee.{Float}
use Rattle.words.specs.Words.{u32_at}
use Rattle.words.proofs.At.{byte_part}
use Rattle.std.specs.Prelude.{Result, Ok, Err}
use Rattle.ids.specs.declared.refusal.Refusal.{Refusal}
use Rattle.ids.specs.Triangles.{over_numbers}
use Rattle.stl.specs.Stl.{stl_count, stl_length, stl_of, corners_to}
use Rattle.stl.specs.Reading.{corners_later}
use Rattle.stl.specs.Worth.{SameWhereSeen, UnseenDoesNotMatter}

module _ (bytes bytes' : List ℕ) (same : SameWhereSeen bytes bytes') where
  same_count : stl_count bytes' ≡ stl_count bytes
  unfolding u32_at
  same_count =
      rw (
        same.seen 80 (inl (omega arith, omega arith)),
        same.seen 81 (inl (omega arith, omega arith)),
        same.seen 82 (inl (omega arith, omega arith)),
        same.seen 83 (inl (omega arith, omega arith)),
      )

  pub same_taken : (most : ℕ) → stl_of most bytes' ≡ stl_of most bytes
  unfolding stl_of
  same_taken most = rw (same.as_long, same_count)

  abbrev part_of : List ℕ → ℕ → List ℕ
  part_of l t = take 36 (drop (stl_length t + 12) l)

  part_long : (l : List ℕ) (t i : ℕ) → i < length (part_of l t) → i < 36
  part_long l t i h = omega (arith, length-take 36 (drop (stl_length t + 12) l))

  same_part : (t : ℕ) → part_of bytes' t ≡ part_of bytes t
  same_part t =
      ext_get_or 0 (part_of bytes' t) (part_of bytes t) (simp (length-take, length-drop, same.as_long))
      (λ i l. let h = part_long bytes' t i l in
      byte_part (stl_length t + 12) 36 i bytes' h ∙ same.seen (stl_length t + 12 + i) (inr (omega arith, omega arith))
      ∙ sym (byte_part (stl_length t + 12) 36 i bytes h))

  pub same_corners : (n : ℕ) → corners_to bytes' n ≡ corners_to bytes n
  unfolding over_numbers
  same_corners zero = refl
  same_corners (suc n) = rw (same_corners n, same_part n)

  same_later : (r : Result ℕ Refusal) (vs : List Float) → corners_later r bytes' vs ≡ corners_later r bytes vs
  unfolding corners_later
  same_later (Err n) vs = refl
  same_later (Ok n) vs = rw (same_corners n)

pub unseen_does_not_matter : UnseenDoesNotMatter
unseen_does_not_matter most bytes bytes' same vs ids r vs' ids' x =
    record {
      answers = rw (same_taken bytes bytes' same most) x.answers;
      floats = rw (same_later bytes bytes' same r vs) x.floats;
      ids_later_lem = x.ids_later_lem;
    }
