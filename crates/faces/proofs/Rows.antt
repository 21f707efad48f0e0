-- The table of faces in lent words: what it means when a row is written for one more use, that there is room for it, and that zeros mean
-- no use. Assumes nothing.
use mathlib.Core.Path.{◌≡◌, ap, ◌∙◌}
use mathlib.Core.Logic.{◌≢◌}
use mathlib.Core.Bool.{Bool}
use mathlib.Core.List.{List, [], ◌∷◌, ◌++◌}
use Prim.Native.Nat.{ℕ, ◌+◌, ◌*◌, ◌≤◌, ◌<◌}
use native.Mathlib.Omega.{arith}
use native.Mathlib.Decide.{ℕ_discrete, dec_lt}
use lib.ListN.{length, get_or, set, replicate, length-set, get_or-replicate}
use lib.Seq.{get_or-set_same, get_or-set_other}
use Rattle.ids.specs.Triangles.{triangle, triangle_count}
use Rattle.ids.specs.Uses.{Use}
use Rattle.ids.specs.FaceNet.{Face, same_face, sorted_ids, face_use}
use Rattle.table.specs.inner.Rows.{Found, Free}
use Rattle.table.specs.inner.Counts.{uses_in, ups_in}
use Rattle.table.proofs.Counts.{weigh, few_roomy, more_uses, more_ups, none_used, none_up}
use Rattle.table.proofs.Sums.{uses_le}
use Rattle.table.proofs.Search.{has_free}
use Rattle.table.proofs.Probe.{Bumped, step, empty}
use Rattle.faces.specs.inner.Rows.{named_at, face_at, face_word, face_uses, face_ups, put_face, face_home, FaceTable, FaceRoom}
use Rattle.ids.proofs.Same.{face_eq, face_refl}
use Rattle.faces.proofs.Faces.{home_in_lem}

-- what the rows are after row r is written
module _ (t : List ℕ) (r named word : ℕ) where
  put_off : (x : ℕ) → x ≢ 2 * r → x ≢ 2 * r + 1 → get_or (put_face t r named word) x 0 ≡ get_or t x 0
  put_off x n₀ n₁ = get_or-set_other (set t (2 * r) named) (2 * r + 1) x word 0 n₁ ∙ get_or-set_other t (2 * r) x named 0 n₀

  module _ (fits : 2 * r + 1 < length t) where
    put_named : named_at (put_face t r named word) r ≡ named
    put_named =
        get_or-set_other (set t (2 * r) named) (2 * r + 1) (2 * r) word 0 (omega arith) ∙ get_or-set_same t (2 * r) named 0 (omega arith)

    put_word : face_word (put_face t r named word) r ≡ word
    put_word = get_or-set_same (set t (2 * r) named) (2 * r + 1) word 0 (simp length-set (omega arith))

module _ (ids : List ℕ) (n : ℕ) (t : List ℕ) where
  -- row r, which a search found, counts one more use and names its triangle
  module _ (es : List (Use Face)) (r named : ℕ) (fits : 2 * n ≤ length t) (here : named < triangle_count ids) (few : face_uses t r < 65535)
      (m : FaceTable ids n t es) (found : Found n (face_home n (sorted_ids (triangle ids named))) (face_at ids t) (face_uses t)
      (sorted_ids (triangle ids named)) r) where
    abbrev up : Bool
    up = (face_use (triangle ids named)).up

    abbrev word : ℕ
    word = face_word t r + weigh up

    abbrev after : List ℕ
    after = put_face t r named word

    room : 2 * r + 1 < length t
    room = omega (arith, found.within)

    bumped : Bumped r (sorted_ids (triangle ids named)) up (face_at ids t) (face_at ids after) (face_uses t) (face_uses after) (face_ups t)
        (face_ups after)
    bumped =
        let wrote : face_word after r ≡ word = put_word t r named word room in
        record {
          key_at = ap (λ (v : ℕ). sorted_ids (triangle ids v)) (put_named t r named word room);
          cnt_at = ap uses_in wrote ∙ more_uses (face_word t r) (few_roomy (face_word t r) few) up;
          up_at = ap ups_in wrote ∙ more_ups (face_word t r) (few_roomy (face_word t r) few) up;
          key_off = λ i ne. ap (λ (v : ℕ). sorted_ids (triangle ids v)) (put_off t r named word (2 * i) (omega arith) (omega arith));
          cnt_off = λ i ne. ap uses_in (put_off t r named word (2 * i + 1) (omega arith) (omega arith));
          up_off = λ i ne. ap ups_in (put_off t r named word (2 * i + 1) (omega arith) (omega arith));
        }

    still_named : (i : ℕ) → Dec (i ≡ r) → i < n → named_at after i < triangle_count ids
    still_named i (yes e) l = rw (e, put_named t r named word room) here
    still_named i (no ne) l = rw (put_off t r named word (2 * i) (omega arith) (omega arith)) (m.named i l)

    pub added : FaceTable ids n after (es ++ face_use (triangle ids named) ∷ [])
    unfolding face_use
    added = record {
      named = λ i. still_named i (ℕ_discrete i r);
      means =
          step same_face face_eq face_refl n (face_home n) (face_at ids t) (face_uses t) (face_ups t) es (face_use (triangle ids named)) r
          (home_in_lem n (sorted_ids (triangle ids named)) (omega (arith, found.within)))
          m.means found (face_at ids after) (face_uses after) (face_ups after) bumped;
    }

  pub room_free : FaceRoom ids n t → Free n (face_uses t)
  room_free w = has_free (face_uses t) n (omega (arith, w.rows_left, w.means.means.rows.total))

  -- a row's uses are at most all uses
  pub row_small : (es : List (Use Face)) → FaceTable ids n t es → (i : ℕ) → i < n → face_uses t i ≤ length es
  row_small es m i l =
      elim (dec_lt 0 (face_uses t i)) [
        | yes p ↦ omega (arith, m.means.rows.counted i l p, uses_le same_face (face_at ids t i) es)
        | no p ↦ omega arith
      ]

-- rows of zeros are a table with no use
pub empty_table : (ids : List ℕ) (n : ℕ) (t : List ℕ) → (0 < n → 0 < triangle_count ids) → ((x : ℕ) → x < 2 * n → get_or t x 0 ≡ 0)
    → FaceTable ids n t []
empty_table ids n t some none = record {
  named = λ i l. rw (none (2 * i) (omega arith)) (some (omega arith));
  means =
      empty same_face n (face_home n) (face_at ids t) (face_uses t) (face_ups t)
      (λ i l. (none_used _ (none (2 * i + 1) (omega arith)), none_up _ (none (2 * i + 1) (omega arith))));
}

pub zero_table : (ids : List ℕ) (n m : ℕ) → 2 * n ≤ m → (0 < n → 0 < triangle_count ids) → FaceTable ids n (replicate m 0) []
zero_table ids n m fits some = empty_table ids n (replicate m 0) some (λ x l. get_or-replicate {A = ℕ} m x 0 0 (omega arith))
