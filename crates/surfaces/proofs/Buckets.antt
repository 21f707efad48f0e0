-- What one area more does to the buckets by their numbers, and to the floats that they are: a new key is a row more behind the others,
-- a known key grows its row's area and nothing else. Assumes nothing.
use Rattle.std.proofs.Common.{◌≡◌, ℕ, zero, suc, ◌+◌, ◌-◌, ◌*◌, ◌<◌, ◌≤◌, ◌≢◌, List, [], ◌∷◌, ◌++◌, length, get_or, take, drop, set, sym, refl, ap, ◌∙◌, arith, append_assoc, length-append, drop-drop, take_at}
use borrow.Rule.Slice.PartMut.{put_mid}
use lib.Ieee.{Float, nan}
use lib.Seq.{sets, sets-eq, drop-append-add}
use Rattle.ieee.specs.Single.{◌⊕◌, nought}
use Rattle.rows.specs.Rows.{flatten}
use Rattle.slots.proofs.Codes.{by}
use Rattle.surfaces.specs.declared.Key.{Key}
use Rattle.surfaces.specs.Surfaces.{same_key, Bucket, add_area, rows, tenth}
use Rattle.surfaces.specs.inner.Index.{key_at, with_row}
use Rattle.surfaces.proofs.Keys.{key_same, key_ne}

abbrev pub fresh : Key → Float → Bucket
fresh k a = record { key = k; area = nought ⊕ a }

-- ---- floats

pub length_floats : (bs : List Bucket) → length (flatten (rows bs)) ≡ 4 * length bs
unfolding flatten rows
length_floats [] = refl
length_floats (b ∷ bs) = omega (arith, length_floats bs)

abbrev pub floats : Bucket → List Float
floats b = b.area ∷ tenth b.key.x ∷ tenth b.key.y ∷ tenth b.key.z ∷ []

floats_more : (bs : List Bucket) (b : Bucket) → flatten (rows (bs ++ b ∷ [])) ≡ flatten (rows bs) ++ floats b
unfolding flatten rows
floats_more [] b = refl
floats_more (c ∷ bs) b = rw (floats_more bs b)

-- ---- a new key

module _ (k : Key) (a : Float) where
  pub put_new : (bs : List Bucket) → ((j : ℕ) → j < length bs → key_at bs j ≢ k) → add_area k a bs ≡ bs ++ fresh k a ∷ []
  unfolding add_area key_at
  put_new [] none = refl
  put_new (b ∷ bs) none =
      rw (key_ne k b.key (none 0 (omega arith))) (ap (λ (l : List Bucket). b ∷ l) (put_new bs (λ j l. none (suc j) (omega arith))))

  written : (u : List Float) (n : ℕ) → with_row u n k a ≡ sets u (4 * n) (floats (fresh k a))
  unfolding with_row
  written u n =
      let one : 4 * n + 1 ≡ suc (4 * n) = omega arith in
      let two : 4 * n + 2 ≡ suc (suc (4 * n)) = omega arith in
      let three : 4 * n + 3 ≡ suc (suc (suc (4 * n))) = omega arith in
      rw (one, two, three)

  -- as code writes them
  pub row_written : (u v : List Float) (n : ℕ) → v ≡ floats (fresh k a) → 4 * n + 3 < length u
      → put_mid (4 * n) (4 * n + 4 - 4 * n) u v ≡ with_row u n k a
  row_written u v n e room =
      let long : 4 * n + 4 - 4 * n ≡ 4 = omega arith in
      rw (long, e, drop-drop 4 (4 * n) u)
      (sym (written u n ∙ sets-eq (floats (fresh k a)) u (4 * n) (omega arith) ∙ append_assoc (take (4 * n) u) (floats (fresh k a)) _))

  pub row_more : (bs : List Bucket) (s : List Float)
      → let u = flatten (rows bs) ++ drop (4 * length bs) s in let more = bs ++ fresh k a ∷ [] in
      4 * length bs + 4 ≤ length u → with_row u (length bs) k a ≡ flatten (rows more) ++ drop (4 * length more) s
  row_more bs s room =
      let b : Bucket = fresh k a in
      let front : List Float = flatten (rows bs) in
      let back : List Float = drop (4 * length bs) s in
      let more : 4 * length bs + 4 ≡ 4 * length (bs ++ b ∷ []) = omega (arith, length-append bs (b ∷ [])) in
      let tail : drop (4 * length bs + 4) (front ++ back) ≡ drop (4 * length (bs ++ b ∷ [])) s = (
      ap (λ (i : ℕ). drop (i + 4) (front ++ back)) (sym (length_floats bs)) ∙ drop-append-add front back 4 ∙ drop-drop 4 (4 * length bs) s
      ∙ ap (λ (i : ℕ). drop i s) more
      ) in
      written (front ++ back) (length bs) ∙ sets-eq (floats b) (front ++ back) (4 * length bs) room
      ∙ rw (take_at front back (4 * length bs) (length_floats bs), tail, floats_more bs b)

-- ---- the key of a bucket

pub key_front : (bs cs : List Bucket) (j : ℕ) → j < length bs → key_at (bs ++ cs) j ≡ key_at bs j
unfolding key_at
key_front [] cs j l = absurd (omega arith)
key_front (b ∷ bs) cs zero l = refl
key_front (b ∷ bs) cs (suc j) l = key_front bs cs j (omega arith)

pub key_last : (bs : List Bucket) (b : Bucket) → key_at (bs ++ b ∷ []) (length bs) ≡ b.key
unfolding key_at
key_last [] b = refl
key_last (c ∷ bs) b = key_last bs b

-- ---- a known key

-- the floats with more area in row j
abbrev pub with_area : List Float → ℕ → Float → List Float
with_area u j a = set u (4 * j) (get_or u (4 * j) nan ⊕ a)

area_past : (w x y z : Float) (u : List Float) (j : ℕ) (a : Float) → with_area (w ∷ x ∷ y ∷ z ∷ u) (suc j) a ≡ w ∷ x ∷ y ∷ z ∷ with_area u j a
area_past w x y z u j a = let e : 4 * suc j ≡ suc (suc (suc (suc (4 * j)))) = omega arith in rw e

module _ (k : Key) (a : Float) where
  pub known_length : (bs : List Bucket) (j : ℕ) → j < length bs → key_at bs j ≡ k → length (add_area k a bs) ≡ length bs
  unfolding add_area key_at
  known_length [] j l e = absurd (omega arith)
  known_length (b ∷ bs) zero l e = rw (key_same k b.key (sym e))
  known_length (b ∷ bs) (suc j) l e = by (same_key k b.key) (λ h. rw h) (λ h. rw (h, known_length bs j (omega arith) e))

  pub known_keys : (bs : List Bucket) (j : ℕ) → j < length bs → key_at bs j ≡ k → (i : ℕ) → key_at (add_area k a bs) i ≡ key_at bs i
  unfolding add_area key_at
  known_keys [] j l e i = absurd (omega arith)
  known_keys (b ∷ bs) zero l e zero = rw (key_same k b.key (sym e))
  known_keys (b ∷ bs) zero l e (suc i) = rw (key_same k b.key (sym e))
  known_keys (b ∷ bs) (suc j) l e zero = by (same_key k b.key) (λ h. rw h) (λ h. rw h)
  known_keys (b ∷ bs) (suc j) l e (suc i) = by (same_key k b.key) (λ h. rw h) (λ h. rw h (known_keys bs j (omega arith) e i))

  pub known_floats : (bs : List Bucket) (j : ℕ) → j < length bs → key_at bs j ≡ k → ((i : ℕ) → i < j → key_at bs i ≢ k) → (s : List Float)
      → with_area (flatten (rows bs) ++ s) j a ≡ flatten (rows (add_area k a bs)) ++ s
  unfolding flatten rows add_area key_at
  known_floats [] j l e first s = absurd (omega arith)
  known_floats (b ∷ bs) zero l e first s = rw (key_same k b.key (sym e))
  known_floats (b ∷ bs) (suc j) l e first s =
      area_past b.area (tenth b.key.x) (tenth b.key.y) (tenth b.key.z) (flatten (rows bs) ++ s) j a
      ∙ rw (key_ne k b.key (first 0 (omega arith)), known_floats bs j (omega arith) e (λ i m. first (suc i) (omega arith)) s)
