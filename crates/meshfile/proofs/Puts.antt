-- Bytes put one behind the other into an area: what stands in front so far, and all of it once the area is full. So a header and its
-- payload make a record, and the records a file. Assumes nothing.
use Rattle.std.specs.Prelude.{Option, Some, None}
use mathlib.Core.Path.{◌≡◌, refl, sym, ap, ◌∙◌}
use mathlib.Core.Bool.{Bool, true, false, cond}
use mathlib.Core.List.{List, [], ◌∷◌, ◌++◌, append_assoc, append-nil}
use Prim.Native.Nat.{ℕ, ◌+◌, ◌*◌, ◌-◌, ◌≤◌}
use native.Mathlib.Omega.{arith}
use mir.Val.{bool_byte}
use borrow.Rule.Slice.PartMut.{post_of, put_mid, Post-is}
use lib.ListN.{length, take, drop, set, length-append, length-take, length-drop, drop_of_length-le}
use lib.Seq.{take-append_seam}
use Rattle.record.specs.declared.ProfileDefect.{ProfileDefect}
use Rattle.record.specs.Numbers.{defect_number, profile_number}
use Rattle.words.specs.Words.{bytes_of, all_bytes}
use Rattle.words.proofs.Bytes.{length_all}
use Rattle.meshfile.specs.Format.{Contents}
use Rattle.meshfile.specs.Written.{chunk_of, plain_file, file_bytes}

-- ---- a front that grows

-- t begins with p
unfoldable pub Begins : List ℕ → List ℕ → Type 0
Begins p t = take (length p) t ≡ p

pub begins_first : (p rest : List ℕ) → Begins p (p ++ rest)
unfolding Begins
begins_first p rest = take-append_seam p rest

pub begins_next : (p t new : List ℕ) (a k : ℕ) → length p ≡ a → Begins p t → Begins (p ++ new) (put_mid a k t new)
unfolding Begins
begins_next p t new a k e h =
    let front : take a t ≡ p = ap (λ (n : ℕ). take n t) (sym e) ∙ h in
    rw (front, ← append_assoc p new (post_of a k t)) (take-append_seam (p ++ new) (post_of a k t))

-- and to the end
pub begins_last : (p t new : List ℕ) (a : ℕ) → length p ≡ a → Begins p t → put_mid a (length t - a) t new ≡ p ++ new
unfolding Begins
begins_last p t new a e h =
    let front : take a t ≡ p = ap (λ (n : ℕ). take n t) (sym e) ∙ h in
    let long : a ≤ length t = omega (arith, length-take a t, ap length front) in
    let none : post_of a (length t - a) t ≡ [] = Post-is a (length t) t long ∙ drop_of_length-le t {i = length t} (omega arith) in
    rw (none, front, append-nil new)

-- ---- one record

pub header_put : (t : List ℕ) (n kind : ℕ) → 6 ≤ length t
    → set (set (take 0 t ++ (bytes_of n ++ drop (0 + 4) t)) 4 kind) 5 0 ≡ bytes_of n ++ (kind ∷ 0 ∷ drop 6 t)
unfolding bytes_of
header_put [] n kind h = absurd (omega arith)
header_put (a ∷ []) n kind h = absurd (omega arith)
header_put (a ∷ b ∷ []) n kind h = absurd (omega arith)
header_put (a ∷ b ∷ c ∷ []) n kind h = absurd (omega arith)
header_put (a ∷ b ∷ c ∷ d ∷ []) n kind h = absurd (omega arith)
header_put (a ∷ b ∷ c ∷ d ∷ e ∷ []) n kind h = absurd (omega arith)
header_put (a ∷ b ∷ c ∷ d ∷ e ∷ z ∷ t) n kind h = refl

-- words behind their header, to the area's end
pub words_put : (kind n : ℕ) (ws area t new : List ℕ) → t ≡ bytes_of n ++ (kind ∷ 0 ∷ drop 6 area) → n ≡ 4 * length ws → new ≡ all_bytes ws
    → put_mid 6 (length t - 6) t new ≡ chunk_of kind (all_bytes ws)
unfolding chunk_of bytes_of
words_put kind n ws area t new et en ea =
    let head : List ℕ = bytes_of n ++ (kind ∷ 0 ∷ []) in
    let front : Begins head t = rw et (begins_first head (drop 6 area)) in
    begins_last head t new 6 refl front ∙ rw (ea, length_all ws, en)

-- the flags behind theirs
pair_put : (l : List ℕ) (clip : Bool) (d : ℕ) (p : Option ProfileDefect) → length l ≡ 2 → d ≡ profile_number p
    → set (set l 0 (bool_byte clip)) 1 d ≡ cond clip 1 0 ∷ profile_number p ∷ []
pair_put [] clip d p h q = absurd (omega arith)
pair_put (x ∷ []) clip d p h q = absurd (omega arith)
pair_put (x ∷ y ∷ z ∷ l) clip d p h q = absurd (omega arith)
pair_put (x ∷ y ∷ []) true d p h q = ap (λ (n : ℕ). 1 ∷ n ∷ []) q
pair_put (x ∷ y ∷ []) false d p h q = ap (λ (n : ℕ). 0 ∷ n ∷ []) q

pub flags_put : (t u : List ℕ) (clip : Bool) (d : ℕ) (p : Option ProfileDefect) → length t ≡ 8 → u ≡ bytes_of 2 ++ (4 ∷ 0 ∷ drop 6 t)
    → d ≡ profile_number p → set (set u 6 (bool_byte clip)) 7 d ≡ chunk_of 4 (cond clip 1 0 ∷ profile_number p ∷ [])
unfolding chunk_of bytes_of
flags_put t u clip d p h e q =
    let long : length (drop 6 t) ≡ 2 = omega (arith, length-drop 6 t) in
    rw e (ap (λ (l : List ℕ). bytes_of 2 ++ (4 ∷ 0 ∷ l)) (pair_put (drop 6 t) clip d p long q))

pub defect_small : (p : Option ProfileDefect) → profile_number p ≤ 4
unfolding profile_number defect_number
defect_small None = omega arith
defect_small (Some ProfileDefect.SelfIntersecting) = omega arith
defect_small (Some ProfileDefect.Degenerate) = omega arith
defect_small (Some ProfileDefect.HoleOutside) = omega arith
defect_small (Some ProfileDefect.Overlapping) = omega arith

-- ---- the records in their order

module _ (one two three four : List ℕ) (b e : ℕ) (ha : length one ≡ 10) (hb : 10 + length two ≡ b) (hc : b + length three ≡ e) where
  records_put : (rest t₂ t₃ : List ℕ) → t₂ ≡ put_mid 10 (b - 10) (one ++ rest) two → t₃ ≡ put_mid b (e - b) t₂ three
      → put_mid e (length t₃ - e) t₃ four ≡ (one ++ (two ++ three)) ++ four
  records_put rest t₂ t₃ h₂ h₃ =
      let first = one ++ two in
      let front = first ++ three in
      let first_long : length first ≡ b = omega (arith, length-append one two) in
      let front_long : length front ≡ e = omega (arith, length-append first three) in
      let second : Begins first t₂ = rw h₂ (begins_next one (one ++ rest) two 10 (b - 10) ha (begins_first one rest)) in
      let third : Begins front t₃ = rw h₃ (begins_next first t₂ three b (e - b) first_long second) in
      begins_last front t₃ four e front_long third ∙ ap (λ (l : List ℕ). l ++ four) (append_assoc one two three)

chunk_long : (kind : ℕ) (body : List ℕ) → length (chunk_of kind body) ≡ 6 + length body
unfolding chunk_of bytes_of
chunk_long kind body = omega arith

pub words_long : (kind : ℕ) (ws : List ℕ) → length (chunk_of kind (all_bytes ws)) ≡ 6 + 4 * length ws
words_long kind ws = omega (arith, chunk_long kind (all_bytes ws), length_all ws)

module _ (m : Contents) where
  pub file_put : (one two three four rest : List ℕ) → one ≡ chunk_of 1 (all_bytes (m.unit ∷ []))
      → two ≡ chunk_of 2 (all_bytes m.vertices) → three ≡ chunk_of 3 (all_bytes m.ids) → four ≡ chunk_of 4 (m.clip ∷ m.defect ∷ [])
      → let b = 16 + 4 * length m.vertices in
      let e = b + 6 + 4 * length m.ids in
      let t = put_mid b (e - b) (put_mid 10 (b - 10) (one ++ rest) two) three in
      put_mid e (length t - e) t four ≡ file_bytes m
  unfolding file_bytes plain_file all_bytes bytes_of
  file_put one two three four rest h₁ h₂ h₃ h₄ =
      let l₁ : length one ≡ 10 = ap length h₁ ∙ words_long 1 (m.unit ∷ []) in
      let l₂ : length two ≡ 6 + 4 * length m.vertices = ap length h₂ ∙ words_long 2 m.vertices in
      let l₃ : length three ≡ 6 + 4 * length m.ids = ap length h₃ ∙ words_long 3 m.ids in
      records_put one two three four (16 + 4 * length m.vertices) (16 + 4 * length m.vertices + 6 + 4 * length m.ids) l₁
      (omega arith) (omega arith) rest _ _ refl refl
      ∙ rw (h₁, h₂, h₃, h₄)

  pub plain_long : length (plain_file m) ≡ 22 + 4 * length m.vertices + 4 * length m.ids
  unfolding plain_file bytes_of
  plain_long =
      omega (
        arith,
        length-append (chunk_of 1 (bytes_of m.unit)) (chunk_of 2 (all_bytes m.vertices) ++ chunk_of 3 (all_bytes m.ids)),
        length-append (chunk_of 2 (all_bytes m.vertices)) (chunk_of 3 (all_bytes m.ids)),
        chunk_long 1 (bytes_of m.unit),
        words_long 2 m.vertices,
        words_long 3 m.ids,
      )

  pub file_long : length (file_bytes m) ≡ 30 + 4 * length m.vertices + 4 * length m.ids
  unfolding file_bytes
  file_long =
      omega (arith, length-append (plain_file m) (chunk_of 4 (m.clip ∷ m.defect ∷ [])), plain_long, chunk_long 4 (m.clip ∷ m.defect ∷ []))
