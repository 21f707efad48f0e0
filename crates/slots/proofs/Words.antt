-- What the words of a table mean after an entry's are written: slots and the other entries stand apart. Assumes nothing.
use mathlib.Core.Path.{◌≡◌, refl, ap, ◌∙◌}
use mathlib.Core.Logic.{◌≢◌}
use mathlib.Core.List.{List, [], ◌∷◌}
use Prim.Native.Nat.{ℕ, zero, suc, ◌+◌, ◌*◌, ◌≤◌, ◌<◌}
use native.Mathlib.Omega.{arith}
use native.Mathlib.Nat.{mul-le-mul_left, mul-suc}
use native.Mathlib.Decide.{ℕ_discrete, dec_lt}
use lib.ListN.{length, get_or, set, length-set}
use lib.Seq.{sets, get_or-set_same, get_or-set_other}
use Rattle.slots.specs.declared.Code.{Code}
use Rattle.slots.specs.inner.Forms.{Form, FormLaws}
use Rattle.slots.specs.inner.Slots.{mark_in, entry_key, Claimable, Claimed}

-- ---- several words written

sets_off : (vs l : List ℕ) (at i : ℕ) → ((d : ℕ) → d < length vs → i ≢ at + d) → get_or (sets l at vs) i 0 ≡ get_or l i 0
sets_off [] l at i out = refl
sets_off (a ∷ vs) l at i out =
    sets_off vs (set l at a) (suc at) i (λ d b e. out (suc d) (omega arith) (omega arith))
    ∙ get_or-set_other l at i a 0 (λ e. out 0 (omega arith) (omega arith))

sets_at : (vs l : List ℕ) (at d : ℕ) → d < length vs → at + length vs ≤ length l → get_or (sets l at vs) (at + d) 0 ≡ get_or vs d 0
sets_at [] l at d b room = absurd (omega arith)
sets_at (a ∷ vs) l at zero b room =
    let e : at + 0 ≡ at = omega arith in
    rw e (sets_off vs (set l at a) (suc at) at (λ d c e. omega arith) ∙ get_or-set_same l at a 0 (omega arith))
sets_at (a ∷ vs) l at (suc d) b room =
    let e : at + suc d ≡ suc at + d = omega arith in
    rw e (sets_at vs (set l at a) (suc at) d (omega arith) (omega (arith, length-set l at a)))

-- ---- the words of an entry end where those of the table do, and no other entry has one of them

pub entry_ends : (w n v : ℕ) → v < n → w * v + w ≤ w * n
entry_ends w n v l = let m : w * suc v ≤ w * n = mul-le-mul_left w (omega arith) in omega (arith, mul-suc w v)

entries_apart : (w j v d e : ℕ) → j ≢ v → d < w → e < w → w * j + d ≢ w * v + e
entries_apart w j v d e ne l m q = elim (dec_lt j v) [
  | yes b ↦ omega (arith, entry_ends w v j b)
  | no b ↦ (let c : v < j = omega arith in omega (arith, entry_ends w j v c))
]

-- ---- a slot is given to an entry

module _ (form : Form) (laws : FormLaws form) where
  -- the entry's number and 1 more are added to a word that is free
  pub word_fits : (x v : ℕ) → form.mark x ≡ 0 → v < 32768 → x < 4294967296 → x + (v + 1) < 4294967296
  word_fits x v free small l = omega (arith, laws.upper x v free small)

  module _ (n r v : ℕ) (k : Code) (t w : List ℕ) (can : Claimable form n r v k t)
      (is : w ≡ sets (set t r (get_or t r 0 + (v + 1))) (2 * n + form.words * v) (form.into k)) where
    abbrev at : ℕ
    at = 2 * n + form.words * v

    abbrev marked : List ℕ
    marked = set t r (get_or t r 0 + (v + 1))

    room : at + length (form.into k) ≤ length marked
    room = omega (arith, length-set t r (get_or t r 0 + (v + 1)), laws.long k, entry_ends form.words n v can.entry, can.words.long)

    -- off the entry's words
    off : (i : ℕ) → ((d : ℕ) → d < form.words → i ≢ at + d) → get_or w i 0 ≡ get_or marked i 0
    off i out = rw is (sets_off (form.into k) marked at i (λ d b. out d (omega (arith, laws.long k))))

    slot : (i : ℕ) → i < 2 * n → get_or w i 0 ≡ get_or marked i 0
    slot i l = off i (λ d b e. omega arith)

    word_at : get_or w r 0 ≡ get_or t r 0 + (v + 1)
    word_at = slot r can.slot ∙ get_or-set_same t r (get_or t r 0 + (v + 1)) 0 (omega (arith, can.slot, can.words.long))

    word_off : (i : ℕ) → i < 2 * n → i ≢ r → get_or w i 0 ≡ get_or t i 0
    word_off i l ne = slot i l ∙ get_or-set_other t r i (get_or t r 0 + (v + 1)) 0 ne

    pub claimed : Claimed form n r v k t w
    unfolding mark_in entry_key
    claimed =
        let small : v < 32768 = omega (arith, can.entry, can.words.small) in
        record {
          mark_at = ap form.mark word_at ∙ laws.marked (get_or t r 0) v can.free small;
          mark_off = λ i l ne. ap form.mark (word_off i l ne);
          key_at =
              laws.told _ (λ d. get_or (form.into k) d 0)
              (λ d b. rw is (sets_at (form.into k) marked at d (omega (arith, laws.long k)) room)) ∙ laws.back k;
          key_off = λ j ne. laws.told _ _ (λ d b.
              off (2 * n + form.words * j + d) (λ e l q. entries_apart form.words j v d e ne b l (omega arith))
              ∙ get_or-set_other t r (2 * n + form.words * j + d) (get_or t r 0 + (v + 1)) 0 (omega (arith, can.slot)));
          upper = λ i l. elim (ℕ_discrete i r) [
            | yes e ↦ rw (e, word_at) (laws.upper (get_or t r 0) v can.free small)
            | no ne ↦ rw (word_off i l ne)
          ];
        }
