-- A table of n entries at most, by their keys, in lent words. Two words an entry in front are slots: a slot's mark is 0, or the number of
-- an entry plus 1. Behind the slots each entry has the words of its key. How both lie in their words is the table's form.
use Rattle.std.specs.Prelude.{◌≡◌, ◌≢◌, ℕ, ◌+◌, ◌-◌, ◌*◌, ◌/◌, ◌%◌, ◌≤◌, ◌<◌, List, ltb, length, get_or, Result, Ok, Err}
use Rattle.ids.specs.Uses.{bit}
use Rattle.table.specs.inner.Rows.{home_row, sum_to, Found, Free, Spread}
use Rattle.slots.specs.declared.Code.{Code}
use Rattle.slots.specs.inner.Forms.{Form}

-- the hash of a key, of the same kind as that of a face, and the slot at which a search for it starts
unfoldable pub code_hash : Code → ℕ
code_hash k = (k.x % 4294967296 * 1640531527 + k.y % 4294967296 * 1052792407 + k.z % 4294967296 * 779470673) % 4294967296

unfoldable pub code_home : ℕ → Code → ℕ
code_home n k = home_row (2 * n) (code_hash k)

-- ---- slots and entries

-- the mark of slot r
unfoldable pub mark_in : Form → List ℕ → ℕ → ℕ
mark_in form t r = form.mark (get_or t r 0)

-- the key in the words of entry v
unfoldable pub entry_key : Form → ℕ → List ℕ → ℕ → Code
entry_key form n t v = form.key (λ d. get_or t (2 * n + form.words * v + d) 0)

-- the key that slot r holds, by the marks and the entries' keys
abbrev pub held : (ℕ → ℕ) → (ℕ → Code) → ℕ → Code
held mark key r = key (mark r - 1)

abbrev pub held_key : Form → ℕ → List ℕ → ℕ → Code
held_key form n t = held (mark_in form t) (entry_key form n t)

-- ---- what the table means

-- t has the words of n entries
pub record HasWords (form : Form) (n : ℕ) (t : List ℕ) : Type 0 where
  pub small : n ≤ 32768
  pub long : 2 * n + form.words * n ≤ length t

-- the entries in use are among the first e of n
pub record Entries (n : ℕ) (mark : ℕ → ℕ) (key : ℕ → Code) (e : ℕ) : Type 0 where
  pub spread : Spread (2 * n) (code_home n) (held mark key) mark
  pub few : sum_to (λ r. bit (ltb 0 (mark r))) (2 * n) ≤ e
  pub within : (r : ℕ) → r < 2 * n → mark r ≤ e

-- slots name entries, and some slot is free: what a search needs
pub record Searchable (form : Form) (n : ℕ) (t : List ℕ) : Type 0 where
  pub words : HasWords form n t
  pub within : (r : ℕ) → r < 2 * n → mark_in form t r ≤ n
  pub free : Free (2 * n) (mark_in form t)

-- the search for k from a slot on ends at slot r
abbrev pub Ends : Form → ℕ → List ℕ → ℕ → Code → ℕ → Type 0
Ends form n t start k = Found (2 * n) start (held_key form n t) (mark_in form t) k

-- what it answers: the entry of the slot, which has the key, or the slot, where that is free
abbrev pub Finds : Form → ℕ → List ℕ → ℕ → Code → Result ℕ ℕ → Type 0
Finds form n t start k (Ok v) = (r : ℕ) × Ends form n t start k r × (mark_in form t r ≡ v + 1)
Finds form n t start k (Err r) = Ends form n t start k r × (mark_in form t r ≡ 0)

-- slot r can be given to entry v, whose key is k
pub record Claimable (form : Form) (n r v : ℕ) (k : Code) (t : List ℕ) : Type 0 where
  pub words : HasWords form n t
  pub slot : r < 2 * n
  pub entry : v < n
  pub free : mark_in form t r ≡ 0
  pub fits : form.Fits k

-- w is t with slot r given to it
pub record Claimed (form : Form) (n r v : ℕ) (k : Code) (t w : List ℕ) : Type 0 where
  pub mark_at : mark_in form w r ≡ v + 1
  pub mark_off : (i : ℕ) → i < 2 * n → i ≢ r → mark_in form w i ≡ mark_in form t i
  pub key_at : entry_key form n w v ≡ k
  pub key_off : (j : ℕ) → j ≢ v → entry_key form n w j ≡ entry_key form n t j
  -- the upper halves stay
  pub upper : (i : ℕ) → i < 2 * n → get_or w i 0 / 65536 ≡ get_or t i 0 / 65536
