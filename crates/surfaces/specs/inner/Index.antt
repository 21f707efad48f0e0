-- The index to the rows, in 5 words for each of m rows at most: a row is an entry (`slots`), and its key's three codes have a word each.
-- So the key of a normal finds its row with no search through all rows.
use Rattle.std.specs.Prelude.{◌≡◌, ℕ, zero, suc, ◌+◌, ◌*◌, ◌<◌, ◌≤◌, List, [], ◌∷◌, ◌++◌, length, drop, pos, slice_set, Float}
use Rattle.ieee.specs.Single.{◌⊕◌, nought}
use Rattle.slots.specs.declared.Code.{Code}
use Rattle.slots.specs.inner.Forms.{narrow}
use Rattle.slots.specs.inner.Slots.{mark_in, entry_key, Entries}
use Rattle.cells.specs.inner.Table.{coded}
use Rattle.rows.specs.Rows.{flatten}
use Rattle.surfaces.specs.declared.Key.{Key}
use Rattle.surfaces.specs.Surfaces.{Bucket, rows, tenth, add_area}

-- the key of bucket j; past the last it means nothing
unfoldable pub key_at : List Bucket → ℕ → Key
key_at [] j = record { x = pos 0; y = pos 0; z = pos 0 }
key_at (b ∷ bs) zero = b.key
key_at (b ∷ bs) (suc j) = key_at bs j

-- a key as numbers
unfoldable pub key_code : Key → Code
key_code k = record { x = coded k.x; y = coded k.y; z = coded k.z }

-- what the index t and the floats u of the surface area say while the rows are summed: they are the buckets bs, and behind these the
-- area is as it was, s
pub record Gathered (m : ℕ) (s : List Float) (t : List ℕ) (u : List Float) (bs : List Bucket) : Type 0 where
  pub entries : Entries m (mark_in narrow t) (entry_key narrow m t) (length bs)
  -- each row has its key's words and a slot
  pub holds : (j : ℕ) → j < length bs → entry_key narrow m t j ≡ key_code (key_at bs j)
  pub has : (j : ℕ) → j < length bs → (r : ℕ) × (r < 2 * m) × (mark_in narrow t r ≡ j + 1)
  pub filled : u ≡ flatten (rows bs) ++ drop (4 * length bs) s

-- ---- one triangle more

-- the floats with a new row n, whose area starts at 0
unfoldable pub with_row : List Float → ℕ → Key → Float → List Float
with_row u n k a =
    slice_set (slice_set (slice_set (slice_set u (4 * n) (nought ⊕ a)) (4 * n + 1) (tenth k.x)) (4 * n + 2) (tenth k.y)) (4 * n + 3) (tenth k.z)

-- t and u mean n rows, of m at most
pub record Ready (m n : ℕ) (t : List ℕ) (u : List Float) : Type 0 where
  pub small : m ≤ 32768
  pub words : length t ≡ 5 * m
  pub room : 4 * m ≤ length u
  pub left : n < m
  pub means : (s : List Float) × (bs : List Bucket) × (length bs ≡ n) × Gathered m s t u bs

-- whatever n rows t and u meant, t' and u' mean them with the area a more for the key k, and r is how many they are
pub record AddsArea (m n : ℕ) (k : Key) (a : Float) (t t' : List ℕ) (u u' : List Float) (r : ℕ) : Type 0 where
  pub adds : (s : List Float) (bs : List Bucket) → length bs ≡ n → Gathered m s t u bs
      → (r ≡ length (add_area k a bs)) × Gathered m s t' u' (add_area k a bs)
