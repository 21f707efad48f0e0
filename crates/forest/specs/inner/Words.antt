-- The two numbers of a word: what its triangle hangs on, and what its slot holds. A word is 32768 times the slot, and the parent.
use Rattle.std.specs.Prelude.{◌≡◌, List, ℕ, ◌+◌, ◌*◌, ◌/◌, ◌%◌, ◌<◌, get_or, set}

abbrev pub parent_in : List ℕ → ℕ → ℕ
parent_in t i = get_or t i 0 % 32768

abbrev pub held_in : List ℕ → ℕ → ℕ
held_in t i = get_or t i 0 / 32768

-- with another parent, or another slot
abbrev pub with_parent : List ℕ → ℕ → ℕ → List ℕ
with_parent t i p = set t i (held_in t i * 32768 + p)

abbrev pub with_slot : List ℕ → ℕ → ℕ → List ℕ
with_slot t i s = set t i (s * 32768 + parent_in t i)

-- the first n triangles hang on themselves, and the first n slots are free
pub record Planted (n : ℕ) (t : List ℕ) : Type 0 where
  pub parents : (i : ℕ) → i < n → parent_in t i ≡ i
  pub slots : (i : ℕ) → i < n → held_in t i ≡ 0

-- from t to u the parents stayed, and the first n slots are free
pub record Freed (n : ℕ) (t u : List ℕ) : Type 0 where
  pub parents : (i : ℕ) → parent_in u i ≡ parent_in t i
  pub slots : (i : ℕ) → i < n → held_in u i ≡ 0
