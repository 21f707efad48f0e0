-- What a forest of parents means: each triangle is labelled by the root above it. What a search for a root and a join do to the labels.
use Rattle.std.specs.Prelude.{◌≡◌, cond, List, ℕ, ◌≤◌, ◌<◌, min, max, eqb, length}
use Rattle.forest.specs.inner.Words.{parent_in, held_in}

-- n triangles with the parents p are labelled by f: each by the root above it, and no parent is larger than its child
pub record LabelledBy (n : ℕ) (p f : ℕ → ℕ) : Type 0 where
  pub down : (i : ℕ) → i < n → p i ≤ i
  pub same : (i : ℕ) → i < n → f (p i) ≡ f i
  pub least : (i : ℕ) → i < n → f i ≤ i
  pub top : (i : ℕ) → i < n → p (f i) ≡ f i
  pub own : (i : ℕ) → i < n → p i ≡ i → f i ≡ i

abbrev pub Forest : List ℕ → Type 0
Forest t = (f : ℕ → ℕ) × LabelledBy (length t) (parent_in t) f

-- the labels of a and b made one: the smaller
unfoldable pub merged : (ℕ → ℕ) → ℕ → ℕ → ℕ → ℕ
merged f a b x = cond (eqb (f x) (max (f a) (f b))) (min (f a) (f b)) (f x)

-- after a search for x's root: it is r, and the labels and the slots are the same
pub record RootOf (t u : List ℕ) (x r : ℕ) : Type 0 where
  pub is : (f : ℕ → ℕ) → LabelledBy (length t) (parent_in t) f → r ≡ f x
  pub means : (f : ℕ → ℕ) → LabelledBy (length t) (parent_in t) f → LabelledBy (length t) (parent_in u) f
  pub slots : (i : ℕ) → held_in u i ≡ held_in t i

-- after a and b were joined: their labels are one, and the slots are the same
pub record Joined (t u : List ℕ) (a b : ℕ) : Type 0 where
  pub means : (f : ℕ → ℕ) → LabelledBy (length t) (parent_in t) f → LabelledBy (length t) (parent_in u) (merged f a b)
  pub slots : (i : ℕ) → held_in u i ≡ held_in t i
