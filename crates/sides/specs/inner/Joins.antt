-- Labels of the triangles while they are joined: never coarser than the joins ask. Whatever joins keeps this.
use Rattle.std.specs.Prelude.{◌≡◌, Bool, true, List, ℕ, ◌<◌, length}
use Rattle.ids.specs.Triangles.{Triangle, triangle, triangle_count}
use Rattle.table.specs.inner.Words.{Lends}
use Rattle.forest.specs.inner.Words.{parent_in}
use Rattle.forest.specs.inner.Labels.{LabelledBy}
use Rattle.ids.specs.Pieces.{solid, share_edge}

-- one word a triangle, for as many ids as are not refused
abbrev pub OneWordEach : List ℕ → List ℕ → Type 0
OneWordEach ids t = Lends (triangle_count ids) ids t

-- what joins two triangles
abbrev pub joins : Triangle → Triangle → Bool
joins = share_edge

-- two distinct-id triangles of n that are to be joined
pub record Linked (ids : List ℕ) (n x y : ℕ) : Type 0 where
  pub within : (x < n) × (y < n)
  pub solids : (solid ids x ≡ true) × (solid ids y ≡ true)
  pub share : joins (triangle ids x) (triangle ids y) ≡ true

-- f is no coarser than the joins ask: what gives linked triangles one label gives a triangle and its f one
abbrev pub Inner : List ℕ → ℕ → (ℕ → ℕ) → Type 0
Inner ids n f = (h : ℕ → ℕ) → ((x y : ℕ) → Linked ids n x y → h x ≡ h y) → (x : ℕ) → x < n → h (f x) ≡ h x

-- the labels of the forest in t are f, and no coarser than the joins ask
pub record Good (ids t : List ℕ) (f : ℕ → ℕ) : Type 0 where
  pub means : LabelledBy (length t) (parent_in t) f
  pub inner : Inner ids (length t) f

abbrev pub Labelled : List ℕ → List ℕ → Type 0
Labelled ids t = (f : ℕ → ℕ) × Good ids t f

-- what joining asks for, and keeps
pub record Joinable (ids t : List ℕ) : Type 0 where
  pub sized : OneWordEach ids t
  pub labelled : Labelled ids t

-- labels of u that give one label to whatever f gives one, with Q
pub record More (ids u : List ℕ) (f : ℕ → ℕ) (Q : (ℕ → ℕ) → Type 0) : Type 0 where
  pub label : ℕ → ℕ
  pub good : Good ids u label
  pub keeps : (x y : ℕ) → f x ≡ f y → label x ≡ label y
  pub holds : Q label

-- what a routine does from t to u: the labels get coarser only as far as the joins ask, and Q holds of them
abbrev pub Grows : List ℕ → List ℕ → List ℕ → ((ℕ → ℕ) → Type 0) → Type 0
Grows ids t u Q = (f : ℕ → ℕ) → Good ids t f → More ids u f Q
