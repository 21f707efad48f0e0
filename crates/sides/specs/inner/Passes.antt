-- What a pass does: it enters sides, each to a row of its own or joined to the row that has its edge, and looks the sides behind up. `take`
-- says which sides are asked for.
use Rattle.std.specs.Prelude.{◌≡◌, Bool, true, List, ℕ, ◌-◌, ◌*◌, ◌/◌, ◌≤◌, ◌<◌, ltb, length}
use Rattle.forest.specs.inner.Words.{held_in}
use Rattle.ids.specs.EdgeChain.{Edge}
use Rattle.ids.specs.Pieces.{solid}
use Rattle.sides.specs.declared.Plan.{Plan}
use Rattle.sides.specs.inner.Joins.{OneWordEach, Labelled, Grows}
use Rattle.sides.specs.inner.Sides.{side_edge, taken, side_home, slot_edge, Limited, Slots}

-- some row holds side i's edge, and the row's side and side i have one label
abbrev pub Has : List ℕ → ℕ → (ℕ → ℕ) → (ℕ → ℕ) → ℕ → Type 0
Has ids n s f i = (r : ℕ) × (r < n) × (0 < s r) × (slot_edge ids s r ≡ side_edge ids i) × (f ((s r - 1) / 3) ≡ f (i / 3))

-- this is so for each side from a on below b that is asked for
abbrev pub SidesCovered : List ℕ → (ℕ → Bool) → ℕ → (ℕ → ℕ) → ℕ → ℕ → (ℕ → ℕ) → Type 0
SidesCovered ids take n s a b f = (i : ℕ) → a ≤ i → i < b → take i ≡ true → Has ids n s f i

-- whichever row holds such a side's edge, the row's side and this one have one label
abbrev pub Followed : List ℕ → (ℕ → Bool) → ℕ → (ℕ → ℕ) → ℕ → ℕ → (ℕ → ℕ) → Type 0
Followed ids take n s a b f =
    (i : ℕ) → a ≤ i → i < b → take i ≡ true → (r : ℕ) → r < n → 0 < s r → slot_edge ids s r ≡ side_edge ids i
    → f ((s r - 1) / 3) ≡ f (i / 3)

-- what trying to enter the sides from a on below b does, from t to u with n slots, and whether all are entered
pub record Entered (ids : List ℕ) (home : Edge → ℕ) (limit n : ℕ) (take : ℕ → Bool) (a b : ℕ) (t u : List ℕ) (entered : Bool) : Type 0
  where
    pub slots : Slots ids home limit n (held_in u)
    -- a slot in use stays
    pub rows : (r : ℕ) → r < n → 0 < held_in t r → held_in u r ≡ held_in t r
    -- where all are entered a row holds each; entered or not, each has one label with the row that held its edge before
    pub more : Grows ids t u (λ g. (entered ≡ true → SidesCovered ids take n (held_in u) a b g) × Followed ids take n (held_in t) a b g)

-- ---- the same of a pass by its plan, with the words of t

abbrev pub home_in : Plan → List ℕ → Edge → ℕ
home_in plan t = side_home plan.low plan.high (length t)

pub record SlotsReady (plan : Plan) (ids t : List ℕ) : Type 0 where
  pub sized : OneWordEach ids t
  pub limited : Limited plan.limit (length t)
  pub slots : Slots ids (home_in plan t) plan.limit (length t) (held_in t)
  pub labelled : Labelled ids t

-- side c, of a distinct-id triangle, with this edge
pub record SideReady (plan : Plan) (ids t : List ℕ) (c : ℕ) (e : Edge) : Type 0 where
  pub ready : SlotsReady plan ids t
  pub here : c < 3 * length t
  pub of_solid : solid ids (c / 3) ≡ true
  pub is : side_edge ids c ≡ e

abbrev pub Enters : Plan → List ℕ → ℕ → ℕ → List ℕ → List ℕ → Bool → Type 0
Enters plan ids a b t u entered = Entered ids (home_in plan t) plan.limit (length t) (taken ids plan.class) a b t u entered

-- the triangles from `from` on below `next`, where so many slots may be filled; with none, all triangles are looked up
pub record EntersTo (plan : Plan) (ids : List ℕ) (most from next : ℕ) (t u : List ℕ) : Type 0 where
  pub ahead : from ≤ next
  pub within : next ≤ length t
  pub enters : Enters plan ids (3 * from) (3 * next) t u (ltb 0 most)
  pub all : most ≡ 0 → next ≡ length t

-- ---- what passes leave settled

-- each side from a on below b has one label with all sides behind it that have its edge, of those asked for
abbrev pub Settled : List ℕ → (ℕ → Bool) → ℕ → ℕ → ℕ → (ℕ → ℕ) → Type 0
Settled ids take n a b f =
    (i j : ℕ) → a ≤ i → i < b → i ≤ j → j < 3 * n → take i ≡ true → take j ≡ true → side_edge ids i ≡ side_edge ids j → f (i / 3) ≡ f (j / 3)

-- what brings that about
abbrev pub Settles : List ℕ → (ℕ → Bool) → ℕ → ℕ → ℕ → List ℕ → List ℕ → Type 0
Settles ids take n a b t u = Grows ids t u (Settled ids take n a b)
