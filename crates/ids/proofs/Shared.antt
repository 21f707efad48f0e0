-- Two triangles share an edge where a side of the one is a side of the other; so sharing goes both ways, and turning both over leaves it.
-- Sharing an id, as 01 had it, goes both ways too, and where an edge is shared an id is. Assumes nothing.
use mathlib.Core.Path.{◌≡◌, refl, sym, ap, ◌∙◌}
use mathlib.Core.Bool.{Bool, true, false, ◌||◌}
use Prim.Native.Nat.{ℕ, zero, suc, ◌<◌, min}
use native.Mathlib.Nat.{min_comm, max_comm}
use native.Mathlib.Decide.{dec_lt}
use native.Mathlib.Omega.{arith}
use borrow.Author.Tests.{eqb-true}
use lib.Dec.{eqb}
use Rattle.ids.specs.Triangles.{Triangle}
use Rattle.ids.specs.EdgeChain.{Edge, edge, same_edge}
use Rattle.ids.specs.Pieces.{has_edge, share_edge}
use Rattle.ids.specs.ByIds.{has, share_id}
use Rattle.ids.specs.Reversed.{turned_triangle}
use Rattle.ids.proofs.Groups.{or_cases, or_left, or_right}
use Rattle.ids.proofs.Same.{eqb_refl, edge_eq, edge_refl}

-- ---- three things of one kind and three others

module _ {K : Type 0} (same : K → K → Bool) (same-eq : (a b : K) → same a b ≡ true → a ≡ b) (same_refl : (a : K) → same a a ≡ true) where
  -- is x one of them?
  abbrev among : K → (ℕ → K) → Bool
  among x g = same x (g 0) || (same x (g 1) || same x (g 2))

  -- is one of f's one of g's?
  abbrev meeting : (ℕ → K) → (ℕ → K) → Bool
  meeting f g = among (f 0) g || (among (f 1) g || among (f 2) g)

  among_at : (x : K) (g : ℕ → K) (k : ℕ) → k < 3 → x ≡ g k → among x g ≡ true
  among_at x g zero l e = or_left (same x (g 0)) _ (rw e (same_refl (g 0)))
  among_at x g (suc zero) l e = or_right (same x (g 0)) _ (or_left (same x (g 1)) _ (rw e (same_refl (g 1))))
  among_at x g (suc (suc zero)) l e = or_right (same x (g 0)) _ (or_right (same x (g 1)) _ (rw e (same_refl (g 2))))
  among_at x g (suc (suc (suc k))) l e = absurd (omega arith)

  at_among : (x : K) (g : ℕ → K) → among x g ≡ true → (k : ℕ) × (k < 3) × (x ≡ g k)
  at_among x g h =
      or_cases (same x (g 0)) _ h (λ e. (0, omega arith, same-eq x (g 0) e))
      (λ q. or_cases (same x (g 1)) _ q (λ e. (1, omega arith, same-eq x (g 1) e)) (λ e. (2, omega arith, same-eq x (g 2) e)))

  meeting_at : (f g : ℕ → K) (j k : ℕ) → j < 3 → k < 3 → f j ≡ g k → meeting f g ≡ true
  meeting_at f g zero k lj l e = or_left (among (f 0) g) _ (among_at (f 0) g k l e)
  meeting_at f g (suc zero) k lj l e = or_right (among (f 0) g) _ (or_left (among (f 1) g) _ (among_at (f 1) g k l e))
  meeting_at f g (suc (suc zero)) k lj l e = or_right (among (f 0) g) _ (or_right (among (f 1) g) _ (among_at (f 2) g k l e))
  meeting_at f g (suc (suc (suc j))) k lj l e = absurd (omega arith)

  at_meeting : (f g : ℕ → K) → meeting f g ≡ true → (j k : ℕ) × (j < 3) × (k < 3) × (f j ≡ g k)
  at_meeting f g h =
      or_cases (among (f 0) g) _ h (λ q. let r = at_among (f 0) g q in (0, r.0, omega arith, r.1, r.2))
      (λ p. or_cases (among (f 1) g) _ p (λ q. let r = at_among (f 1) g q in (1, r.0, omega arith, r.1, r.2))
      (λ q. let r = at_among (f 2) g q in (2, r.0, omega arith, r.1, r.2)))

  meeting_both : (f g : ℕ → K) → meeting f g ≡ true → meeting g f ≡ true
  meeting_both f g h = let r = at_meeting f g h in meeting_at g f r.1 r.0 r.3 r.2 (sym r.4)

-- ---- edges

-- the edge from corner k to the next, round
unfoldable pub side : Triangle → ℕ → Edge
side t zero = edge t.a t.b
side t (suc zero) = edge t.b t.c
side t (suc (suc k)) = edge t.c t.a

pub share_side : (s t : Triangle) (j k : ℕ) → j < 3 → k < 3 → side s j ≡ side t k → share_edge s t ≡ true
unfolding has_edge share_edge side
share_side s t j k lj lk e = meeting_at same_edge edge_eq edge_refl (side s) (side t) j k lj lk e

pub side_share : (s t : Triangle) → share_edge s t ≡ true → (j k : ℕ) × (j < 3) × (k < 3) × (side s j ≡ side t k)
unfolding has_edge share_edge side
side_share s t h = at_meeting same_edge edge_eq edge_refl (side s) (side t) h

pub share_both : (s t : Triangle) → share_edge s t ≡ true → share_edge t s ≡ true
unfolding has_edge share_edge side
share_both s t h = meeting_both same_edge edge_eq edge_refl (side s) (side t) h

-- turned over, two triangles share an edge where they did
edge_comm : (u v : ℕ) → edge u v ≡ edge v u
edge_comm u v = rw (min_comm u v, max_comm u v)

or_turn : (x y z : Bool) → z || (y || x) ≡ x || (y || z)
or_turn true true true = refl
or_turn true true false = refl
or_turn true false true = refl
or_turn true false false = refl
or_turn false true true = refl
or_turn false true false = refl
or_turn false false true = refl
or_turn false false false = refl

has_turned : (t : Triangle) (e : Edge) → has_edge (turned_triangle t) e ≡ has_edge t e
unfolding has_edge
has_turned t e =
    rw (edge_comm t.a t.c, edge_comm t.c t.b, edge_comm t.b t.a)
    (or_turn (same_edge e (edge t.a t.b)) (same_edge e (edge t.b t.c)) (same_edge e (edge t.c t.a)))

pub share_turned : (s t : Triangle) → share_edge (turned_triangle s) (turned_triangle t) ≡ share_edge s t
unfolding share_edge
share_turned s t =
    rw (
      has_turned t (edge s.a s.c),
      has_turned t (edge s.c s.b),
      has_turned t (edge s.b s.a),
      edge_comm s.a s.c,
      edge_comm s.c s.b,
      edge_comm s.b s.a,
    )
    (or_turn (has_edge t (edge s.a s.b)) (has_edge t (edge s.b s.c)) (has_edge t (edge s.c s.a)))

-- ---- ids

-- the id at corner k
unfoldable corner : Triangle → ℕ → ℕ
corner t zero = t.a
corner t (suc zero) = t.b
corner t (suc (suc k)) = t.c

pub id_both : (s t : Triangle) → share_id s t ≡ true → share_id t s ≡ true
unfolding has share_id corner
id_both s t h = meeting_both eqb eqb-true eqb_refl (corner s) (corner t) h

lower_at : (t : Triangle) (i j : ℕ) → i < 3 → j < 3 → (k : ℕ) × (k < 3) × (min (corner t i) (corner t j) ≡ corner t k)
lower_at t i j li lj = elim (dec_lt (corner t i) (corner t j)) [ yes l ↦ (i, li, omega arith) | no l ↦ (j, lj, omega arith) ]

-- the lower id of a side is the id at a corner
low_corner : (t : Triangle) (k : ℕ) → (i : ℕ) × (i < 3) × ((side t k).low ≡ corner t i)
unfolding side corner
low_corner t zero = lower_at t 0 1 (omega arith) (omega arith)
low_corner t (suc zero) = lower_at t 1 2 (omega arith) (omega arith)
low_corner t (suc (suc k)) = lower_at t 2 0 (omega arith) (omega arith)

pub edge_id : (s t : Triangle) → share_edge s t ≡ true → share_id s t ≡ true
unfolding has share_id corner
edge_id s t h =
    let r = side_share s t h in
    let p = low_corner s r.0 in
    let q = low_corner t r.1 in
    meeting_at eqb eqb-true eqb_refl (corner s) (corner t) p.0 q.0 p.1 q.1
    (sym p.2 ∙ ap (λ (e : Edge). e.low) r.4 ∙ q.2)
