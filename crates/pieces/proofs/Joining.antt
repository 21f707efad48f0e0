-- Triangles joined by themselves, all passes over a class, and all classes. Assumes nothing.
use mathlib.Core.Path.{◌≡◌, refl, sym, ap, ◌∙◌, subst}
use mathlib.Core.Logic.{◌≢◌}
use mathlib.Core.Bool.{Bool, true}
use mathlib.Core.List.{List}
use Prim.Native.Nat.{ℕ, ◌+◌, ◌*◌, ◌/◌, ◌≤◌, ◌<◌}
use native.Mathlib.Omega.{arith}
use native.Mathlib.Decide.{ℕ_discrete, dec_lt}
use lib.ListN.{length}
use Rattle.ids.specs.Triangles.{triangle}
use Rattle.ids.specs.Pieces.{solid}
use Rattle.sides.specs.inner.Joins.{joins, Linked, Good, More, Grows}
use Rattle.sides.specs.inner.Sides.{side_edge, edge_class, taken}
use Rattle.sides.specs.inner.Passes.{Settled, Settles}
use Rattle.sides.proofs.Sides.{share_sides, sides_share, class_below, taken_solid, taken_here}
use Rattle.sides.proofs.Joins.{more_none, more_then}
use Rattle.pieces.specs.inner.Joined.{Tied, AllJoined}

-- one triangle by itself
pub settled_one : {ids : List ℕ} {n : ℕ} (q : ℕ) {t : ℕ} {f : ℕ → ℕ} → t < n → Tied ids n t (t + 1) n f
    → Settled ids (taken ids q) n (3 * t) (3 * (t + 1)) f
settled_one {ids} {n} q {t} {f} lt tied i j la lb le lj ti tj e = go (ℕ_discrete (j / 3) t)
  where
    at : i / 3 ≡ t
    at = omega arith

    link : j / 3 ≢ t → Linked ids n t (j / 3)
    link ne = record {
      within = (lt, omega arith);
      solids = (subst (λ (x : ℕ). solid ids x ≡ true) at (taken_solid ids q i ti), taken_solid ids q j tj);
      share = subst (λ (x : ℕ). joins (triangle ids x) (triangle ids (j / 3)) ≡ true) at (share_sides ids i j e);
    }

    go : Dec (j / 3 ≡ t) → f (i / 3) ≡ f (j / 3)
    go (yes z) = ap f (at ∙ sym z)
    go (no ne) = ap f at ∙ tied (j / 3) (omega arith) (omega arith) (link ne)

-- one more triangle
pub tied_then : {ids : List ℕ} {n s a b : ℕ} {t u v : List ℕ} → Grows ids t u (Tied ids n s a b) → Grows ids u v (Tied ids n s b (b + 1))
    → Grows ids t v (Tied ids n s a (b + 1))
tied_then {s = s} {b = b} p q = more_then p q (λ g h old keeps new j la lb k.
    elim (dec_lt j b) [ yes l ↦ keeps s j (old j la l k) | no l ↦ new j (omega arith) lb k ])

-- ---- all passes

pub settles_none : (ids : List ℕ) (take : ℕ → Bool) (n a : ℕ) {t : List ℕ} → Settles ids take n a a t t
settles_none ids take n a f g = more_none g (λ i j la lb. absurd (omega arith))

pub settles_then : (ids : List ℕ) (take : ℕ → Bool) (n a b c : ℕ) {t u v : List ℕ} → Settles ids take n a b t u
    → Settles ids take n b c u v → Settles ids take n a c t v
settles_then ids take n a b c p q = more_then p q (λ g h old keeps new i j la lc le lj ti tj e.
    elim (dec_lt i b) [
      | yes l ↦ keeps (i / 3) (j / 3) (old i j la l le lj ti tj e)
      | no l ↦ new i j (omega arith) lc le lj ti tj e
    ])

-- the sides of the classes below q are settled
pub record Joining (ids t : List ℕ) (n q : ℕ) : Type 0 where
  pub label : ℕ → ℕ
  pub good : Good ids t label
  pub done : (p : ℕ) → p < q → Settled ids (taken ids p) n 0 (3 * n) label

pub joining_none : {ids t : List ℕ} {n : ℕ} {f : ℕ → ℕ} → Good ids t f → Joining ids t n 0
joining_none {f = f} g = record { label = f; good = g; done = λ p l. absurd (omega arith) }

pub joining_next : {ids t u : List ℕ} {n q : ℕ} → Joining ids t n q → Settles ids (taken ids q) n 0 (3 * n) t u → Joining ids u n (q + 1)
joining_next {ids} {t} {u} {n} {q} z w = record { label = new.label; good = new.good; done = done }
  where
    new : More ids u z.label (Settled ids (taken ids q) n 0 (3 * n))
    new = w z.label z.good

    done : (p : ℕ) → p < q + 1 → Settled ids (taken ids p) n 0 (3 * n) new.label
    done p l i j la lb le lj ti tj e =
        elim (dec_lt p q) [
          | yes old ↦ new.keeps (i / 3) (j / 3) (z.done p old i j la lb le lj ti tj e)
          | no now ↦ (let same : p ≡ q = omega arith in
              new.holds i j la lb le lj (subst (λ (x : ℕ). taken ids x i ≡ true) same ti)
              (subst (λ (x : ℕ). taken ids x j ≡ true) same tj) e)
        ]

-- linked triangles have sides with one edge, and its class is one of the three
pub joined_all : {ids t : List ℕ} {n q : ℕ} → length t ≡ n → Joining ids t n q → 3 ≤ q → AllJoined ids t
joined_all {ids} {t} {n} {q} long z three = record { label = z.label; good = z.good; follows = follows }
  where
    follows : (x y : ℕ) → Linked ids (length t) x y → z.label x ≡ z.label y
    follows x y k =
        let r = sides_share ids x y k.share in
        let i = r.0 in
        let j = r.1 in
        let ei : i / 3 ≡ x = r.2 in
        let ej : j / 3 ≡ y = r.3 in
        let p = edge_class (side_edge ids i) in
        let lp : p < q = omega (arith, class_below (side_edge ids i)) in
        let ti : taken ids p i ≡ true = taken_here ids p i (ap (solid ids) ei ∙ k.solids.0) refl in
        let tj : taken ids p j ≡ true = taken_here ids p j (ap (solid ids) ej ∙ k.solids.1) (ap edge_class (sym r.4)) in
        let li : i < 3 * n = omega (arith, k.within.0) in
        let lj : j < 3 * n = omega (arith, k.within.1) in
        let one : z.label (i / 3) ≡ z.label (j / 3) = elim (dec_lt j i) [
          | yes m ↦ sym (z.done p lp j i (omega arith) lj (omega arith) li tj ti (sym r.4))
          | no m ↦ z.done p lp i j (omega arith) li (omega arith) lj ti tj r.4
        ] in
        sym (ap z.label ei) ∙ one ∙ ap z.label ej
