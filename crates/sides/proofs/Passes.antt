-- A pass over the sides: entering some and then others, filling the slots and looking the sides behind up, and what a pass leaves settled.
-- Assumes nothing.
use mathlib.Core.Path.{◌≡◌, sym, ap, ◌∙◌, subst}
use mathlib.Core.Bool.{Bool, true, ◌&&◌}
use mathlib.Core.List.{List}
use Prim.Native.Nat.{ℕ, ◌-◌, ◌*◌, ◌/◌, ◌<◌}
use native.Mathlib.Omega.{arith}
use native.Mathlib.Decide.{dec_lt}
use lib.ListN.{length}
use Rattle.ids.specs.EdgeChain.{Edge}
use Rattle.ids.proofs.Same.{both}
use Rattle.forest.specs.inner.Words.{held_in, Freed}
use Rattle.sides.specs.inner.Sides.{side_edge, taken, side_home, Slots}
use Rattle.sides.specs.inner.Passes.{Has, SidesCovered, Followed, Entered, home_in, SlotsReady, Enters, Settled, Settles}
use Rattle.sides.specs.declared.Plan.{Plan}
use Rattle.sides.proofs.Joins.{more_then, labelled_then, good_kept}

-- ---- entering

-- what `Entered` says of the labels, for slots s before and s' after
abbrev Asked : List ℕ → (ℕ → Bool) → ℕ → ℕ → ℕ → (ℕ → ℕ) → (ℕ → ℕ) → Bool → (ℕ → ℕ) → Type 0
Asked ids take n a b s s' e f = (e ≡ true → SidesCovered ids take n s' a b f) × Followed ids take n s a b f

-- what a row has stays so where used slots stay and labels get coarser
has_kept : (ids : List ℕ) {n : ℕ} {s s' f g : ℕ → ℕ} → ((r : ℕ) → r < n → 0 < s r → s' r ≡ s r)
    → ((x y : ℕ) → f x ≡ f y → g x ≡ g y) → (i : ℕ) → Has ids n s f i → Has ids n s' g i
has_kept ids {s = s} {s' = s'} {g = g} rows keeps i h =
    let r = h.0 in
    let e : s' r ≡ s r = rows r h.1 h.2 in (
      r,
      h.1,
      rw e h.2,
      ap (λ (x : ℕ). side_edge ids (x - 1)) e ∙ h.3,
      ap (λ (x : ℕ). g ((x - 1) / 3)) e ∙ keeps ((s r - 1) / 3) (i / 3) h.4,
    )

module _ {ids : List ℕ} {home : Edge → ℕ} {limit n : ℕ} {take : ℕ → Bool} {a b b' c : ℕ} {t u v : List ℕ} {e e' : Bool}
    (p : Entered ids home limit n take a b t u e) (q : Entered ids home limit n take b' c u v e') where
  rows_then : (r : ℕ) → r < n → 0 < held_in t r → held_in v r ≡ held_in t r
  rows_then r l used = q.rows r l (omega (arith, p.rows r l used)) ∙ p.rows r l used

  -- what was entered stays so, whatever is entered then
  pub entered_kept : Entered ids home limit n take a b t v e
  entered_kept =
      record {
        slots = q.slots;
        rows = rows_then;
        more = more_then p.more q.more (λ g h old keeps new. (
          λ z i la lb tk. has_kept ids q.rows keeps i (old.0 z i la lb tk),
          λ i la lb tk r lr used k. keeps ((held_in t r - 1) / 3) (i / 3) (old.1 i la lb tk r lr used k),
        ));
      }

  -- sides up to b, and those from b on
  pub entered_then : b' ≡ b → Entered ids home limit n take a c t v (e && e')
  entered_then on =
      record {
        slots = q.slots;
        rows = rows_then;
        more = more_then p.more q.more (λ g h old keeps new. (covered g h old keeps new, followed g h old keeps new));
      }
    where
      covered : (g h : ℕ → ℕ) → Asked ids take n a b (held_in t) (held_in u) e g → ((x y : ℕ) → g x ≡ g y → h x ≡ h y)
          → Asked ids take n b' c (held_in u) (held_in v) e' h → e && e' ≡ true → SidesCovered ids take n (held_in v) a c h
      covered g h old keeps new z i la lc tk =
          elim (dec_lt i b) [
            | yes l ↦ has_kept ids q.rows keeps i (old.0 (both e e' z).0 i la l tk)
            | no l ↦ new.0 (both e e' z).1 i (omega arith) lc tk
          ]

      followed : (g h : ℕ → ℕ) → Asked ids take n a b (held_in t) (held_in u) e g → ((x y : ℕ) → g x ≡ g y → h x ≡ h y)
          → Asked ids take n b' c (held_in u) (held_in v) e' h → Followed ids take n (held_in t) a c h
      followed g h old keeps new i la lc tk r lr used k =
          let stays : held_in u r ≡ held_in t r = p.rows r lr used in
          elim (dec_lt i b) [
            | yes l ↦ keeps ((held_in t r - 1) / 3) (i / 3) (old.1 i la l tk r lr used k)
            | no l ↦ ap (λ (x : ℕ). h ((x - 1) / 3)) (sym stays)
                ∙ new.1 i (omega arith) lc tk r lr (omega arith) (ap (λ (x : ℕ). side_edge ids (x - 1)) stays ∙ k)
          ]

-- ---- the same by a plan

-- words in a pass are so after it entered sides
pub ready_then : (plan : Plan) {ids t u : List ℕ} {a b : ℕ} {e : Bool} → SlotsReady plan ids t → length u ≡ length t
    → Enters plan ids a b t u e → SlotsReady plan ids u
ready_then plan z long p =
    record {
      sized = record { few = z.sized.few; long = long ∙ z.sized.long };
      limited = (z.limited.0, omega (arith, z.limited.1));
      slots = rw long p.slots;
      labelled = labelled_then z.labelled p.more;
    }

module _ (plan : Plan) {ids t u v : List ℕ} {a b b' c : ℕ} {e e' : Bool} (long : length u ≡ length t)
    (p : Enters plan ids a b t u e) (q : Enters plan ids b' c u v e') where
  on : Entered ids (home_in plan t) plan.limit (length t) (taken ids plan.class) b' c u v e'
  on =
      subst (λ (n : ℕ). Entered ids (side_home plan.low plan.high n) plan.limit n (taken ids plan.class) b' c u v e')
      long q

  pub enters_kept : Enters plan ids a b t v e
  enters_kept = entered_kept p on

  pub enters_then : b' ≡ b → Enters plan ids a c t v (e && e')
  enters_then next = entered_then p on next

-- ---- a pass

-- sides entered before b, and all from b on looked up
settled : {ids : List ℕ} {home : Edge → ℕ} {limit n : ℕ} {take : ℕ → Bool} {a b : ℕ} {s g h : ℕ → ℕ} → Slots ids home limit n s
    → SidesCovered ids take n s a b g → ((x y : ℕ) → g x ≡ g y → h x ≡ h y) → Followed ids take n s b (3 * n) h → Settled ids take n a b h
settled {ids} {home} {limit} {n} {take} {a} {b} {s} {g} {h} z cov keeps fol i j la lb le lj ti tj e = go (dec_lt j b)
  where
    first : Has ids n s g i
    first = cov i la lb ti

    go : Dec (j < b) → h (i / 3) ≡ h (j / 3)
    go (yes l) =
        let then = cov j (omega arith) l tj in
        let one : first.0 ≡ then.0 =
        z.spread.one first.0 then.0 first.1 first.2 then.1 then.2 (first.3 ∙ e ∙ sym then.3) in
        keeps (i / 3) (j / 3) (sym first.4 ∙ ap (λ (r : ℕ). g ((s r - 1) / 3)) one ∙ then.4)
    go (no l) =
        sym (keeps ((s first.0 - 1) / 3) (i / 3) first.4)
        ∙ fol j (omega arith) lj tj first.0 first.1 first.2 (first.3 ∙ e)

-- the slots freed, filled, and the sides behind looked up
pub swept : {ids : List ℕ} {home : Edge → ℕ} {limit m n : ℕ} {take : ℕ → Bool} {a b c : ℕ} {t u v w : List ℕ} {e e' : Bool}
    → length u ≡ length t → Freed m t u
    → Entered ids home limit n take a b u v e → e ≡ true → Entered ids home limit n take b c v w e' → c ≡ 3 * n
    → Settles ids take n a b t w
swept long freed fill filled rest all =
    more_then (λ f g. fill.more f (good_kept long freed.parents g)) rest.more
    (λ g h cov keeps fol. settled fill.slots (cov.0 filled) keeps (λ i la lb. fol.1 i la (omega arith)))
