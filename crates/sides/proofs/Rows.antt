-- The row that a search of the slots gave for a side: it is the only one with the side's edge, so joining with it, or filling it, is all
-- that there is to do. Assumes nothing.
use mathlib.Core.Path.{◌≡◌, refl, sym, ap, ◌∙◌, subst, fun_ext}
use mathlib.Core.Logic.{◌≢◌}
use mathlib.Core.Bool.{Bool, true, false, false≢true}
use mathlib.Core.List.{List}
use Prim.Native.Nat.{ℕ, ◌+◌, ◌-◌, ◌*◌, ◌/◌, ◌≤◌, ◌<◌}
use native.Mathlib.Omega.{arith}
use native.Mathlib.Decide.{ℕ_discrete, dec_lt}
use lib.ListN.{length, length-set}
use Rattle.ids.specs.EdgeChain.{Edge}
use Rattle.ids.specs.Pieces.{solid}
use Rattle.table.specs.inner.Rows.{dist}
use Rattle.table.proofs.Search.{other, Written, spread_step}
use Rattle.forest.specs.inner.Words.{held_in, with_slot}
use Rattle.forest.specs.inner.Labels.{merged, Joined}
use Rattle.forest.proofs.Words.{slot_here, slot_else, parents_stay}
use Rattle.forest.proofs.Labels.{merged_joins}
use Rattle.sides.specs.inner.Joins.{Linked}
use Rattle.sides.specs.inner.Sides.{side_edge, slot_edge, AllFree, Sought, Slots}
use Rattle.sides.specs.inner.Passes.{Has, Followed, Entered}
use Rattle.sides.proofs.Sides.{share_sides}
use Rattle.sides.proofs.Joins.{more_joined, more_none, good_kept}

-- what holds of slots holds of equal ones
along : (P : (ℕ → ℕ) → Type 0) (t u : List ℕ) → ((i : ℕ) → held_in u i ≡ held_in t i) → P (held_in t) → P (held_in u)
along P t u same p = subst P (fun_ext (λ i. sym (same i))) p

-- free slots are in order
pub slots_free : {ids : List ℕ} {home : Edge → ℕ} {limit n : ℕ} {s : ℕ → ℕ} → AllFree n s → Slots ids home limit n s
slots_free free =
    record {
      sides = λ r l. omega (arith, free r l);
      spread =
          record {
            one = λ i j li ui lj uj e. absurd (omega (arith, free i li));
            reach = λ i j li ui lj d. absurd (omega (arith, free i li));
          };
      near = λ r l u. absurd (omega (arith, free r l));
      solids = λ r l u. absurd (omega (arith, free r l));
    }

-- where no side is asked for there is nothing to do
pub entered_none : {ids : List ℕ} {home : Edge → ℕ} {limit n : ℕ} {take : ℕ → Bool} {a b : ℕ} {t : List ℕ} {entered : Bool}
    → Slots ids home limit n (held_in t) → ((i : ℕ) → a ≤ i → i < b → take i ≡ false)
    → Entered ids home limit n take a b t t entered
entered_none z none =
    record {
      slots = z;
      rows = λ r l u. refl;
      more = λ f g. more_none g (
        λ e i la lb h. absurd (false≢true (sym (none i la lb) ∙ h)),
        λ i la lb h. absurd (false≢true (sym (none i la lb) ∙ h)),
      );
    }

-- side c with the edge e, of a distinct-id triangle, and the row r that a search of n slots s gave for it
pub record AtRow (ids : List ℕ) (home : Edge → ℕ) (limit n : ℕ) (s : ℕ → ℕ) (c r : ℕ) (e : Edge) : Type 0 where
  pub slots : Slots ids home limit n s
  pub home_in_lem : home e < n
  pub sought : Sought n limit (home e) (slot_edge ids s) s e r
  pub here : c < 3 * n
  pub of_solid : solid ids (c / 3) ≡ true
  pub is : side_edge ids c ≡ e

module _ {ids : List ℕ} {home : Edge → ℕ} {limit n : ℕ} {s : ℕ → ℕ} {c r : ℕ} {e : Edge} (w : AtRow ids home limit n s c r e) where
  -- a row in use with the edge is the one found
  row_is : (x : ℕ) → x < n → 0 < s x → slot_edge ids s x ≡ e → x ≡ r
  row_is x lx used k = go (dec_lt r n) (ℕ_discrete x r)
    where
      go : Dec (r < n) → Dec (x ≡ r) → x ≡ r
      go d (yes p) = p
      go (yes l) (no ne) =
          absurd (other n home (slot_edge ids s) s e r w.home_in_lem w.slots.spread (w.sought.found l) x lx used ne k)
      go (no l) (no ne) =
          let z : r ≡ n = omega (arith, w.sought.within) in
          let d : dist n (home e) x < limit = subst (λ (y : Edge). dist n (home y) x < limit) k (w.slots.near x lx used) in
          absurd ((w.sought.none z x lx d).1 k)

  -- its side and c are of linked triangles
  row_linked : r < n → 0 < s r → Linked ids n ((s r - 1) / 3) (c / 3)
  row_linked lr used =
      record {
        within = (omega (arith, w.slots.sides r lr), omega (arith, w.here));
        solids = (w.slots.solids r lr used, w.of_solid);
        share = share_sides ids (s r - 1) c ((w.sought.found lr).holds used ∙ sym w.is);
      }

  -- c has one label with the row that holds its edge, if one does
  followed : (take : ℕ → Bool) (f : ℕ → ℕ) → (r < n → 0 < s r → f ((s r - 1) / 3) ≡ f (c / 3)) → Followed ids take n s c (c + 1) f
  followed take f h i la lb tk x lx used k =
      let one : i ≡ c = omega arith in
      let at : x ≡ r = row_is x lx used (k ∙ ap (side_edge ids) one ∙ w.is) in
      ap (λ (y : ℕ). f ((s y - 1) / 3)) at ∙ h (omega arith) (subst (λ (y : ℕ). 0 < s y) at used) ∙ ap (λ (y : ℕ). f (y / 3)) (sym one)

-- side c alone is covered
covered_one : (ids : List ℕ) (n : ℕ) (s f : ℕ → ℕ) (c : ℕ) → Has ids n s f c → (i : ℕ) → c ≤ i → i < c + 1 → Has ids n s f i
covered_one ids n s f c h i la lb = let e : c ≡ i = omega arith in subst (Has ids n s f) e h

module _ {ids : List ℕ} (t : List ℕ) {home : Edge → ℕ} {limit c r : ℕ} {e : Edge} (w : AtRow ids home limit (length t) (held_in t) c r e)
    (take : ℕ → Bool) where
  -- no row was found, or a free one and none may be filled
  pub entered_not : (r < length t → held_in t r ≡ 0) → Entered ids home limit (length t) take c (c + 1) t t false
  entered_not none =
      record {
        slots = w.slots;
        rows = λ x l u. refl;
        more = λ f g. more_none g (λ q. absurd (false≢true q), followed w take f (λ l u. absurd (omega (arith, none l))));
      }

  -- the row's side and c were joined
  module _ (u : List ℕ) (long : length u ≡ length t) (lr : r < length t) (used : 0 < held_in t r)
      (j : Joined t u ((held_in t r - 1) / 3) (c / 3)) where
    label : (ℕ → ℕ) → ℕ → ℕ
    label f = merged f ((held_in t r - 1) / 3) (c / 3)

    one_label : (f : ℕ → ℕ) → label f ((held_in t r - 1) / 3) ≡ label f (c / 3)
    unfolding label
    one_label f = merged_joins f ((held_in t r - 1) / 3) (c / 3)

    has_row : (f : ℕ → ℕ) → Has ids (length t) (held_in u) (label f) c
    has_row f =
        along (λ (o : ℕ → ℕ). Has ids (length t) o (label f) c) t u j.slots
        (r, lr, used, (w.sought.found lr).holds used ∙ sym w.is, one_label f)

    pub entered_joined : Entered ids home limit (length t) take c (c + 1) t u true
    unfolding label
    entered_joined =
        record {
          slots = along (Slots ids home limit (length t)) t u j.slots w.slots;
          rows = λ x l h. j.slots x;
          more = more_joined long (row_linked w lr used) j (λ f. (
            λ q i la lb tk. covered_one ids (length t) (held_in u) (label f) c (has_row f) i la lb,
            followed w take (label f) (λ l h. one_label f),
          ));
        }

  -- the row was free, and holds c
  module _ (lr : r < length t) (free : held_in t r ≡ 0) where
    v : List ℕ
    v = with_slot t r (c + 1)

    here : held_in v r ≡ c + 1
    unfolding v
    here = slot_here t r (c + 1) lr

    else : (i : ℕ) → i ≢ r → held_in v i ≡ held_in t i
    unfolding v
    else i ne = slot_else t r (c + 1) lr i ne

    edge_here : slot_edge ids (held_in v) r ≡ e
    edge_here = ap (λ (x : ℕ). side_edge ids (x - 1)) here ∙ ap (side_edge ids) (omega arith) ∙ w.is

    side_here : (held_in v r - 1) / 3 ≡ c / 3
    side_here = ap (λ (x : ℕ). (x - 1) / 3) here ∙ ap (λ (x : ℕ). x / 3) (omega arith)

    by : (i : ℕ) (P : ℕ → Type 0) → P r → (i ≢ r → P i) → P i
    by i P a b = elim (ℕ_discrete i r) [ yes q ↦ subst P (sym q) a | no ne ↦ b ne ]

    written : Written (length t) r e (slot_edge ids (held_in t)) (slot_edge ids (held_in v)) (held_in t) (held_in v)
    written =
        record {
          key_at = edge_here;
          mark_at = omega (arith, here);
          key_off = λ i l ne u. ap (λ (x : ℕ). side_edge ids (x - 1)) (else i ne);
          mark_off = λ i l ne. else i ne;
        }

    slots_held : Slots ids home limit (length t) (held_in v)
    slots_held =
        record {
          sides =
              λ i l. by i (λ x. held_in v x ≤ 3 * length t) (omega (arith, here, w.here))
              (λ ne. omega (arith, else i ne, w.slots.sides i l));
          spread =
              spread_step (length t) home (slot_edge ids (held_in t)) (held_in t) e r w.home_in_lem w.slots.spread (w.sought.found lr)
              (slot_edge ids (held_in v)) (held_in v) written;
          near = λ i l. by i (λ x. 0 < held_in v x → dist (length t) (home (slot_edge ids (held_in v) x)) x < limit)
              (λ h. subst (λ (k : Edge). dist (length t) (home k) r < limit) (sym edge_here) (w.sought.near lr))
              (λ ne. subst (λ (x : ℕ). 0 < x → dist (length t) (home (side_edge ids (x - 1))) i < limit)
              (sym (else i ne)) (w.slots.near i l));
          solids =
              λ i l. by i (λ x. 0 < held_in v x → solid ids ((held_in v x - 1) / 3) ≡ true) (λ h. ap (solid ids) side_here ∙ w.of_solid)
              (λ ne. subst (λ (x : ℕ). 0 < x → solid ids ((x - 1) / 3) ≡ true) (sym (else i ne)) (w.slots.solids i l));
        }

    has_new : (f : ℕ → ℕ) → Has ids (length t) (held_in v) f c
    has_new f = (r, lr, omega (arith, here), edge_here ∙ sym w.is, ap f side_here)

    pub entered_held : Entered ids home limit (length t) take c (c + 1) t (with_slot t r (c + 1)) true
    unfolding v
    entered_held =
        record {
          slots = slots_held;
          rows = λ x l h. else x (λ q. omega (arith, ap (held_in t) q));
          more = λ f g. record {
            label = f;
            good = good_kept (length-set t r _) (parents_stay t r (c + 1) lr) g;
            keeps = λ x y q. q;
            holds = (
              λ q i la lb tk. covered_one ids (length t) (held_in v) f c (has_new f) i la lb,
              followed w take f (λ l u. absurd (omega arith)),
            );
          };
        }
