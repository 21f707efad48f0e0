-- Each verdict comes exactly where its meaning holds: by the tests in turn, whatever they are tests of. Assumes nothing.
use mathlib.Core.Path.{◌≡◌, refl, sym, ap, ◌∙◌}
use mathlib.Core.Bool.{Bool, true, false, cond, ◌&&◌, true≢false}
use mathlib.Core.Logic.{◌⊎◌, inl, inr, ⊎_elim}
use mathlib.Core.List.{List}
use Prim.Native.Nat.{ℕ, ◌≤◌, ◌<◌}
use native.Mathlib.Omega.{arith}
use native.Mathlib.Decide.{dec_le}
use borrow.Author.Tests.{le-leb, lt-leb}
use lib.IntN.{nat_abs}
use lib.Ieee.{Float, le}
use Rattle.ieee.specs.Single.{nought}
use Rattle.ids.specs.EdgeChain.{boundary_free, over_incident}
use Rattle.ids.specs.Uses.{signed_sum}
use Rattle.ids.specs.FaceNet.{same_face, faces, max_abs, all_cancel}
use Rattle.ids.proofs.Groups.{or_right}
use Rattle.ids.proofs.Meaning.{and_true, all_cancel_tells, max_abs_is_largest}
use Rattle.weld.specs.Weld.{welded}
use Rattle.verdict.specs.Verdict.{too_large, near_zero, by_faces, by_chain, quality}
use Rattle.verdict.specs.Meaning.{last_used, faces_asked, ClosedSays, OpenSays, CancelsOut, DegenerateSays, VerdictMeans}
use Rattle.verdict.specs.declared.Quality.{Quality}
use Rattle.verdict.specs.declared.Quality.TheVariants.{Closed, OpenShell, Degenerate}
use Rattle.verdict.proofs.Meaning.{no_box, too_large_lem, within_box, unasked, one_sided, cancels, not_cancelled, as_given, as_welded}
use Rattle.verdict.proofs.Meaning.{open_still}

-- where all sums are 0 none has a magnitude
cancelled_small : (ids : List ℕ) → all_cancel ids ≡ true → max_abs ids < 2
cancelled_small ids h =
    elim (dec_le (max_abs ids) 1) [
      | yes l ↦ omega arith
      | no l ↦ (let w = (max_abs_is_largest ids).reached (omega arith) in
          let none : nat_abs (signed_sum same_face w.0 (faces ids)) ≡ 0 = ap nat_abs ((all_cancel_tells ids).sound h w.0) in
          absurd (omega (arith, w.1, none)))
    ]

and_false : (a b : Bool) → (a ≡ true → b ≡ false) → a && b ≡ false
and_false true b h = h refl
and_false false b h = refl

-- no verdict is another
tag : Quality → ℕ
tag Closed = 0
tag OpenShell = 1
tag Degenerate = 2

module _ (vs : List Float) (ids : List ℕ) (ε volume box : Float) where
  abbrev used : List ℕ
  used = last_used vs ids ε

  abbrev near : Bool
  near = near_zero volume box

  abbrev verdict : Quality
  verdict = quality vs ids ε volume box

  -- ---- one law a way through the tests

  by_used : boundary_free used ≡ true → by_chain vs ids ε near ≡ by_faces used near
  by_used = go (boundary_free ids) refl
    where
      go : (b : Bool) → boundary_free ids ≡ b → boundary_free (cond b ids (welded vs ids ε)) ≡ true
          → by_chain vs ids ε near ≡ by_faces (cond b ids (welded vs ids ε)) near
      go true h k = as_given vs ids ε near h
      go false h k = as_welded vs ids ε near h k

  still_open : boundary_free used ≡ false → by_chain vs ids ε near ≡ OpenShell
  still_open = go (boundary_free ids) refl
    where
      go : (b : Bool) → boundary_free ids ≡ b → boundary_free (cond b ids (welded vs ids ε)) ≡ false → by_chain vs ids ε near ≡ OpenShell
      go true h k = absurd (true≢false (sym h ∙ k))
      go false h k = open_still vs ids ε near h k

  -- ---- what each meaning makes the verdict

  closed_told : ClosedSays used volume box → verdict ≡ Closed
  closed_told h =
      within_box vs ids ε volume box h.has_box h.within_box ∙ (by_used h.boundary_free_lem ∙ go (faces_asked used near) refl)
    where
      go : (b : Bool) → faces_asked used near ≡ b → by_faces used near ≡ Closed
      go false k = unasked used near k
      go true k =
          not_cancelled used near k (lt-leb 2 (max_abs used) (h.one_sided_nowhere k)) (and_false near (all_cancel used) h.encloses)

  open_told : OpenSays used volume box → verdict ≡ OpenShell
  open_told h = by_volume (too_large volume box) refl
    where
      by_ids : (b : Bool) → boundary_free used ≡ b → too_large volume box ≡ false → by_chain vs ids ε near ≡ OpenShell
      by_ids false k small = still_open k
      by_ids true k small =
          by_used k
          ∙ ⊎_elim (λ large. absurd (true≢false (sym large ∙ small)))
          (⊎_elim (λ bounded. absurd (true≢false (sym k ∙ bounded))) (λ f. one_sided used near f.0 (le-leb 2 (max_abs used) f.1)))
          h.why

      by_volume : (b : Bool) → too_large volume box ≡ b → verdict ≡ OpenShell
      by_volume true k = too_large_lem vs ids ε volume box h.has_box k
      by_volume false k = within_box vs ids ε volume box h.has_box k ∙ by_ids (boundary_free used) refl k

  degenerate_told : DegenerateSays used volume box → verdict ≡ Degenerate
  degenerate_told = ⊎_elim (no_box vs ids ε volume box) (λ h. by_box h (le box nought) refl)
    where
      by_box : CancelsOut used volume box → (b : Bool) → le box nought ≡ b → verdict ≡ Degenerate
      by_box h true k = no_box vs ids ε volume box k
      by_box h false k =
          within_box vs ids ε volume box k h.within_box
          ∙ (by_used h.boundary_free_lem
          ∙ cancels used near (or_right (over_incident used) near h.near_zero_lem)
          (lt-leb 2 (max_abs used) (cancelled_small used h.cancels))
          (and_true near (all_cancel used) h.near_zero_lem h.cancels))

  -- ---- every mesh has one of the three

  abbrev Some : Type 0
  Some = ClosedSays used volume box ⊎ (OpenSays used volume box ⊎ DegenerateSays used volume box)

  by_faces_lem : le box nought ≡ false → too_large volume box ≡ false → boundary_free used ≡ true → Some
  by_faces_lem some small free = by_sums (faces_asked used near) refl (dec_le 2 (max_abs used))
    where
      unless_cancelled : (faces_asked used near ≡ true → max_abs used < 2) → (n : Bool) → near ≡ n → (c : Bool) → all_cancel used ≡ c → Some
      unless_cancelled few true hn true hc =
          inr (inr (inr (record { within_box = small; boundary_free_lem = free; near_zero_lem = hn; cancels = hc })))
      unless_cancelled few true hn false hc =
          inl (record { has_box = some; within_box = small; boundary_free_lem = free; one_sided_nowhere = few; encloses = λ h. hc })
      unless_cancelled few false hn c hc =
          inl (record {
            has_box = some;
            within_box = small;
            boundary_free_lem = free;
            one_sided_nowhere = few;
            encloses =
                λ h. absurd (true≢false (sym h ∙ hn));
          })

      by_sums : (a : Bool) → faces_asked used near ≡ a → Dec (2 ≤ max_abs used) → Some
      by_sums true asked (yes l) = inr (inl (record { has_box = some; why = inr (inr (asked, l)) }))
      by_sums true asked (no l) = unless_cancelled (λ h. omega arith) near refl (all_cancel used) refl
      by_sums false asked d = unless_cancelled (λ h. absurd (true≢false (sym h ∙ asked))) near refl (all_cancel used) refl

  covers : Some
  covers = by_box (le box nought) refl (too_large volume box) refl (boundary_free used) refl
    where
      by_box : (b : Bool) → le box nought ≡ b → (l : Bool) → too_large volume box ≡ l → (f : Bool) → boundary_free used ≡ f → Some
      by_box true hb l hl f hf = inr (inr (inl hb))
      by_box false hb true hl f hf = inr (inl (record { has_box = hb; why = inl hl }))
      by_box false hb false hl false hf = inr (inl (record { has_box = hb; why = inr (inl hf) }))
      by_box false hb false hl true hf = by_faces_lem hb hl hf

  by : {P : Type 0} → (ClosedSays used volume box → P) → (OpenSays used volume box → P) → (DegenerateSays used volume box → P) → P
  by f g h = ⊎_elim f (⊎_elim g h) covers

  -- so the verdict says which: the other two would make it another
  other : {P : Type 0} (q q' : Quality) → verdict ≡ q → verdict ≡ q' → (tag q ≡ tag q' → ⊥) → P
  other q q' h k apart = absurd (apart (ap tag (sym h ∙ k)))

  pub verdict_means : VerdictMeans vs ids ε volume box
  unfolding tag
  verdict_means = record {
    closed = record {
      sound = λ h. by (λ c. c) (λ o. other Closed OpenShell h (open_told o) (λ e. omega arith))
          (λ d. other Closed Degenerate h (degenerate_told d) (λ e. omega arith));
      complete = closed_told;
    };
    open_shell = record {
      sound = λ h. by (λ c. other OpenShell Closed h (closed_told c) (λ e. omega arith)) (λ o. o)
          (λ d. other OpenShell Degenerate h (degenerate_told d) (λ e. omega arith));
      complete = open_told;
    };
    degenerate = record {
      sound = λ h. by (λ c. other Degenerate Closed h (closed_told c) (λ e. omega arith))
          (λ o. other Degenerate OpenShell h (open_told o) (λ e. omega arith)) (λ d. d);
      complete = degenerate_told;
    };
  }
