-- The vertex that names a cell is the first with that cell, so two vertices have one name just where they have one cell. Assumes nothing.
use mathlib.Core.Path.{◌≡◌, refl, sym, ap, ◌∙◌}
use mathlib.Core.Logic.{◌≢◌, ◌⊎◌, inl, inr, ⊎_elim}
use mathlib.Core.Bool.{Bool, true, false, cond}
use mathlib.Core.List.{List}
use Prim.Native.Nat.{ℕ, zero, suc, ◌+◌, ◌≤◌, ◌<◌}
use native.Mathlib.Omega.{arith}
use native.Mathlib.Decide.{ℕ_discrete, dec_lt}
use lib.Ieee.{Float}
use Rattle.ids.proofs.Same.{same_ne}
use Rattle.slots.proofs.Codes.{by}
use Rattle.cells.specs.Cells.{cell_at, same_cell, first_that, named}
use Rattle.cells.specs.Named.{NamesCell}
use Rattle.cells.specs.inner.Table.{cell_code, vertex_code}
use Rattle.cells.proofs.Codes.{code_one, cell_eq, cell_refl}

-- ---- the first that passes

module _ (test : ℕ → Bool) where
  pub first_is : (n j f : ℕ) → j ≤ f → f ≤ j + n → ((i : ℕ) → j ≤ i → i < f → test i ≡ false) → (f < j + n → test f ≡ true)
      → first_that test n j ≡ f
  unfolding first_that
  first_is zero j f a b miss hit = omega arith
  first_is (suc n) j f a b miss hit =
      go (ℕ_discrete j f) (λ l. first_is n (suc j) f l (omega arith) (λ i p q. miss i (omega arith) q) (λ q. hit (omega arith)))
    where
      go : Dec (j ≡ f) → (suc j ≤ f → first_that test n (suc j) ≡ f) → cond (test j) j (first_that test n (suc j)) ≡ f
      go (yes e) ih = let h : test j ≡ true = rw e (hit (omega arith)) in rw h e
      go (no e) ih = rw (miss j (omega arith) (omega arith)) (ih (omega arith))

  -- what is before it does not pass, and it does, unless there is none
  pub first_misses : (n j i : ℕ) → j ≤ i → i < first_that test n j → test i ≡ false
  unfolding first_that
  first_misses zero j i a b = absurd (omega arith)
  first_misses (suc n) j i a b = by (test j)
      (λ h. let c : i < j = rw h at b in absurd (omega arith))
      (λ h. elim (ℕ_discrete j i) [ yes e ↦ rw (← e) h | no e ↦ first_misses n (suc j) i (omega arith) (rw h at b) ])

  pub first_passes : (n j : ℕ) → ((first_that test n j < j + n) × (test (first_that test n j) ≡ true)) ⊎ (first_that test n j ≡ j + n)
  unfolding first_that
  first_passes zero j = inr (omega arith)
  first_passes (suc n) j = by (test j)
      (λ h. rw h (inl (omega arith, h)))
      (λ h. rw h (⊎_elim (λ w. inl (omega (arith, w.0), w.1)) (λ w. inr (omega (arith, w))) (first_passes n (suc j))))

-- ---- the vertex that names v's cell

module _ (vs : List Float) (inv : Float) where
  abbrev like : ℕ → ℕ → Bool
  like v j = same_cell (cell_at vs inv j) (cell_at vs inv v)

  -- it is no later than v, has v's cell, and no earlier one has
  pub named_within : (v : ℕ) → named vs inv v ≤ v
  unfolding named
  named_within v = ⊎_elim (λ w. omega (arith, w.0)) (λ w. omega (arith, w)) (first_passes (like v) v 0)

  pub named_alike : (v : ℕ) → cell_at vs inv (named vs inv v) ≡ cell_at vs inv v
  unfolding named
  named_alike v = ⊎_elim
      (λ w. cell_eq _ _ w.1)
      (λ w. let e : first_that (like v) v 0 ≡ v = omega (arith, w) in ap (cell_at vs inv) e)
      (first_passes (like v) v 0)

  pub named_first : (v j : ℕ) → j < named vs inv v → cell_at vs inv j ≢ cell_at vs inv v
  unfolding named
  named_first v j l = same_ne same_cell cell_refl (cell_at vs inv j) (cell_at vs inv v) (first_misses (like v) v 0 j (omega arith) l)

  pub named_names : (v : ℕ) → NamesCell vs inv v (named vs inv v)
  named_names v = record { not_behind = named_within v; alike = named_alike v; first_of = named_first v }

  -- and only one vertex is that
  pub named_is : (v f : ℕ) → NamesCell vs inv v f → named vs inv v ≡ f
  unfolding named
  named_is v f c =
      let l = c.not_behind in
      first_is (like v) v 0 f (omega arith) (omega arith)
      (λ i p q. by (like v i) (λ s. absurd (c.first_of i q (cell_eq (cell_at vs inv i) (cell_at vs inv v) s))) (λ s. s))
      (λ q. rw c.alike (cell_refl (cell_at vs inv v)))

  -- a vertex that names its own cell names that of each later vertex in it
  pub named_by : (f v : ℕ) → named vs inv f ≡ f → f ≤ v → cell_at vs inv f ≡ cell_at vs inv v → named vs inv v ≡ f
  named_by f v own l e =
      named_is v f (record { not_behind = l; alike = e; first_of = λ j b z. named_first f j (omega (arith, own)) (z ∙ sym e) })

  no_later : (u v : ℕ) → cell_at vs inv u ≡ cell_at vs inv v → named vs inv u ≤ named vs inv v
  no_later u v e =
      elim (dec_lt (named vs inv v) (named vs inv u)) [
        | yes l ↦ absurd (named_first u (named vs inv v) l (named_alike v ∙ sym e))
        | no l ↦ omega arith
      ]

  -- vertices of one cell have one name
  pub named_one : (u v : ℕ) → cell_at vs inv u ≡ cell_at vs inv v → named vs inv u ≡ named vs inv v
  named_one u v e = omega (arith, no_later u v e, no_later v u (sym e))

  -- and vertices of one name have one cell
  pub named_tells : (u v : ℕ) → named vs inv u ≡ named vs inv v → cell_at vs inv u ≡ cell_at vs inv v
  named_tells u v e = sym (named_alike u) ∙ ap (cell_at vs inv) e ∙ named_alike v

  -- ---- by codes, as a table has them

  pub known_name : (f v : ℕ) → named vs inv f ≡ f → f ≤ v → vertex_code vs inv f ≡ vertex_code vs inv v → named vs inv v ≡ f
  known_name f v own l e = named_by f v own l (code_one (cell_at vs inv f) (cell_at vs inv v) e)

  pub new_name : (v : ℕ) → ((j : ℕ) → j < v → vertex_code vs inv j ≢ vertex_code vs inv v) → named vs inv v ≡ v
  new_name v h = named_is v v (record { not_behind = omega arith; alike = refl; first_of = λ j l e. h j l (ap cell_code e) })
