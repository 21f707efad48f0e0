-- What the words of the table mean after a vertex becomes another: marks and cells are as before. Assumes nothing.
use mathlib.Core.Path.{◌≡◌}
use mathlib.Core.Logic.{◌≢◌}
use mathlib.Core.List.{List}
use Prim.Native.Nat.{ℕ, ◌+◌, ◌*◌, ◌%◌, ◌<◌}
use native.Mathlib.Omega.{arith}
use native.Mathlib.Decide.{ℕ_discrete}
use lib.ListN.{length, get_or, set}
use lib.Seq.{get_or-set_same, get_or-set_other}
use Rattle.slots.specs.inner.Forms.{wide}
use Rattle.slots.specs.inner.Slots.{mark_in, entry_key}
use Rattle.slots.specs.inner.Laws.{wide_laws}
use Rattle.cells.specs.inner.Table.{name_in}

abbrev pub noted : List ℕ → ℕ → ℕ → List ℕ
noted t v name = set t v (get_or t v 0 % 65536 + 65536 * name)

module _ (t : List ℕ) (v name : ℕ) (fits : v < length t) where
  noted_at : get_or (noted t v name) v 0 ≡ get_or t v 0 % 65536 + 65536 * name
  noted_at = get_or-set_same t v _ 0 fits

  noted_off : (i : ℕ) → i ≢ v → get_or (noted t v name) i 0 ≡ get_or t i 0
  noted_off i ne = get_or-set_other t v i _ 0 ne

  mark_noted : (i : ℕ) → mark_in wide (noted t v name) i ≡ mark_in wide t i
  unfolding mark_in
  mark_noted i = elim (ℕ_discrete i v) [ yes e ↦ rw e (omega (arith, noted_at)) | no e ↦ rw (noted_off i e) ]

  pub marks_noted : mark_in wide (noted t v name) ≡ mark_in wide t
  marks_noted = λ i r. mark_noted r i

  pub keys_noted : (n : ℕ) → v < n → entry_key wide n (noted t v name) ≡ entry_key wide n t
  unfolding entry_key
  keys_noted n l = λ i j. wide_laws.told _ (λ d. get_or t (2 * n + 6 * j + d) 0) (λ d b. noted_off (2 * n + 6 * j + d) (omega arith)) i

  pub name_noted_at : name_in (noted t v name) v ≡ name
  unfolding name_in
  name_noted_at = omega (arith, noted_at)

  pub name_noted_off : (i : ℕ) → i ≢ v → name_in (noted t v name) i ≡ name_in t i
  unfolding name_in
  name_noted_off i ne = rw (noted_off i ne)
