-- `slots::find` meets its contract: the search starts at the home of the key. Assumes nothing.
use mathlib.Core.Path.{◌≡◌, ap, ◌∙◌, subst}
use Prim.Native.Nat.{ℕ, ◌*◌}
use Rattle.table.specs.inner.Rows.{home_row}
use Rattle.slots.specs.inner.Slots.{code_home, Finds}
use Rattle.slots.proofs.find.Goals as goal

pub returns : goal.returns
unfolding code_home
returns g c =
    let a = c.args in
    let starts : c.home-start.result ≡ code_home a.n a.k =
    c.home-start.ensures.0 ∙ ap (home_row (2 * a.n)) c.hash.ensures in
    subst (λ (s : ℕ). Finds g.L.Layout.form a.n a.part.now s a.k c.find_from.result) starts c.find_from.ensures
