-- `slots::claim` meets its contract: from what is written, by the law `claimed`. Assumes nothing.
use mathlib.Core.Path.{◌≡◌, ◌∙◌}
use native.Mathlib.Omega.{arith}
use lib.ListN.{get_or}
use Rattle.slots.specs.inner.Slots.{mark_in}
use Rattle.slots.proofs.Words.{word_fits, claimed}
use Rattle.slots.proofs.claim.Goals as goal

pub overflow_add-part-2 : goal.overflow_add-part-2
unfolding mark_in
overflow_add-part-2 g c =
    let word = get_or c.args.part.now c.args.r 0 in
    omega (
      arith,
      word_fits g.L.Layout.form g.met.L.Layout.laws word c.args.v c.requires.free (omega (arith, c.requires.entry, c.requires.words.small)),
    )

pub returns : goal.returns
returns g c =
    let a = c.args in
    let words : c.WORDS.result ≡ g.L.Layout.form.words = c.WORDS.ensures ∙ g.met.L.Layout.counted in
    claimed g.L.Layout.form g.met.L.Layout.laws a.n a.r a.v a.k a.part.now _ c.requires (rw words at c.put.ensures)
