-- `meshfile::beside` meets its contract: the parts are as long as the layout says. Assumes nothing.
use Prim.Native.Nat.{◌+◌, ◌*◌}
use native.Mathlib.Omega.{arith}
use Rattle.words.proofs.Parts.{part_words}
use Rattle.meshfile.specs.inner.Steps.{contents_at}
use Rattle.meshfile.proofs.beside.Goals as goal

pub returns : goal.returns
unfolding contents_at
returns g c =
    let p = c.args.p in
    let bytes = c.args.bytes.now in
    rw (
      part_words 16 p.floats bytes (omega (arith, c.requires)),
      part_words (22 + 4 * p.floats) p.ids bytes c.requires,
      c.from_word.ensures,
      c.u32_at.ensures,
      c.profile_of.ensures,
    )
