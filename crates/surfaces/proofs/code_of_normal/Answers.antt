-- `surfaces::code_of_normal` meets its contract: each component is coded by its pattern. Assumes nothing.
use Rattle.surfaces.specs.Surfaces.{normal_key}
use Rattle.surfaces.specs.inner.Index.{key_code}
use Rattle.surfaces.proofs.code_of_normal.Goals as goal

pub returns-then-few_tenths : goal.returns-then-few_tenths
unfolding key_code normal_key
returns-then-few_tenths c =
    let n = c.args.n in
    rw (
      c.pattern_code.ensures n.x c.tenfold-x.ensures.0,
      c.pattern_code-then-few_tenths.ensures n.y c.tenfold-y.ensures.0,
      c.pattern_code-then-few_tenths-2.ensures n.z c.tenfold-z.ensures.0,
    )
