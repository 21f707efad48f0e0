-- `sums::triangle::facet_by` meets its contract: each field is what its callee answers. Assumes nothing.
use Rattle.sums.specs.inner.Prepared.{facet_by}
use Rattle.sums.proofs.triangle.facet_by.Goals as goal

pub returns : goal.returns
unfolding facet_by
returns c =
    rw (
      c.narrow.ensures,
      c.narrow-2.ensures,
      c.narrow-3.ensures,
      c.narrow-4.ensures,
    )
