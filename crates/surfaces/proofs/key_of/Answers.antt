-- `surfaces::key_of` meets its contract: each component is read back from its code. Assumes nothing.
use Rattle.std.proofs.Common.{ap}
use Rattle.slots.specs.declared.Code.{Code}
use Rattle.surfaces.specs.Surfaces.{normal_key, tenths}
use Rattle.surfaces.specs.inner.Index.{key_code}
use Rattle.surfaces.proofs.Codes.{tenths_kept}
use Rattle.surfaces.proofs.key_of.Goals as goal

pub returns : goal.returns
unfolding key_code normal_key
returns c = λ x y z e.
    rw (
      c.decoded.ensures (tenths x) (ap (λ (l : Code). l.x) e),
      c.decoded-2.ensures (tenths y) (ap (λ (l : Code). l.y) e),
      c.decoded-3.ensures (tenths z) (ap (λ (l : Code). l.z) e),
      tenths_kept x,
      tenths_kept y,
      tenths_kept z,
    )
