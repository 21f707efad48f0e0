-- `surfaces::tenfold` meets its contract: a product has a pattern, which is read back. Assumes nothing.
use Rattle.std.proofs.Common.{ap, ◌∙◌}
use lib.Ieee.{binary32, of_bits}
use lib.Ieee.Bits.{of_bits-to_bits, to_bits-lt}
use lib.Ieee.Fits.{mul-fits}
use Rattle.ieee.specs.Single.{◌⊗◌}
use Rattle.surfaces.specs.Surfaces.{ten}
use Rattle.surfaces.proofs.tenfold.Goals as goal

pub returns : goal.returns
returns c =
    let x = c.args.c in
    let fit = mul-fits binary32 x ten in (
      ap (of_bits binary32) c.bits.ensures ∙ of_bits-to_bits binary32 (x ⊗ ten) fit,
      rw c.bits.ensures (to_bits-lt binary32 (x ⊗ ten) fit),
    )
