-- `rounding::to_integer::half_size` meets its contract. Assumes nothing.
use Rattle.std.proofs.Common.{◌≡◌, ◌+◌, ◌%◌, ◌∙◌, arith}
use lib.Ieee.{hid}
use Rattle.ieee.specs.Integral.{half}
use Rattle.ieee.proofs.Patterns.Whole.{few_shift, no_half}
use Rattle.rounding.proofs.to_integer.half_size.Goals as goal
use Rattle.rounding.proofs.to_integer.half_size.Goals.{After-nearest_shift, then-WHOLE-e, else-WHOLE-e}

-- the leading digit and the others
all : (g : _) (c : After-nearest_shift g) → c.FIELD.result + c.trailing.result ≡ hid g.F.Binary.format + c.args.b % hid g.F.Binary.format
all g c = omega (arith, g.met.F.Binary.field_law)

pub returns : goal.returns
returns g c =
    let f = g.F.Binary.format in
    c.nearest_shift.ensures
    ∙ elim c.if-WHOLE-e.branch [ then-WHOLE-e w ↦ few_shift f half _ _ _ _ (all g c) (omega (arith, g.met.F.Binary.whole_law)) (omega (arith, g.met.F.Binary.whole_law)) c.requires | else-WHOLE-e w ↦ no_half f _ _ _ _ (all g c) w.k-is (omega (arith, g.met.F.Binary.whole_law)) (omega (arith, c.trailing.ensures.1)) ]
