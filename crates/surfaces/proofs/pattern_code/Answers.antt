-- `surfaces::pattern_code` meets its contract: by the size and the sign that the pattern has. Assumes nothing.
use Rattle.std.proofs.Common.{◌≡◌, ◌-◌, ◌*◌, ◌/◌, ◌^◌, ◌<◌, min, refl, ◌∙◌, arith}
use lib.Ieee.{Float, binary32, of_bits, to_signed}
use Rattle.ieee.specs.Integral.{half_away}
use Rattle.ieee.specs.Single.{◌⊗◌}
use Rattle.cells.specs.inner.Table.{coded}
use Rattle.cells.proofs.Signs.{by_pattern}
use Rattle.surfaces.specs.Surfaces.{ten, tenths}
use Rattle.surfaces.proofs.pattern_code.Goals as goal
use Rattle.surfaces.proofs.pattern_code.Lts as lts
use Rattle.surfaces.proofs.pattern_code.Tie.{the-claims}
use Rattle.surfaces.proofs.pattern_code.Reads.{Pre, Post}

-- the float y with the pattern b
small : (c : lts.After-half_size the-claims Pre Post) (y : Float) → of_bits binary32 c.args.b ≡ y → let n = c.half_size-n.result in
    (2 * n - min (c.args.b / 2 ^ 31) n ≡ coded (to_signed 31 (half_away binary32 y))) × (n < 2 ^ 31)
small c y is =
    by_pattern binary32 31 (omega arith) y c.args.b c.half_size-n.result is c.requires.0 c.requires.1 c.half_size-n.ensures

pub coded_size-requires : goal.coded_size-requires
coded_size-requires c = omega (arith, (small c _ refl).1)

pub returns : goal.returns
unfolding tenths
returns c = λ x is. c.coded_size.ensures ∙ (small c.before (x ⊗ ten) is).0
