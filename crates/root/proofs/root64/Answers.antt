-- `root::root64` meets its contract: on patterns, and a NaN is its own root. Assumes nothing.
use Rattle.std.proofs.Common.{◌≡◌, ℕ, true, sym, ◌∙◌, arith}
use lib.Ieee.{Float, binary64, fits, ne, of_bits, to_bits}
use lib.Ieee.Bits.{of_bits-to_bits}
use denote.Floats.{passes}
use Rattle.ieee.specs.Root.{root}
use Rattle.ieee.proofs.Patterns.Back.{read_back}
use Rattle.ieee.proofs.Patterns.Nan.{is_nan_lem, ne_self, same_no_nan, up_to_inf}
use Rattle.ieee.proofs.Values.Root.{root_fits}
use Rattle.root.proofs.Range.{inside}
use Rattle.root.proofs.root64.Goals as goal

own_root : (x : Float) → ne x x ≡ true → x ≡ root binary64 x
unfolding root
own_root x h = rw (is_nan_lem x (sym (ne_self x) ∙ h))

-- from patterns to floats
back : (x : Float) (r : ℕ) → fits binary64 x ≡ true → r ≡ to_bits binary64 (root binary64 (of_bits binary64 (to_bits binary64 x)))
    → of_bits binary64 r ≡ root binary64 x
back x r h p = rw (p, read_back binary64 x h) (of_bits-to_bits binary64 (root binary64 x) (root_fits binary64 x (passes _ h)))

pub returns-then-x : goal.returns-then-x
returns-then-x c = own_root c.args.x c.if-x.true

pub float_to_bits-b : goal.float_to_bits-b
float_to_bits-b c = same_no_nan c.args.x c.if-x.false

pub root_normal-requires : goal.root_normal-requires
root_normal-requires c = inside (to_bits binary64 c.args.x) c.if-b.true

pub float_from_bits-result : goal.float_from_bits-result
float_from_bits-result c = up_to_inf binary64 _ (omega (arith, c.root_normal.ensures.1))

pub returns-then-b : goal.returns-then-b
returns-then-b c =
    back c.args.x c.root_normal.result c.well_formed.0.1 c.root_normal.ensures.0

pub returns-else-b : goal.returns-else-b
returns-else-b c =
    c.float_of.ensures ∙ back c.args.x _ c.well_formed.0.1 c.root64_bits.ensures
