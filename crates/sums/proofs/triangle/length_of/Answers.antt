-- `sums::triangle::length_of` meets its contract: above zero, equal floats are one. Assumes nothing.
use Rattle.std.proofs.Common.{T, sym, ap, ◌∙◌, subst}
use lib.Ieee.{binary64}
use Rattle.ieee.specs.Root.{root}
use Rattle.sums.proofs.Parts.{equal_above}
use Rattle.sums.proofs.triangle.length_of.Goals as goal

pub returns-then-square-last : goal.returns-then-square-last
returns-then-square-last c =
    let F = subst T (sym c.well_formed.0.1) tt in
    let G = subst T (sym c.well_formed.1.0.1) tt in
    c.requires ∙ ap (root binary64) (sym (equal_above c.args.square c.args.last F G (subst T (sym c.if-square-last.true) tt)))
