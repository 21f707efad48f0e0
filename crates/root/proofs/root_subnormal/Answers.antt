-- `root::root_subnormal` meets its contract. Assumes nothing.
use Rattle.std.proofs.Common.{◌≡◌, ◌/◌, ◌%◌, ◌^◌, ◌∙◌, mod-eq_of_lt, arith}
use lib.Count.{count_leading_zeros}
use Rattle.ieee.proofs.Patterns.Root.{Shifted, above_bits, shifted_out, subnormal_root, uncut}
use Rattle.root.proofs.root_subnormal.Goals as goal
use Rattle.root.proofs.root_subnormal.Goals.{Start}

facts : (c : Start) → Shifted c.args.t (count_leading_zeros 64 c.args.t)
facts c = shifted_out c.args.t c.requires.0 c.requires.1

pub overflow_cast-z : goal.overflow_cast-z
overflow_cast-z c = let h = (facts c).most in omega arith

pub overflow_sub-z : goal.overflow_sub-z
overflow_sub-z c = (facts c).eleven

pub overflow_shl-t : goal.overflow_shl-t
overflow_shl-t c = let h = (facts c).most in omega arith

pub overflow_sub-z-2 : goal.overflow_sub-z-2
overflow_sub-z-2 c = let h = (facts c).most in omega arith

pub root_scaled-requires : goal.root_scaled-requires
root_scaled-requires c = let h = facts c in rw (uncut h) (h.from, h.below, omega arith)

pub returns : goal.returns
returns c =
    let t = c.args.t in
    let digits : t % 2 ^ 52 ≡ t = mod-eq_of_lt c.requires.1 in
    above_bits t _ (omega arith) (λ z. omega arith)
    (c.root_scaled.ensures.0 ∙ rw digits (subnormal_root (t % 2 ^ 63 / 2 ^ 52) t (count_leading_zeros 64 t) (omega arith) (facts c.before)))
