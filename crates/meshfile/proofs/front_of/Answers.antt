-- `meshfile::front_of` meets its contract: the five tests are the definition's, in its order. Assumes nothing.
use mathlib.Core.Path.{◌≡◌, sym, ◌∙◌}
use mathlib.Core.Bool.{true}
use native.Mathlib.Omega.{arith}
use Rattle.meshfile.specs.inner.Kinds.{kind_number}
use Rattle.meshfile.specs.Format.{length_fits}
use Rattle.meshfile.proofs.Fronts.{Header, header_cut, wrong_kind, wrong_length, payload_cut, payload_whole}
use Rattle.meshfile.proofs.front_of.Goals as goal
use Rattle.meshfile.proofs.front_of.Lts as lts
use Rattle.meshfile.proofs.front_of.Tie.{the-claims}
use Rattle.meshfile.proofs.front_of.Reads.{Pre, Post}

pub returns-then-bytes-lt6 : goal.returns-then-bytes-lt6
returns-then-bytes-lt6 c = header_cut _ _ (omega (arith, c.if-bytes-lt6.true))

pub returns-then-u16_at-from : goal.returns-then-u16_at-from
returns-then-u16_at-from c =
    wrong_kind _ _ (omega (arith, c.if-bytes-lt6.false)) (λ q. c.if-u16_at-from.true (c.u16_at.ensures ∙ q ∙ sym c.from.ensures))

-- the header, once both of its numbers are read
header : (c : lts.After-u32_at the-claims Pre Post) → Header (kind_number c.args.kind) c.u32_at-n.result c.args.bytes.now
header c =
    record {
      whole = omega (arith, c.if-bytes-lt6.false);
      kind_is = sym c.u16_at.ensures ∙ c.if-u16_at-from.false ∙ c.from.ensures;
      size = sym c.u32_at-n.ensures;
    }

-- its length is one that the kind may have
fits : (c : lts.Else3 the-claims Pre Post) → length_fits (kind_number c.args.kind) c.u32_at-n.result ≡ true
fits c = sym c.length_fits.ensures ∙ c.if-not-length_fits.false

pub returns-then-not-length_fits : goal.returns-then-not-length_fits
returns-then-not-length_fits c = wrong_length (header c.before.before.before) (sym c.length_fits.ensures ∙ c.if-not-length_fits.true)

pub returns-then-bytes-n : goal.returns-then-bytes-n
returns-then-bytes-n c =
    payload_cut (header c.before.before.before.before.before) (fits c.before.before.before) (omega arith)
    (omega (arith, c.if-bytes-n.true))

pub returns : goal.returns
returns c =
    payload_whole (header c.before.before.before.before.before) (fits c.before.before.before) (omega arith)
    (omega (arith, c.if-bytes-n.false))
