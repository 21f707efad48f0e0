-- `meshfile::flags_in` meets its contract: its tests are the definition's. Assumes nothing.
use mathlib.Core.Path.{◌≡◌, sym, ◌∙◌}
use mathlib.Core.Bool.{true}
use native.Mathlib.Omega.{arith}
use Rattle.record.specs.Numbers.{flags_fit}
use Rattle.meshfile.proofs.Endings.{flags_unknown, bytes_behind, flags_last}
use Rattle.meshfile.proofs.flags_in.Goals as goal
use Rattle.meshfile.proofs.flags_in.Lts as lts
use Rattle.meshfile.proofs.flags_in.Tie.{the-claims}
use Rattle.meshfile.proofs.flags_in.Reads.{Pre, Post}

pub returns-then-not-flags_fit : goal.returns-then-not-flags_fit
returns-then-not-flags_fit c =
    flags_unknown _ _ _ _ c.byte-clip.ensures.0 c.byte-defect.ensures.0
    (sym c.flags_fit.ensures ∙ c.if-not-flags_fit.true)

-- the flags are known
known : (c : lts.Else1 the-claims Pre Post) → flags_fit c.byte-clip.result c.byte-defect.result ≡ true
known c = sym c.flags_fit.ensures ∙ c.if-not-flags_fit.false

pub returns-then-n-bytes : goal.returns-then-n-bytes
returns-then-n-bytes c =
    bytes_behind _ _ _ _ c.byte-clip.ensures.0 c.byte-defect.ensures.0 (known c.before.before)
    (omega (arith, c.if-n-bytes.true))

pub returns : goal.returns
returns c =
    flags_last _ _ _ _ c.byte-clip.ensures.0 c.byte-defect.ensures.0 (known c.before.before)
    (omega (arith, c.if-n-bytes.false))
