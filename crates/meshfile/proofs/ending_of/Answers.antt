-- `meshfile::ending_of` meets its contract: the end, or what stands in front. Assumes nothing.
use mathlib.Core.Path.{◌≡◌, refl, sym, ◌∙◌}
use mathlib.Core.Bool.{true}
use borrow.Author.Tests.{eqb-true}
use Rattle.ids.proofs.PassedOn.{passed_on}
use Rattle.meshfile.proofs.Endings.{flags_front, ending_none, ending_by, ending_refused}
use Rattle.meshfile.proofs.ending_of.Goals as goal

pub returns-then-is_empty : goal.returns-then-is_empty
returns-then-is_empty c = ending_none c.args.bytes.now (eqb-true _ _ (sym c.is_empty.ensures ∙ c.if-is_empty.true))

pub flags_in-requires : goal.flags_in-requires
flags_in-requires c = flags_front _ _ (sym c.in_ok-n.ensures)

pub returns-in_err-n : goal.returns-in_err-n
returns-in_err-n c =
    rw (passed_on _ _ c.from_residual.ensures)
    (ending_refused _ _ (λ q. let e : c.is_empty.result ≡ true = rw q at c.is_empty.ensures in cc) c.in_err-n.ensures)

pub returns : goal.returns
returns c =
    c.flags_in.ensures ∙ ending_by _ _ _ (λ q. let e : c.is_empty.result ≡ true = rw q at c.is_empty.ensures in cc) c.in_ok-n.ensures refl
