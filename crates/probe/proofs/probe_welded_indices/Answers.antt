-- `probe::probe_welded_indices` meets its contract: the weld where the part has just the words needed. Assumes nothing.
use mathlib.Core.Path.{refl}
use borrow.Author.Tests.{le-leb, lt-leb, eq-eqb, ne_eqb}
use Rattle.probe.proofs.probe_welded_indices.Goals as goal

pub returns-then-vertices-gt-MOST_ENTRIES : goal.returns-then-vertices-gt-MOST_ENTRIES
returns-then-vertices-gt-MOST_ENTRIES c = rw (lt-leb _ _ c.if-vertices-gt-MOST_ENTRIES.true) (refl, refl)

pub returns-then-part-needed : goal.returns-then-part-needed
returns-then-part-needed c =
    (rw (le-leb _ _ c.if-vertices-gt-MOST_ENTRIES.false, eq-eqb _ _ c.if-part-needed.true), c.welded_indices.ensures)

pub returns : goal.returns
returns c = (rw (le-leb _ _ c.if-vertices-gt-MOST_ENTRIES.false, ne_eqb _ _ c.if-part-needed.false), refl)
