-- `volume::best_volume` meets its contract: the prism is asked for an open shell alone. Assumes nothing.
use Rattle.volume.specs.Best.{best_of}
use Rattle.volume.specs.Pairs.{pairs_of}
use Rattle.volume.proofs.best_volume.Goals as goal

pub returns-in-Closed : goal.returns-in-Closed
unfolding best_of pairs_of
returns-in-Closed c =
    let e = c.without_footprints.ensures in
    (rw c.in-Closed.is (cc), rw c.in-Closed.is e.1, e.2)

pub returns-in-OpenShell : goal.returns-in-OpenShell
unfolding best_of pairs_of
returns-in-OpenShell c = (
  rw c.in-OpenShell.is (cc),
  rw c.in-OpenShell.is c.prism-p.ensures.1,
  c.prism-p.ensures.2,
)
