-- `probe::probe_footprint_raw` meets its contract: the footprint where the raster is long enough. Assumes nothing.
use mathlib.Core.Path.{◌≡◌, refl}
use borrow.Author.Tests.{lt-ltb, le-ltb}
use Rattle.raster.specs.Footprint.{footprint}
use Rattle.probe.specs.inner.Asked.{window_at}
use Rattle.probe.proofs.probe_footprint_raw.Goals as goal
use Rattle.probe.proofs.probe_footprint_raw.Lts as lts
use Rattle.probe.proofs.probe_footprint_raw.Tie.{the-claims}
use Rattle.probe.proofs.probe_footprint_raw.Reads.{Pre, Post}

-- where the footprint is found
module _ (c : lts.After-footprint_raw the-claims Pre Post) where
  found : c.footprint_raw-found.result ≡ footprint c.args.vertices.now c.args.ids.now
      (window_at c.args.axes.now c.args.bounds.now)
  found = rw (← c.axis-u.ensures, ← c.axis-v.ensures, ← c.window_on-s.ensures) c.footprint_raw-found.ensures.0

pub returns-then-area-lt65536 : goal.returns-then-area-lt65536
returns-then-area-lt65536 c = rw (lt-ltb _ _ c.if-area-lt65536.true) (refl, refl, refl)

pub returns : goal.returns
returns c =
    rw (le-ltb _ _ c.if-area-lt65536.false, ← found c.before.before.before.before.before) (refl, refl, c.footprint_raw-found.ensures.1)
