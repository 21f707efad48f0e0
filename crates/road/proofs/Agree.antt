-- Records and pairs that agree by the verdict: all but best volume, method, trust, bound and pairs agree whatever it is, and all where it
-- is not open. Assumes nothing.
use mathlib.Core.Path.{◌≡◌, refl, subst, sym}
use mathlib.Core.Logic.{◌≢◌}
use Rattle.verdict.specs.declared.Quality.{Quality}
use Rattle.volume.specs.declared.Pairs.{Pairs}
use Rattle.record.specs.declared.MeshQto.{MeshQto}
use Rattle.record.specs.Numbers.{prism_number}
use Rattle.road.specs.Agree.{AgreeButBest, AgreeBy, AgreePairs}

with_itself : (q : MeshQto) → AgreeButBest q q
with_itself q = let bounded : prism_number q.volume_prism_bound_m3 ≡ prism_number q.volume_prism_bound_m3 = refl in search bounded

pub but_best : (v : Quality) (q q' : MeshQto) → AgreeBy v q q' → AgreeButBest q q'
unfolding AgreeBy
but_best Quality.Closed q q' e = subst (AgreeButBest q) (sym e) (with_itself q)
but_best Quality.Degenerate q q' e = subst (AgreeButBest q) (sym e) (with_itself q)
but_best Quality.OpenShell q q' e = e

pub same_record : (v : Quality) (q q' : MeshQto) → AgreeBy v q q' → v ≢ Quality.OpenShell → q' ≡ q
unfolding AgreeBy
same_record Quality.Closed q q' e shut = e
same_record Quality.Degenerate q q' e shut = e
same_record Quality.OpenShell q q' e shut = absurd (shut refl)

pub same_pairs : (v : Quality) (p p' : Pairs) → AgreePairs v p p' → v ≢ Quality.OpenShell → p' ≡ p
unfolding AgreePairs
same_pairs Quality.Closed p p' e shut = e
same_pairs Quality.Degenerate p p' e shut = e
same_pairs Quality.OpenShell p p' e shut = absurd (shut refl)
