-- Demand 3 at each station of the road through the definitions: what is seen of a mesh stays where the mesh is moved. (`stations`)
use Rattle.std.specs.Prelude.{◌≡◌, List, ℕ, ◌≤◌, T, ℤ, length, Float}
use Rattle.sums.specs.declared.totals.Thresholds.{Thresholds}
use Rattle.refusals.specs.Refusals.{unit_fits}
use Rattle.road.specs.Stations.{Stations}
use Rattle.place.specs.Moved.{Moved, unit_enough}

abbrev pub as_it_is : {A : Type 0} → A → A
as_it_is x = x

-- whatever the thresholds; rows stay whatever they are; welding asks for a unit of a millimetre at least
abbrev pub StationsStay : Type 0
StationsStay =
    (dx dy dz : ℤ) (vs vs' : List Float) (ids : List ℕ) (u : Float) (p : Thresholds) → Moved dx dy dz vs vs' → 9 ≤ length vs
    → Stations vs vs' ids ids u p (λ t t'. t' ≡ t) as_it_is as_it_is (Unit {0}) (T (unit_enough u) × T (unit_fits u))
