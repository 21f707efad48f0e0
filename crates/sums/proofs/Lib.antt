-- The laws behind the sums: the box vertex by vertex, a triangle's part by its corners, and of a mesh that passes the refusals that its
-- box is finite, its areas are numbers from zero up, what a triangle adds is bounded, no component of a unit normal is above 2, and the
-- unit's powers are above zero and bounded. What a triangle adds when it is turned over; what an edition's thresholds are, what can move to
-- others, and that sums of areas rise.
mod Boxes
pub mod Parts
mod Slopes
pub mod Plus
pub mod Within
pub mod Roots
pub mod Sides
mod VolumeTerm
pub mod FineBoxes
mod Small
pub mod AreaLaws
pub mod Units
pub mod TurnedFacets
pub mod TurnedTotals
pub mod Editions
pub mod Rising
mod Fractions
pub mod UnitNormals
