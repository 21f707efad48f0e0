-- Two sums do not ask for the slope, so nothing that is made of them hangs on the edition; and the areas by slope rise and fall as facets
-- move.
pub mod Sums
pub mod Record
pub mod Outcomes
pub mod Areas
pub mod Moves
pub mod Numbered
