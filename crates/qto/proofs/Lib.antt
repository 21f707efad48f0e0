-- The record by its parts, what comes back, and that all its numbers are finite, its counts add up and its pairs fit.
pub mod Outcomes
pub mod RowsAre
pub mod Counts
pub mod Pairs
mod FinitePrism
pub mod Finite
pub mod Starred
mod Arranged
pub mod Measured
mod Assembled
mod Fronts
