-- Laws of rows: as floats, counted, compared, sorted; of a row that sinks; of areas; of rows that are changed one by one, and of opposite
-- ones.
pub mod Flat
mod Counts
pub mod Fours
pub mod Comparing
pub mod Order
mod Sinking
pub mod Areas
mod Kept
pub mod Mapped
pub mod Opposite
pub mod Erased
