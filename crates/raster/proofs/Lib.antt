-- How the bytes of a painted raster give the footprint, how many cells it can have, and how it is cleared.
pub mod Counting
pub mod Cells
pub mod Clearing
