-- Raster (01): the definition of the footprint, and how many cells it can have (02, A3).
pub mod Footprint
pub mod Cells
pub mod inner
