-- The point test, and the arithmetic of a grid of cells over a box (01, Raster; 02, A3).
pub mod Point
pub mod Grid
pub mod inner
