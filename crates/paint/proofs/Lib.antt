-- What painting adds to a raster: a byte, a row, a box, a triangle, all triangles; and what it means that a cell is covered, or on the
-- rim.
mod Painting
mod Boxes
mod Covering
pub mod Numbers
pub mod Meaning
