-- Why the place does not show: from one coordinate to the answers of `compute`.
pub mod Shifted
pub mod Vertices
pub mod Box
pub mod Triangles
pub mod Epsilon
pub mod Cells
pub mod Weld
pub mod Record
pub mod Place
pub mod Numbered
pub mod Stations
pub mod Example
