-- Weld (01): the cells of vertices.
pub mod Cells
pub mod Named
pub mod inner
