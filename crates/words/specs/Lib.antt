-- Numbers in bytes, little-endian: what both file formats, the mesh file's and STL, are read by, and the mesh file is written by.
pub mod Words
