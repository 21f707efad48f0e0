-- Which cells a mesh covers, which of these are on the rim, and what the bytes of a raster say of them.
pub mod Covered
pub mod inner
