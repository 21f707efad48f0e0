-- Surfaces (01): the rows of the surface area, and their order; what it means that rows are sorted, which says it all; and opposite rows
-- (02).
pub mod Rows
pub mod Plain
pub mod Sorting
pub mod Opposite
pub mod inner
