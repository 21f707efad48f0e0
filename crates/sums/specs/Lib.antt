-- What the sums of the record are made of: Box, Triangles and Slope of document 01, the editions of Slope and what can move from one to the
-- other (02); which meshes pass refusal 4; sums turned over (02).
pub mod Box
pub mod Facet
pub mod Fine
pub mod Totals
pub mod Editions
pub mod SlopeMoves
pub mod Turned
pub mod inner
