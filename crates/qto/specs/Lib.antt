-- `compute` (01): the record of a mesh with its pairs (02, A3), and what comes back.
pub mod Full
pub mod Surfaces
pub mod Starred
pub mod Compute
pub mod Counts
pub mod Pairs
pub mod Numbers
pub mod Domain
pub mod inner
