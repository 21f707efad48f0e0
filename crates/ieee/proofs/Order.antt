-- The order of floats, and what keeps it.
pub mod Ranks
pub mod Comparison
pub mod Signed
pub mod Extremes
pub mod Monotone
pub mod Differences
pub mod Magnitudes
pub mod Quotients
pub mod Ranges
pub mod Casts
