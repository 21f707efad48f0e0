-- Facts on natural numbers, with no float in them.
pub mod Basic
pub mod Scales
pub mod Wholes
pub mod Squares
pub mod CubeSizes
