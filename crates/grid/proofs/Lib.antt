-- The laws that the proofs of functions cite.
mod Sides
mod Floors
pub mod Sizes
