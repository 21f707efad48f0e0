-- What the operators do with values, whatever they are written as: signs, sums, what is left as it is.
pub mod OneFloat
pub mod ByValue
pub mod Unchanged
pub mod Totals
pub mod Negation
pub mod Root
pub mod Cube
pub mod Commutes
pub mod AsNumber
pub mod Opposite
