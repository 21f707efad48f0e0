-- Bit patterns (IEEE 754-2019 3.4): what is read from one, how a result is written, and each helper's answer by the pattern.
pub mod Nan
pub mod Back
pub mod Fields
pub mod Signs
pub mod Packing
pub mod Shifted
pub mod Whole
pub mod Integral
pub mod Integer
pub mod WholePart
pub mod Rounding
pub mod Narrowed
pub mod Root
pub mod Cube
