-- What the definitions are worth to a reader: no value of the format is nearer; floor, ceiling and half away are what they are called.
pub mod Neighbours
pub mod Rounded
pub mod Range
pub mod Root
pub mod Whole
