-- One triangle more; what the rows are worth; no sum overflows; a mesh turned inside out.
mod Counting
mod Turns
pub mod Counts
pub mod Worth
pub mod Finite
pub mod Turned
