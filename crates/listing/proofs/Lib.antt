-- The lines that the code picks and fills, rows, what comes back, and that what is printed can be read back.
mod Lines
mod Rows
pub mod Outcomes
pub mod Legible
pub mod Cube
