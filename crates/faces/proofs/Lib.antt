-- From a written row to the table of all faces, and from its rows to the two answers.
pub mod Faces
pub mod Parity
pub mod Rows
pub mod RowSums
mod Adding
pub mod Turns
mod Summing
pub mod Answers
