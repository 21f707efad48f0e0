-- Each contract leaves one answer; room for the face net's number; a cleared part as an empty table.
pub mod Answers
pub mod Numbers
mod Chain
