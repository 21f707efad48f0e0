-- What the edition can change of a record (02, A6), and what not: over what `compute` and its C form promise.
pub mod ButAreas
pub mod Moves
pub mod Numbered
