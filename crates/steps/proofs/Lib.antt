-- From a written row to the table with one use more, and the room that is left.
pub mod Within
mod Added
