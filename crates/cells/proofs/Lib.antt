-- From a cell as numbers and the vertex that names it, over the words of the table, to one vertex more.
pub mod Signs
pub mod Codes
pub mod Names
mod Words
pub mod Welding
